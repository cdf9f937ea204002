use Rattle.std.proofs.Common.{◌∙◌, arith}
use Rattle.bus_tenure.specs.Elections.{election_with}
use Rattle.bus_replay.proofs.OpeningLemmas.{one_emptied, one_many, one_stays}
use Rattle.bus_replay.proofs.answers.empty_seats.Goals as goal

pub loop-seat-preserved : goal.loop-seat-preserved
loop-seat-preserved g c =
    let X =
    election_with g.Q.Machine.kind_of g.Q.Machine.op g.Q.Machine.fed g.Q.Ratifier.protocol in
    let P = g.Q.Ratifier.protocol in
    let seat = c.loop-seat.seat in
    let mid = c.loop-seat.bus in
    let new = c.gone.new.self in
    let i = c.loop-seat.invariant in
    let goes = c.in-Ok.ensures.answered in
    record {
      low = omega arith;
      within = omega arith;
      many = one_many X P mid new seat goes ∙ i.many;
      emptied = one_emptied X P c.args.bus.now c.args.receivers seat mid new i.low i.emptied goes;
      stay = one_stays X P mid new seat goes i.stay;
    }
