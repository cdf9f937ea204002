use Rattle.std.proofs.Common.{◌-◌, subst, arith}
use Rattle.bus_tenure.specs.Elections.{election_with}
use Rattle.bus_replay.specs.Answers.{Empties}
use Rattle.bus_replay.proofs.answers.new_ring.Goals as goal

pub empty_seats-requires : goal.empty_seats-requires
empty_seats-requires g c r reader at = (c.in-Ok.ensures.made.new.receivers r reader at).stays

pub returns-in-Ok-clause-made : goal.returns-in-Ok-clause-made
returns-in-Ok-clause-made g c =
    let X =
    election_with g.Q.Machine.kind_of g.Q.Machine.op g.Q.Machine.fed g.Q.Ratifier.protocol in
    let P = g.Q.Ratifier.protocol in
    let made = c.in-Ok.ensures.made in
    record {
      served = c.fault_of.ensures.served c.in_default.is;
      seats = (omega arith, omega arith);
      made = c.in-Ok.bus;
      is_made = made;
      emptied = subst (λ many. Empties X P c.in-Ok.bus c.args.shape.receivers
          (many - c.args.shape.receivers) c.empty_seats.new.bus) made.receivers
          c.empty_seats.ensures;
    }
