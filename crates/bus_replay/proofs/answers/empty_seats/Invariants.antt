use Rattle.std.proofs.Common.{◌≡◌, ◌-◌, ◌≤◌, length}
use Rattle.bus_tenure.specs.Elections.{election_with}
use Rattle.bus_replay.specs.Answers.{Empties}
use Rattle.bus_replay.proofs.OpeningLemmas.{StayFrom}
use Rattle.bus_replay.proofs.answers.empty_seats.Given as goal

abbrev pub invariant-loop-seat : goal.invariant-loop-seat
invariant-loop-seat g l =
    let X =
    election_with g.Q.Machine.kind_of g.Q.Machine.op g.Q.Machine.fed g.Q.Ratifier.protocol in
    record {
      low : l.receivers ≤ l.seat;
      within : l.seat - l.receivers ≤ length l.fn.bus.receivers - l.receivers;
      many : length l.bus.receivers ≡ length l.fn.bus.receivers;
      emptied : Empties X g.Q.Ratifier.protocol l.fn.bus l.receivers (l.seat - l.receivers) l.bus;
      stay : StayFrom l.seat l.bus;
    }
