use Rattle.std.proofs.Common.{◌-◌}
use Rattle.bus_tenure.specs.Elections.{election_with}
use Rattle.bus_world.specs.Playing.{event_told}
use Rattle.bus_replay.proofs.RepeatLemmas.{Repeated}
use Rattle.bus_replay.proofs.playing.repeat.Given as goal

abbrev pub invariant-loop-more : goal.invariant-loop-more
invariant-loop-more g l =
    let X =
    election_with g.Q.Machine.kind_of g.Q.Machine.op g.Q.Machine.fed g.Q.Ratifier.protocol in
    Repeated X g.Q.Ratifier.protocol (event_told l.event) l.fn.bus l.fn.history (l.fn.times - 1)
    l.more l.last l.bus l.history

abbrev pub decreases-loop-more : goal.decreases-loop-more
decreases-loop-more g l = l.more
