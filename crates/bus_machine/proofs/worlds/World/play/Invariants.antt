use Rattle.std.proofs.Common.{take, map}
use Rattle.bus_tenure.specs.Elections.{election_with}
use Rattle.bus_world.specs.Playing.{event_told}
use Rattle.bus_machine.specs.Playing.{AllAnswered}
use Rattle.bus_machine.proofs.worlds.World.play.Given as goal

abbrev pub invariant-loop-place : goal.invariant-loop-place
invariant-loop-place g l =
    let X =
    election_with g.Q.Machine.kind_of g.Q.Machine.op g.Q.Machine.fed g.Q.Ratifier.protocol in
    AllAnswered X g.Q.Ratifier.protocol l.initial.self (map event_told (take l.place l.events))
    l.self
