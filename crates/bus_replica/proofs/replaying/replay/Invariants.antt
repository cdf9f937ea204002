use Rattle.std.proofs.Common.{take}
use Rattle.bus_replica.specs.Replicas.{Folds}
use Rattle.bus_replica.proofs.replaying.replay.Given as goal

abbrev pub invariant-loop-item : goal.invariant-loop-item
invariant-loop-item g l =
    Folds g.S.State.applies l.initial.state (take l.item-index l.item-items) l.state
