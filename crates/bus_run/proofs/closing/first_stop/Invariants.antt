use Rattle.std.proofs.Common.{take}
use Rattle.bus_run.specs.Stops.{AreUnstopped}
use Rattle.bus_run.proofs.closing.first_stop.Given as goal

abbrev pub invariant-loop-place : goal.invariant-loop-place
invariant-loop-place g l =
    AreUnstopped (λ send_worker. send_worker.fault) (take l.place l.send_workers)
