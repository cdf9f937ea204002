use Rattle.std.proofs.Common.{take}
use Rattle.bus_run.specs.Stops.{AreInOrder}
use Rattle.bus_run.specs.Left.{number_of}
use Rattle.bus_run.proofs.closing.are_in_order.Given as goal

abbrev pub invariant-loop-place : goal.invariant-loop-place
invariant-loop-place g l =
    AreInOrder (λ send_worker. number_of send_worker.sender) (take l.place l.send_workers)
