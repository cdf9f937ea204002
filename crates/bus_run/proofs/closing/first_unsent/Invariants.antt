use Rattle.std.proofs.Common.{take}
use Rattle.std.specs.Prelude.{All}
use Rattle.bus_run.specs.Stops.{HasSent}
use Rattle.bus_run.proofs.closing.first_unsent.Given as goal

abbrev pub invariant-loop-place : goal.invariant-loop-place
invariant-loop-place g l =
    All (λ send_worker. HasSent l.messages send_worker.sender) (take l.place l.send_workers)
