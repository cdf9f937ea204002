use Rattle.std.proofs.Common.{◌≡◌, take, false}
use Rattle.std.specs.List.{list_any}
use Rattle.bus_run.specs.Stops.{is_gate}
use Rattle.bus_run.proofs.closing.gate_refused.Given as goal

abbrev pub invariant-loop-send_worker : goal.invariant-loop-send_worker
invariant-loop-send_worker g l =
    list_any (λ send_worker. is_gate send_worker.fault) (take l.send_worker-index l.send_workers)
    ≡ false
