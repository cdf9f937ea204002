use Rattle.std.proofs.Common.{◌≡◌, map}
use Rattle.std.specs.Prelude.{All}
use Rattle.bus_receiver.specs.Hearing.{nothing}
use Rattle.bus_run.proofs.workers.receive_workers_of.Given as goal

abbrev pub invariant-loop-tap : goal.invariant-loop-tap
invariant-loop-tap g l = record {
  receivers : map (λ receive_worker. receive_worker.receiver) l.receive_workers.items ≡ l.yielded;
  fresh : All (λ receive_worker. receive_worker.heard ≡ nothing) l.receive_workers.items;
}
