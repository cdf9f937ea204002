use Rattle.std.proofs.Common.{◌≡◌, None, map}
use Rattle.std.specs.Prelude.{All}
use Rattle.bus_run.specs.Words.{generator_of}
use Rattle.bus_run.specs.Left.{number_of}
use Rattle.bus_run.proofs.workers.send_workers_of.Given as goal

abbrev pub invariant-loop-sender : goal.invariant-loop-sender
invariant-loop-sender g l = record {
  senders : map (λ send_worker. send_worker.sender) l.send_workers.items ≡ l.yielded;
  words : All (λ send_worker. send_worker.rng ≡ generator_of l.seed (number_of send_worker.sender))
      l.send_workers.items;
  unstopped : All (λ send_worker. send_worker.fault ≡ None) l.send_workers.items;
}
