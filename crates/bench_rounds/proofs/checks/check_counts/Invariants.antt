use Rattle.std.proofs.Common.{All, take}
use Rattle.bench_rounds.specs.Checks.{HasEach}
use Rattle.bench_rounds.proofs.checks.check_counts.Given as goal

abbrev pub invariant-loop-receive_worker : goal.invariant-loop-receive_worker
invariant-loop-receive_worker g l = All
    (λ receive_worker. HasEach l.load.senders l.load.messages receive_worker.heard)
    (take l.receive_worker-index l.receive_workers)
