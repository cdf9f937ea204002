use Rattle.std.proofs.Common.{◌≡◌, All, take}
use Rattle.bench_rounds.proofs.checks.check_sums.Given as goal

abbrev pub invariant-loop-receive_worker : goal.invariant-loop-receive_worker
invariant-loop-receive_worker g l = All (λ receive_worker. receive_worker.sum ≡ l.sum)
    (take l.receive_worker-index l.receive_workers)
