use Rattle.std.proofs.Common.{All, subst}
use Rattle.std.proofs.lemmas.List.{take_all}
use Rattle.bench_rounds.specs.Checks.{HasEach}
use Rattle.bench_rounds.proofs.Checking.{one_more}
use Rattle.bench_rounds.proofs.checks.check_counts.Goals as goal

pub loop-receive_worker-preserved : goal.loop-receive_worker-preserved
loop-receive_worker-preserved g c = one_more
    (λ receive_worker. HasEach c.args.load.senders c.args.load.messages receive_worker.heard)
    c.args.receive_workers.now c.loop-receive_worker.receive_worker-index
    c.receive_worker-item.result c.loop-receive_worker-test.true c.receive_worker-item.is
    c.loop-receive_worker.invariant (c.first_miscount.ensures c.in_default.is)

pub returns : goal.returns
returns g c = subst
    (All (λ receive_worker. HasEach c.args.load.senders c.args.load.messages receive_worker.heard))
    (take_all c.loop-receive_worker.receive_worker-index c.args.receive_workers.now
    c.loop-receive_worker-test.false) c.loop-receive_worker.invariant
