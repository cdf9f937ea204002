use Rattle.std.proofs.Common.{◌≡◌, All, sym, ◌∙◌, subst}
use Rattle.std.proofs.lemmas.List.{take_all}
use Rattle.bench_rounds.proofs.Checking.{one_more}
use Rattle.bench_rounds.proofs.checks.check_orders.Goals as goal

pub loop-receive_worker-preserved : goal.loop-receive_worker-preserved
loop-receive_worker-preserved g c = one_more
    (λ receive_worker. receive_worker.order.items ≡ c.args.order.now) c.args.receive_workers.now
    c.loop-receive_worker.receive_worker-index c.receive_worker-item.result
    c.loop-receive_worker-test.true c.receive_worker-item.is c.loop-receive_worker.invariant
    (sym c.as_slice.ensures.value ∙ c.is_same.ensures.0 c.if-not-is_same.false)

pub returns : goal.returns
returns g c = subst (All (λ receive_worker. receive_worker.order.items ≡ c.args.order.now))
    (take_all c.loop-receive_worker.receive_worker-index c.args.receive_workers.now
    c.loop-receive_worker-test.false) c.loop-receive_worker.invariant
