use Rattle.std.proofs.Common.{◌≡◌, ◌<◌, false, subst, IfNone, IfSome}
use Rattle.bus_replica.specs.Replicas.{HaveAllLeft, has_heard_leave}
use Rattle.bus_replica.proofs.workers.Worker.missing.Goals as goal

pub returns-clause-none : goal.returns-clause-none
returns-clause-none g c =
    rw (← c.self.view_is)
    (subst (λ n. IfNone c.missing.result (HaveAllLeft c.self.inside.hearer.me.0 n))
    c.self.invariant.1 c.missing.ensures.none)

pub returns-clause-first : goal.returns-clause-first
returns-clause-first g c =
    rw (← c.self.view_is)
    (subst (λ n. IfSome c.missing.result
    (λ worker. (worker.0 < n)
    × (has_heard_leave c.self.inside.hearer.me.0 worker.0 ≡ false)
    × HaveAllLeft c.self.inside.hearer.me.0 worker.0))
    c.self.invariant.1 c.missing.ensures.first)
