use Rattle.bus_replica.specs.Replicas.{HaveAllLeft}
use Rattle.bus_replica.proofs.hearers.Hearer.missing.Given as goal

abbrev pub invariant-loop-worker : goal.invariant-loop-worker
invariant-loop-worker g l = HaveAllLeft l.self.me.0 l.worker
