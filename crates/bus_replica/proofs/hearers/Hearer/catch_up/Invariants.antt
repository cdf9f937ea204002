use Rattle.std.proofs.Common.{◌≡◌}
use Rattle.bus_replica.specs.Replicas.{GoesOn}
use Rattle.bus_replica.proofs.hearers.Hearer.catch_up.Given as goal

abbrev pub invariant-loop : goal.invariant-loop
invariant-loop g l = (l.self.bus ≡ l.fn.self.bus) × GoesOn l.initial.self.me l.self.me
