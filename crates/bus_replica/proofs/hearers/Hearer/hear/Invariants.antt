use Rattle.std.proofs.Common.{◌≡◌}
use Rattle.bus_replica.specs.Replicas.{HearsMore}
use Rattle.bus_replica.proofs.hearers.Hearer.hear.Given as goal

abbrev pub invariant-loop : goal.invariant-loop
invariant-loop g l =
    (l.self.bus ≡ l.fn.self.bus) × HearsMore l.fn.self.me l.self.me
