use Rattle.std.proofs.Common.{◌≡◌}
use Rattle.bus_replica.specs.Replicas.{GoesOn}
use Rattle.bus_replica.proofs.hearers.Hearer.hear_own.Given as goal

abbrev pub invariant-loop : goal.invariant-loop
invariant-loop g l =
    (l.self.bus ≡ l.fn.self.bus) × GoesOn l.fn.self.me l.self.me
