use Rattle.std.proofs.Common.{◌≡◌, None}
use Rattle.bus_automaton.specs.ThreeWordBuses.{process}
use Rattle.bus_core.specs.Seen.{tenure_begun}
use Rattle.bus_replica.specs.Causes.{tells}
use Rattle.bus_replica.specs.Replicas.{PutsStay}
use Rattle.bus_replica.proofs.workers.Worker.settle.Given as goal

abbrev pub invariant-loop : goal.invariant-loop
invariant-loop g l =
    (l.self.bus ≡ l.fn.self.bus) × (l.self.me ≡ l.fn.self.me)
    × (l.self.state ≡ l.fn.self.state) × PutsStay process tells l.fn.self.sender l.self.sender
    × (tenure_begun l.fn.self.sender.core ≡ None → l.self.sender ≡ l.fn.self.sender)
