use Rattle.std.proofs.Common.{◌≡◌, [], ◌∷◌, ◌++◌}
use Rattle.bus_automaton.specs.ThreeWordBuses.{process}
use Rattle.bus_replica.specs.Causes.{tells, SaysOn}
use Rattle.bus_replica.specs.Replicas.{GoesOn, PutsAll}
use Rattle.bus_replica.proofs.workers.Worker.execute.Given as goal

abbrev pub invariant-loop : goal.invariant-loop
invariant-loop g l =
    goal.F-IsAlwaysCallable g l.go_on × (l.self.bus ≡ l.fn.self.bus)
    × GoesOn l.fn.self.me l.self.me
    × PutsAll process tells l.fn.self.sender l.self.sender l.number (l.before ++ l.op ∷ [])
    × SaysOn (goal.F-step g) l.fn.go_on l.go_on
