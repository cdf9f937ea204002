use Rattle.std.proofs.Common.{◌≡◌}
use Rattle.bus_receiver.specs.Listening.{bus_of, AsksOn}
use Rattle.bus_receiver.proofs.receivers.Receiver.pass_while.Given as goal

abbrev pub invariant-loop : goal.invariant-loop
invariant-loop g l =
    goal.F-IsAlwaysCallable g l.go_on
    × AsksOn (goal.F-step g) l.fn.self.me l.fn.go_on l.self.me l.go_on
    × (bus_of l.self ≡ bus_of l.fn.self) × (l.item ≡ l.fn.item)
