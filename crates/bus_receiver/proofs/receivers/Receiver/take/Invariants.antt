use Rattle.std.proofs.Common.{◌≡◌}
use Rattle.bus_receiver.specs.Listening.{bus_of, HearsOn}
use Rattle.bus_receiver.proofs.receivers.Receiver.take.Given as goal

abbrev pub invariant-loop : goal.invariant-loop
invariant-loop g l = HearsOn l.fn.self.me l.self.me × (bus_of l.self ≡ bus_of l.fn.self)
