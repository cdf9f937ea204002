use Rattle.std.proofs.Common.{◌≡◌, ℕ, ◌+◌, ◌∷◌, length, take}
use Rattle.bus_automaton.specs.ThreeWordBuses.{process}
use Rattle.bus_pageslot.specs.Sendings.{limit_of, waiting_of}
use Rattle.bus_replica.specs.Replicas.{IsOpenWith, PutsNow}
use Rattle.bus_replica.proofs.workers.Worker.put_several.Given as goal

abbrev pub invariant-loop-message : goal.invariant-loop-message
invariant-loop-message g l = record {
  bus : l.self.bus ≡ l.fn.self.bus;
  me : (l.self.me ≡ l.fn.self.me) × (l.self.state ≡ l.fn.self.state);
  put : (number : ℕ) × PutsNow process l.fn.self.sender l.self.sender number
      (l.first ∷ take l.message-index l.rest);
  open_with : IsOpenWith (process.queue l.self.sender.core) (limit_of process l.fn.self.sender)
      (length (waiting_of process l.fn.self.sender) + 1 + l.message-index);
}
