use Rattle.std.proofs.Common.{◌≡◌, ℕ, ◌+◌, List, length}
use Rattle.bus_receiver.specs.Forking.{FindsTaken, number_in}
use Rattle.bus_receiver.proofs.receivers.Receiver.fork.Given as goal

abbrev pub invariant-loop-next : goal.invariant-loop-next
invariant-loop-next g l =
    (l.self-inside.tap.table_id ≡ l.fn.self.table_id)
    × (found : List ℕ) × (l.next ≡ number_in l.fn.self.me + 1 + length found)
    × FindsTaken l.fn.self.me found l.self-inside.tap.me
