use Rattle.std.proofs.Common.{ℕ, ◌+◌, ◌-◌, ◌*◌, ◌/◌, ◌<◌, ◌≤◌, length, drop}
use Rattle.bus_journal.specs.Records.{BeginsRecord}
use Rattle.bus_journal.proofs.hidden.hides_record.Given as goal

abbrev pub invariant-loop-before : goal.invariant-loop-before
invariant-loop-before l = (b later : ℕ) → b < l.before → 1 ≤ later → later < b
    → ¬ BeginsRecord l.senders l.most (l.place + later) (drop (8 * b) l.bytes)

abbrev pub decreases-loop-before : goal.decreases-loop-before
decreases-loop-before l = length l.bytes / 8 - l.before
