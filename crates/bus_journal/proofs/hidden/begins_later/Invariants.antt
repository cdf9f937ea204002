use Rattle.std.proofs.Common.{ℕ, ◌+◌, ◌<◌, ◌≤◌}
use Rattle.bus_journal.specs.Records.{BeginsRecord}
use Rattle.bus_journal.proofs.hidden.begins_later.Given as goal

abbrev pub invariant-loop-later : goal.invariant-loop-later
invariant-loop-later l = (later : ℕ) → 1 ≤ later → later < l.later
    → ¬ BeginsRecord l.senders l.most (l.place + later) l.bytes
