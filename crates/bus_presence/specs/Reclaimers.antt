-- How a holder makes a row ready for the tenure after its own: it loads all presences in rising
-- order, then clears all words of the row.
use Rattle.std.specs.Prelude.{ℕ, ◌+◌, ◌-◌, ◌≤◌, ◌<◌, ◌^◌, Bool, Option, Some, None, ◌==◌, ◌&&◌}
use Rattle.std.specs.Prelude.{nat_lt, nat_le, if◌then◌else◌}
use Rattle.bus_register.specs.declared.limits.TheConstants.{TENURES, MOST_PROCESSES}
use Rattle.bus_register.specs.declared.registers.Op.{Op}
use Rattle.bus_register.specs.declared.registers.Op.TheVariants.{Load, Store}
use Rattle.bus_presence.specs.declared.reclaimers.Behind.{Behind}

-- the past tenure of the row; how many senders there are and where their presences stand; where the
-- row stands and how many words it has; how many presences have passed, and how many words are
-- cleared
pub record Reclaiming : Type 0 where
  pub past : ℕ
  pub senders : ℕ
  pub presences : ℕ
  pub row : ℕ
  pub width : ℕ
  pub scanned : ℕ
  pub cleared : ℕ

pub record IsSized (s : Reclaiming) : Type 0 where
  pub past : s.past < TENURES
  pub few : s.senders ≤ MOST_PROCESSES
  pub presences : s.presences + s.senders ≤ 2 ^ 63
  pub row : s.row + s.width ≤ 2 ^ 63
  pub scanned : s.scanned ≤ s.senders
  pub cleared : s.cleared ≤ s.width

abbrev pub is_reclaimed : Reclaiming → Bool
is_reclaimed s = nat_le s.senders s.scanned && nat_le s.width s.cleared

-- the next step
abbrev pub reclaim_op : Reclaiming → Option Op
reclaim_op s =
    if nat_lt s.scanned s.senders then Some (Load record { 0 = s.presences + s.scanned }) else
    (if nat_lt s.cleared s.width then Some (Store record { 0 = s.row + s.cleared } 0) else None)

-- after a step that found this number: a presence that names the past tenure does not pass
abbrev pub reclaim_fed : Reclaiming → ℕ → Reclaiming
reclaim_fed s got =
    if nat_lt s.scanned s.senders
    then (if got == 1 + s.past then s else record s { scanned = s.scanned + 1 }) else
    (if nat_lt s.cleared s.width then record s { cleared = s.cleared + 1 } else s)

-- whom the holder waits for: the sender whose presence was just loaded, where it names the past
-- tenure
abbrev pub behind_of : Reclaiming → ℕ → Option Behind
behind_of s got =
    if nat_lt s.scanned s.senders && (got == 1 + s.past)
    then Some record { tenure = s.past; sender = s.scanned } else None

-- all presences have passed, and a word is left to clear
pub record IsClearing (s : Reclaiming) : Type 0 where
  pub passed : s.senders ≤ s.scanned
  pub left : s.cleared < s.width

-- how many words it clears in a row, from its next step on
abbrev pub clears_left : Reclaiming → ℕ
clears_left s = if nat_lt s.scanned s.senders then 0 else s.width - s.cleared

-- once so many words more are cleared
abbrev pub with_cleared : Reclaiming → ℕ → Reclaiming
with_cleared s many = record s { cleared = s.cleared + many }
