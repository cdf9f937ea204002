-- A writer: the words of one frame on their way into the log, and then the length.
use Rattle.std.specs.Prelude.{◌≡◌, ◌≢◌, ℕ, zero, suc, ◌+◌, ◌<◌, List, [], ◌∷◌, length, slice_index}
use Rattle.std.specs.Prelude.{Option, Some, None, if◌then◌else◌, ◌==◌, nat_lt}
use Rattle.bus_register.specs.declared.kinds.Kind.{Kind}
use Rattle.bus_register.specs.declared.kinds.Kind.TheVariants.{StoreLogWord, StoreLength}
use Rattle.bus_register.specs.declared.registers.Op.{Op}
use Rattle.bus_register.specs.declared.registers.Op.TheVariants.{Store}

-- the frame's words, the length of the log before them, how many steps were taken, and the places
-- of the log and of its length
pub record Writing : Type 0 where
  pub frame : List ℕ
  pub from : ℕ
  pub stored : ℕ
  pub log_at : ℕ
  pub length_at : ℕ

-- the words in rising order, and then the length
abbrev pub writing_kind : Writing → Option Kind
writing_kind w =
    if nat_lt w.stored (length w.frame) then Some StoreLogWord else if w.stored == length w.frame
    then Some StoreLength else None

abbrev pub writing_op : Writing → Option Op
writing_op w =
    if nat_lt w.stored (length w.frame)
    then Some (Store (record { 0 = w.log_at + w.from + w.stored }) (slice_index w.frame w.stored))
    else if w.stored == length w.frame
    then Some (Store (record { 0 = w.length_at }) (w.from + length w.frame))
    else None

abbrev pub writing_fed : Writing → Writing
writing_fed w = record w { stored = w.stored + 1 }

-- so many words of a table, from a place on
abbrev pub words_at : (ℕ → ℕ) → ℕ → ℕ → List ℕ
words_at table place zero = []
words_at table place (suc n) = table place ∷ words_at table (place + 1) n

-- the words that were stored stand in the log
abbrev pub HasStored : (ℕ → ℕ) → Writing → Type 0
HasStored table w =
    (k : ℕ) → k < w.stored → k < length w.frame
    → table (w.log_at + w.from + k) ≡ slice_index w.frame k

-- the length's own place is none of the frame's
abbrev pub IsApart : Writing → Type 0
IsApart w = (k : ℕ) → k < length w.frame → w.length_at ≢ w.log_at + w.from + k
