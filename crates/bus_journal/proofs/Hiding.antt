-- Records in a tail that looks cut off.
use Rattle.std.proofs.Common.{◌≡◌, ℕ, ◌+◌, ◌*◌, ◌/◌, ◌<◌, ◌≤◌, List, Option, Some, None, length}
use Rattle.std.proofs.Common.{drop, is_some, false, ap, arith, inl, inr}
use Rattle.std.specs.Prelude.{IfNone}
use Rattle.std.proofs.lemmas.Bool.{cases_lt}
use Rattle.std.proofs.lemmas.List.{length-append, length-drop}
use Rattle.bus_journal.specs.Format.{record_bytes}
use Rattle.bus_journal.specs.Records.{BeginsWith, BeginsNone, BeginsRecord}
use Rattle.bus_journal.specs.Records.{HidesRecord}
use Rattle.bus_journal.proofs.Chunks.{length-record}

-- a record that was found
pub found_record : (senders most place room count : ℕ) (bytes : List ℕ)
    → BeginsWith senders most place room bytes count → BeginsRecord senders most place bytes
found_record senders most place room count bytes b = (b.words, b.rest, b.chunk, b.bytes_are)

-- a record that was looked for, with room for all bytes
pub no_record : (senders most place : ℕ) (bytes : List ℕ)
    → BeginsNone senders most place (length bytes) bytes → ¬ BeginsRecord senders most place bytes
no_record senders most place bytes none r =
    let past = none r.0 r.1 r.2 r.3 in
    let size = ap length r.3 in
    let parts = length-append (record_bytes place r.0) r.1 in
    let one = length-record place r.0 in
    absurd (omega (arith, past, size, parts, one))

-- where nothing was found
pub none_found : {P : Type 0} (r : Option ℕ) → is_some r ≡ false → IfNone r P → P
none_found None e p = p
none_found (Some count) e p = absurd cc

-- no record has fewer than sixteen bytes
pub record_long : (senders most place : ℕ) (bytes : List ℕ) → BeginsRecord senders most place bytes
    → 8 ≤ length bytes
record_long senders most place bytes r =
    let size = ap length r.3 in
    let parts = length-append (record_bytes place r.0) r.1 in
    let one = length-record place r.0 in
    omega (arith, size, parts, one)

-- where none was found before so many words, and no more of them are left, none is there
pub none_hidden : (senders most place before : ℕ) (bytes : List ℕ) → length bytes / 8 ≤ before
    → ((b later : ℕ) → b < before → 1 ≤ later → later < b
    → ¬ BeginsRecord senders most (place + later) (drop (8 * b) bytes))
    → ¬ HidesRecord senders most place bytes
none_hidden senders most place before bytes past none h =
    elim (cases_lt h.before before) [
      | inl below ↦ none h.before h.words below h.some h.few h.begins
      | inr late ↦
          let long = record_long senders most (place + h.words) (drop (8 * h.before) bytes)
          h.begins in
          let rest = length-drop (8 * h.before) bytes in
          absurd (omega (arith, long, rest, past, late))
    ]
