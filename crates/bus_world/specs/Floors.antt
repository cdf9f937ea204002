-- Passed places and the floor of a log whose words are used again: all its words stand from the
-- floor on, and no receiver has still to hear a word before it.
use Rattle.std.specs.Prelude.{◌≡◌, ◌⊎◌, ℕ, ◌+◌, ◌*◌, ◌<◌, ◌≤◌, true, false, Option, Some, None}
use Rattle.std.specs.Prelude.{List, ◌++◌, ◌%◌, length, slice_index, nat_lt, if◌then◌else◌}
use Rattle.bus_register.specs.declared.limits.TheConstants.{PASSED_ALL}
use Rattle.bus_batch.specs.Frames.{Frame, log_words}
use Rattle.bus_core.specs.Reusing.Participants.{passed_from, log_from}
use Rattle.bus_core.specs.declared.limits.TheConstants.{PASSED_APART}
use Rattle.bus_core.specs.declared.reuses.Passing.{Passing}
use Rattle.bus_deliverylog.specs.Receiving.{Receiving}
use Rattle.bus_tenure.specs.Core.{Layout, length_at}

-- a place where one of these frames begins, or behind the last
pub record IsBoundary (frames : List Frame) (place : ℕ) : Type 0 where
  pub front : List Frame
  pub rest : List Frame
  pub frames_are : frames ≡ front ++ rest
  pub place_is : place ≡ length (log_words front)

-- where the passed place of a receiver stands
abbrev pub passed_place : Layout → ℕ → ℕ → ℕ
passed_place x rows r = passed_from x rows + PASSED_APART * r

-- if there is one
abbrev pub passed_of : Layout → ℕ → ℕ → Option ℕ
passed_of x rows r = if nat_lt r x.passers then Some (passed_place x rows r) else None

-- All words that were published are these, of these frames, and the log shows them from a floor on,
-- each in its cell. Each passed place is past the floor.
pub record ShowsRing (x : Layout) (rows : ℕ) (words : ℕ → ℕ) (frames : List Frame) (log : List ℕ)
    (floor : ℕ) : Type 0 where
  pub long : words length_at ≡ length log
  pub low : floor ≤ length log
  pub none : x.passers ≡ 0 → floor ≡ 0
  pub stands : (place : ℕ) → floor ≤ place → place < length log
      → words (log_from x rows + place % x.capacity) ≡ slice_index log place
  pub behind : (r : ℕ) → r < x.passers → floor ≤ words (passed_place x rows r)
  pub edges : (r : ℕ) → r < x.passers
      → IsBoundary frames (words (passed_place x rows r))
      ⊎ (words (passed_place x rows r) ≡ PASSED_ALL)

-- receiver r stores in its own passed place, where there is one, and until it has left for good it
-- shows there how far it said that it has come: past the floor, and not past its place; and then
-- 2^64 - 1
pub record IsPasser (x : Layout) (rows : ℕ) (words : ℕ → ℕ) (floor r : ℕ) (v : Receiving) :
    Type 0 where
  pub at : v.passed_at ≡ passed_of x rows r
  pub many : (x.passers ≡ 0) ⊎ (r < x.passers)
  pub past : v.passed ≤ v.place
  pub behind : v.gone ≡ false → floor ≤ v.passed
  pub shows : v.gone ≡ false → r < x.passers → words (passed_place x rows r) ≡ v.passed
  pub left : v.gone ≡ true → r < x.passers → words (passed_place x rows r) ≡ PASSED_ALL

-- Of these words, with what the holder of the page has loaded of the passed places, and of these
-- frames, which have so many words: the floor lies before what each passed place shows, and before
-- the least of those that the holder has loaded. Each of them is where a frame begins, but for the
-- number that stands for all words.
pub record AreFloors (x : Layout) (rows : ℕ) (words : ℕ → ℕ) (passing : Passing)
    (receivers : ℕ → Option Receiving) (frames : List Frame) (len floor : ℕ) : Type 0 where
  pub low : floor ≤ len
  pub none : x.passers ≡ 0 → floor ≡ 0
  pub behind : (r : ℕ) → r < x.passers → floor ≤ words (passed_place x rows r)
  pub least : floor ≤ passing.least
  pub loaded : (r : ℕ) → r < passing.loaded → r < x.passers
      → passing.least ≤ words (passed_place x rows r)
  pub begins : IsBoundary frames floor
  pub edges : (r : ℕ) → r < x.passers
      → IsBoundary frames (words (passed_place x rows r))
      ⊎ (words (passed_place x rows r) ≡ PASSED_ALL)
  pub edge : IsBoundary frames passing.least ⊎ (passing.least ≡ PASSED_ALL)
  pub each : (r : ℕ) (v : Receiving) → receivers r ≡ Some v → IsPasser x rows words floor r v
