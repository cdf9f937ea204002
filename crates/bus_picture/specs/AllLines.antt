-- The lines of a trace that a picture leaves out: the names of the columns, and a refusal.
use Rattle.std.specs.Prelude.{◌≡◌, ◌<◌, ◌==◌, ℕ, List, Some, IsSome, Contains, slice_get}
use Rattle.std.specs.List.{slice_split}
use Rattle.bus_picture.specs.Rows.{row_of}

-- each line behind the first that has columns is a row
abbrev pub HasAllLines : (trace : List ℕ) → Type 0
HasAllLines trace =
    (place : ℕ) (line : List ℕ) → 0 < place
    → slice_get (slice_split (λ b. b == 10) trace) place ≡ Some line → Contains line 9
    → IsSome (row_of (slice_split (λ b. b == 9) line))
