-- What waits with a sender, as it was answered.
use Rattle.std.specs.Prelude.{◌≡◌, ℕ, ◌+◌, List, Some, slice_get}
use Rattle.bus_world.specs.Headline.{Action, HasPut}

-- Each of these messages was put, and answered its number: the first this one, and each the next
-- one.
abbrev pub WereAnswered : List Action → (first : ℕ) → List (List ℕ) → Type 0
WereAnswered actions first messages = (k : ℕ) (bytes : List ℕ) → slice_get messages k ≡ Some bytes
    → (place : ℕ) × (slice_get actions place ≡ Some (HasPut (first + k) bytes))
