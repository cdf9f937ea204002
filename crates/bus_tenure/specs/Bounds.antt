-- How many turns an election takes.
use Rattle.std.specs.Prelude.{◌≡◌, ℕ, ◌-◌}
use Rattle.bus_tenure.specs.Core.{Election}

-- at its start a bound of the senders and rounds is left, and each step takes one turn
pub record IsBounded {E : Type 0} (X : Election E) (bound : ℕ → ℕ → ℕ) : Type 0 where
  pub starts : (senders me rounds at : ℕ)
      → X.turns_left (X.started senders me rounds at) ≡ bound senders rounds
  pub falls : (e : E) (got word : ℕ) → X.turns_left (X.fed e got word) ≡ X.turns_left e - 1
