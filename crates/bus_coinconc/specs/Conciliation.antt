-- What a conciliator promises (Aspnes 2010, without its probability).
use Rattle.std.specs.Prelude.{◌≡◌, ℕ, Bool, Option, Some}

-- a process has this input, and it counts
abbrev pub IsInput : (ℕ → Option Bool) → Bool → Type 0
IsInput inputs v = (p : ℕ) × (inputs p ≡ Some v)

-- each output is an input that counts; where all inputs that count are one value, so are all
-- outputs
pub record Conciles (inputs outputs : ℕ → Option Bool) : Type 0 where
  pub valid : (p : ℕ) (v : Bool) → outputs p ≡ Some v → IsInput inputs v
  pub unanimous : (v : Bool) → ((q : ℕ) (w : Bool) → inputs q ≡ Some w → w ≡ v) → (p : ℕ) (w : Bool)
      → outputs p ≡ Some w → w ≡ v
