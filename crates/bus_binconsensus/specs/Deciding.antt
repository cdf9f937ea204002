-- Binary decisions (Aspnes 2010: consensus), over the inputs that count and the decisions that
-- stand, by process. An input counts once its process has taken its first step.
use Rattle.std.specs.Prelude.{◌≡◌, ℕ, Bool, Option, Some}

-- all decisions are equal
abbrev pub Agrees : (ℕ → Option Bool) → Type 0
Agrees outputs = (p q : ℕ) (v w : Bool) → outputs p ≡ Some v → outputs q ≡ Some w → v ≡ w

-- each decision is the input of a process that has begun
abbrev pub IsChosen : (ℕ → Option Bool) → (ℕ → Option Bool) → Type 0
IsChosen inputs outputs = (p : ℕ) (v : Bool) → outputs p ≡ Some v → (q : ℕ) × (inputs q ≡ Some v)

-- a binary decision
pub record Decides (inputs : ℕ → Option Bool) (outputs : ℕ → Option Bool) : Type 0 where
  pub agrees : Agrees outputs
  pub chosen : IsChosen inputs outputs
