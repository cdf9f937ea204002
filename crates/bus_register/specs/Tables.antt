-- Tables by number: words by place, local states by process.
use Rattle.std.specs.Prelude.{◌≡◌, ◌≢◌, ℕ, ◌+◌, ◌<◌, ◌≤◌, Option, Some, None, ◌==◌, if◌then◌else◌}
use Rattle.bus_register.specs.declared.registers.Op.{Op}
use Rattle.bus_register.specs.Words.{register, after}

-- what f gives of a value, where there is one
abbrev pub of_some : {A B : Type 0} → (A → Option B) → Option A → Option B
of_some f None = None
of_some f (Some x) = f x

-- two tables that differ at p alone
abbrev pub Beside : {A : Type 0} → ℕ → (ℕ → A) → (ℕ → A) → Type 0
Beside p old new = (q : ℕ) → q ≢ p → new q ≡ old q

-- a table with another value at p
unfoldable pub put : {A : Type 0} → ℕ → A → (ℕ → A) → ℕ → A
put p x table q = if q == p then x else table q

-- words that agree from at on, as far as the width reaches
abbrev pub Agree : ℕ → ℕ → (ℕ → ℕ) → (ℕ → ℕ) → Type 0
Agree at width old new = (r : ℕ) → at ≤ r → r < at + width → new r ≡ old r

-- the words after one step: the step's own word has changed, and of the words from at on no other
pub record Stepped (at width : ℕ) (o : Op) (old new : ℕ → ℕ) : Type 0 where
  pub here : new (register o) ≡ after o (old (register o))
  pub elsewhere : (r : ℕ) → at ≤ r → r < at + width → r ≢ register o → new r ≡ old r
