-- Adopt-commit (Gafni 1998), over the inputs that count and the outputs that stand, by process. An
-- input counts once its process has taken its first step. Both are partial: a process may not have
-- come yet, or may stop before its output.
use Rattle.std.specs.Prelude.{◌≡◌, ℕ, Bool, Option, Some}
use Rattle.bus_adoptcommit.specs.declared.verdicts.Verdict.{Verdict}
use Rattle.bus_adoptcommit.specs.declared.verdicts.Verdict.TheVariants.{Commit, Adopt}

-- the value of a verdict
abbrev pub value_of : Verdict → Bool
value_of (Commit v) = v
value_of (Adopt v) = v

-- each output's value is the input of a process that has begun (Gafni 1998: validity)
abbrev pub IsValid : (ℕ → Option Bool) → (ℕ → Option Verdict) → Type 0
IsValid inputs outputs =
    (p : ℕ) (d : Verdict) → outputs p ≡ Some d → (q : ℕ) × (inputs q ≡ Some (value_of d))

-- if all inputs that count are v, all outputs are a commit of v (Gafni 1998: convergence)
abbrev pub IsConvergent : (ℕ → Option Bool) → (ℕ → Option Verdict) → Type 0
IsConvergent inputs outputs =
    (v : Bool) → ((q : ℕ) (w : Bool) → inputs q ≡ Some w → w ≡ v) → (p : ℕ) (d : Verdict)
    → outputs p ≡ Some d → d ≡ Commit v

-- if one output is a commit of v, every output has the value v (Gafni 1998: coherence)
abbrev pub IsCoherent : (ℕ → Option Verdict) → Type 0
IsCoherent outputs =
    (p q : ℕ) (v : Bool) (d : Verdict) → outputs p ≡ Some (Commit v) → outputs q ≡ Some d
    → value_of d ≡ v

-- adopt-commit without coherence: too weak to elect one owner
pub record WeaklyLegal (inputs : ℕ → Option Bool) (outputs : ℕ → Option Verdict) : Type 0 where
  pub valid : IsValid inputs outputs
  pub convergent : IsConvergent inputs outputs

-- adopt-commit
pub record Legal (inputs : ℕ → Option Bool) (outputs : ℕ → Option Verdict) : Type 0 where
  pub valid : IsValid inputs outputs
  pub convergent : IsConvergent inputs outputs
  pub coherent : IsCoherent outputs
