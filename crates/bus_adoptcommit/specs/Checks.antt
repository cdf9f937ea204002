-- Adopt-commit over lists of what may stand, as a check by looking at every process and every pair.
use Rattle.std.specs.Prelude.{◌≡◌, Bool, not, List, Option, Some, None, IfSome, All, Contains, ⊤}
use Rattle.bus_adoptcommit.specs.declared.verdicts.Verdict.{Verdict}
use Rattle.bus_adoptcommit.specs.declared.verdicts.Verdict.TheVariants.{Commit, Adopt}
use Rattle.bus_adoptcommit.specs.Agreement.{value_of}

-- the output's value, if there is one, is among the inputs
abbrev pub HasInput : List (Option Bool) → Option Verdict → Type 0
HasInput inputs output = IfSome output (λ d. Contains inputs (Some (value_of d)))

-- the output, if there is one, is a commit of v
abbrev pub CommitsTo : Bool → Option Verdict → Type 0
CommitsTo v output = IfSome output (λ d. d ≡ Commit v)

-- unless the other value is among the inputs, all outputs are a commit of v
abbrev pub ConvergesOn : List (Option Bool) → List (Option Verdict) → Bool → Type 0
ConvergesOn inputs outputs v = ¬ Contains inputs (Some (not v)) → All (CommitsTo v) outputs

-- the second has the value that the first commits, if there are both
abbrev pub AgreesWith : Option Verdict → Option Verdict → Type 0
AgreesWith None second = ⊤
AgreesWith (Some (Adopt v)) second = ⊤
AgreesWith (Some (Commit v)) second = IfSome second (λ d. value_of d ≡ v)
