-- How the lines of a script of `ratify` are spelled.
use Rattle.std.specs.Prelude.{◌≡◌, ℕ, ◌^◌, ◌<◌, ◌≤◌, Bool, List, [], ◌∷◌, ◌++◌, length, codes}
use Rattle.std.specs.Prelude.{decimal, flat_map}
use Rattle.std.specs.List.{AllByRecursion}
use Rattle.bus_register.specs.Digits.{digit}
use Rattle.bus_ratify.specs.declared.limits.TheConstants.{MOST_INPUTS}
use Rattle.bus_ratify.specs.Scripts.{RatifyScript}

-- a line `inputs BIT ..` of one bit or more, and not too many
pub record IsInputsLine (line : List ℕ) (inputs : List Bool) : Type 0 where
  pub spelled : line ≡ codes "inputs" ++ flat_map (λ input. 32 ∷ decimal (digit input)) inputs
  pub some : 1 ≤ length inputs
  pub few : length inputs ≤ MOST_INPUTS

-- a line `steps NUMBER ..` of one number or more, each below 2^64
pub record IsStepsLine (line : List ℕ) (numbers : List ℕ) : Type 0 where
  pub spelled : line ≡ codes "steps" ++ flat_map (λ number. 32 ∷ decimal number) numbers
  pub some : 1 ≤ length numbers
  pub fit : AllByRecursion (λ number. number < 2 ^ 64) numbers

-- lines of steps of so many processes, and all their numbers in order
abbrev pub AreSteps : ℕ → List (ℕ × List ℕ) → List ℕ → Type 0
AreSteps n [] schedule = schedule ≡ []
AreSteps n (line ∷ lines) schedule =
    (steps behind : List ℕ) × IsStepsLine line.1 steps × AllByRecursion (λ p. p < n) steps
    × AreSteps n lines behind × (schedule ≡ steps ++ behind)

-- numbered lines of a script: one of inputs, and then lines of steps
abbrev pub IsScript : List (ℕ × List ℕ) → RatifyScript → Type 0
IsScript [] script = ⊥
IsScript (line ∷ lines) script =
    IsInputsLine line.1 script.inputs × AreSteps (length script.inputs) lines script.schedule
