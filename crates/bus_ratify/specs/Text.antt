-- What `ratify` prints.
use Rattle.std.specs.Prelude.{ℕ, List, [], ◌∷◌, ◌++◌, Option, Some, None, codes, decimal, flat_map}
use Rattle.std.specs.List.{enumerate_from}
use Rattle.bus_adoptcommit.specs.declared.verdicts.Verdict.{Verdict}
use Rattle.bus_adoptcommit.specs.declared.verdicts.Verdict.TheVariants.{Commit, Adopt}
use Rattle.bus_register.specs.Digits.{digit}
use Rattle.bus_ratify.specs.declared.refusals.LineFault.{LineFault}
use Rattle.bus_ratify.specs.declared.refusals.LineFault.TheVariants.{BadLine, NoSuchProcess}
use Rattle.bus_ratify.specs.declared.refusals.Refusal.{Refusal}
use Rattle.bus_script.specs.LineNumbers.{refusal_line}

-- what a process has got, where None says that it has not ended
abbrev pub verdict_name : Option Verdict → List ℕ
verdict_name None = codes "open"
verdict_name (Some (Commit v)) = codes "commit " ++ decimal (digit v)
verdict_name (Some (Adopt v)) = codes "adopt " ++ decimal (digit v)

-- the line of a process
abbrev pub verdict_line : ℕ → Option Verdict → List ℕ
verdict_line p verdict = decimal p ++ codes " " ++ verdict_name verdict ++ 10 ∷ []

-- a line for each process, in order
abbrev pub verdict_text : List (Option Verdict) → List ℕ
verdict_text verdicts = flat_map (λ x. verdict_line x.0 x.1) (enumerate_from 0 verdicts)

abbrev pub script_fault_name : LineFault → List ℕ
script_fault_name BadLine = codes "BadLine"
script_fault_name NoSuchProcess = codes "NoSuchProcess"

-- the one line of a refused script
abbrev pub refusal_text : Refusal → List ℕ
refusal_text refusal = refusal_line refusal.line_number (script_fault_name refusal.fault)
