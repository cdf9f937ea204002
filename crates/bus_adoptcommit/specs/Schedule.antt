-- What a schedule, a list of process numbers in the order of their steps, says of inputs and
-- outputs.
use Rattle.std.specs.Prelude.{ℕ, Bool, List, Option, None, take, count_by, slice_get, nat_lt, ◌==◌}
use Rattle.std.specs.Prelude.{if◌then◌else◌}
use Rattle.bus_register.specs.Tables.{of_some}
use Rattle.bus_adoptcommit.specs.declared.verdicts.Verdict.{Verdict}
use Rattle.bus_adoptcommit.specs.Agreement.{Legal}

-- a list of what may stand, by place
abbrev pub table_of : {A : Type 0} → List (Option A) → ℕ → Option A
table_of xs p = of_some (λ o. o) (slice_get xs p)

-- how many entries a process has
abbrev pub entries : List ℕ → ℕ → ℕ
entries schedule p = count_by (λ q. q == p) schedule

-- the input of each process that counts: of one that has an entry
abbrev pub entered_input : List Bool → List ℕ → ℕ → Option Bool
entered_input given schedule p = if nat_lt 0 (entries schedule p) then slice_get given p else None

-- the output of each process that stands: of one that has as many entries as it takes steps at most
abbrev pub finished_output : ℕ → (ℕ → Option Verdict) → List ℕ → ℕ → Option Verdict
finished_output steps verdicts schedule p =
    if nat_lt (entries schedule p) steps then None else verdicts p

-- after each prefix of the schedule, the outputs that stand are legal for the inputs that count
abbrev pub LegalThroughout : ℕ → List Bool → List ℕ → (ℕ → Option Verdict) → Type 0
LegalThroughout steps given schedule verdicts =
    (k : ℕ)
    → Legal (entered_input given (take k schedule))
    (finished_output steps verdicts (take k schedule))
