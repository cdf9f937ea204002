-- What a script of `ratify` says, or where and why it is refused.
use Rattle.std.specs.Prelude.{◌≡◌, ℕ, Bool, true, false, ◌&&◌, List, [], ◌∷◌, ◌++◌, length, Option}
use Rattle.std.specs.Prelude.{Some, None, Result, Ok, Err, ⊤, codes, nat_lt, nat_le, if◌then◌else◌}
use Rattle.std.specs.Prelude.{option_and_then}
use Rattle.std.specs.List.{list_all}
use Rattle.std.specs.Str.{bytes_eq}
use Rattle.bus_script.specs.declared.line_numbers.LineNumber.TheVariants.{AtLine, AtEnd}
use Rattle.bus_ratify.specs.declared.limits.TheConstants.{MOST_INPUTS}
use Rattle.bus_ratify.specs.declared.refusals.LineFault.{LineFault}
use Rattle.bus_ratify.specs.declared.refusals.LineFault.TheVariants.{BadLine, NoSuchProcess}
use Rattle.bus_ratify.specs.declared.refusals.Refusal.{Refusal}
use Rattle.bus_ratify.specs.declared.refusals.ReadingFault.{ReadingFault}
use Rattle.bus_ratify.specs.declared.refusals.ReadingFault.TheVariants.{NoMemory, Refused}
use Rattle.bus_script.specs.Grammar.{number_of, each_of, arguments_of, script_lines}

-- the inputs, by process, and the numbers of all `steps` lines in order
pub record RatifyScript : Type 0 where
  pub inputs : List Bool
  pub schedule : List ℕ

-- ---- one line

abbrev pub bit_of : List ℕ → Option Bool
bit_of word =
    if bytes_eq word (codes "0") then Some false
    else (if bytes_eq word (codes "1") then Some true else None)

-- a list that has at least so many elements and at most so many
abbrev pub if_between : {A : Type 0} → ℕ → ℕ → List A → Option (List A)
if_between low high xs = if nat_le low (length xs) && nat_le (length xs) high then Some xs else None

abbrev pub if_any : {A : Type 0} → List A → Option (List A)
if_any xs = if nat_le 1 (length xs) then Some xs else None

-- what a line of the form `inputs BIT ..` says, with as many bits as there can be inputs
abbrev pub inputs_of : List ℕ → Option (List Bool)
inputs_of line = option_and_then (if_between 1 MOST_INPUTS)
    (option_and_then (each_of bit_of) (arguments_of (codes "inputs") line))

-- what a line of the form `steps NUMBER ..` says, with one number or more
abbrev pub steps_of : List ℕ → Option (List ℕ)
steps_of line =
    option_and_then if_any (option_and_then (each_of number_of) (arguments_of (codes "steps") line))

-- ---- all lines

abbrev pub refused_at : ℕ → LineFault → Refusal
refused_at number fault = record { line_number = AtLine number; fault = fault }

-- The steps of a line, among so many processes. Its form comes before its meaning.
abbrev pub steps_among : ℕ → ℕ → Option (List ℕ) → Result (List ℕ) Refusal
steps_among n number None = Err (refused_at number BadLine)
steps_among n number (Some processes) =
    if list_all (λ p. nat_lt p n) processes then Ok processes
    else Err (refused_at number NoSuchProcess)

-- the steps before, and then those behind, or the first refusal
abbrev pub then_steps : Result (List ℕ) Refusal → Result (List ℕ) Refusal → Result (List ℕ) Refusal
then_steps (Err refusal) behind = Err refusal
then_steps (Ok before) (Err refusal) = Err refusal
then_steps (Ok before) (Ok behind) = Ok (before ++ behind)

-- the steps of all lines in order, or the refusal of the first line that has one
abbrev pub schedule_of : ℕ → List (ℕ × List ℕ) → Result (List ℕ) Refusal
schedule_of n [] = Ok []
schedule_of n (line ∷ lines) =
    then_steps (steps_among n line.0 (steps_of line.1)) (schedule_of n lines)

-- a script, where its schedule is not refused
abbrev pub with_schedule : List Bool → Result (List ℕ) Refusal → Result RatifyScript Refusal
with_schedule inputs (Err refusal) = Err refusal
with_schedule inputs (Ok schedule) = Ok (record { inputs = inputs; schedule = schedule })

-- the inputs that a line gives, and the schedule of the lines behind it
abbrev pub script_behind : ℕ → Option (List Bool) → List (ℕ × List ℕ) → Result RatifyScript Refusal
script_behind number None lines = Err (refused_at number BadLine)
script_behind number (Some inputs) lines = with_schedule inputs (schedule_of (length inputs) lines)

-- what the lines of a script say: one line of inputs, and then lines of steps
abbrev pub script_of : List (ℕ × List ℕ) → Result RatifyScript Refusal
script_of [] = Err (record { line_number = AtEnd; fault = BadLine })
script_of (line ∷ lines) = script_behind line.0 (inputs_of line.1) lines

-- what a script says
abbrev pub ratify_script : List ℕ → Result RatifyScript Refusal
ratify_script bytes = script_of (script_lines bytes)

-- ---- reading, which may run out of memory

abbrev pub FailsWith : {A : Type 0} → ReadingFault → Result A Refusal → Type 0
FailsWith NoMemory said = ⊤
FailsWith (Refused refusal) said = said ≡ Err refusal

-- a function returned what is said, unless memory ran out
abbrev pub Gives : {A B : Type 0} → (A → B) → Result A ReadingFault → Result B Refusal → Type 0
Gives view (Ok x) said = said ≡ Ok (view x)
Gives view (Err fault) said = FailsWith fault said

-- the same of one that puts steps at the end of a schedule
abbrev pub GivesSteps : Result (Unit {0}) ReadingFault → List ℕ → List ℕ → Result (List ℕ) Refusal
    → Type 0
GivesSteps (Ok _) old new said = (steps : List ℕ) × (said ≡ Ok steps) × (new ≡ old ++ steps)
GivesSteps (Err fault) old new said = FailsWith fault said
