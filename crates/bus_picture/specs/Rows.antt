-- The lines of a trace that show events.
use Rattle.std.specs.Prelude.{ℕ, Bool, true, false, not, List, [], ◌∷◌, Option, Some, None, ◌==◌}
use Rattle.std.specs.Prelude.{filter_map}
use Rattle.std.specs.List.{slice_split}
use Rattle.std.specs.Str.{bytes_eq}
use Rattle.bus_picture.specs.declared.families.Family.{Family}
use Rattle.bus_picture.specs.declared.families.Family.TheVariants as family
use Rattle.bus_picture.specs.declared.processes.Process.{Process}
use Rattle.bus_picture.specs.declared.rows.Row.{Row}
use Rattle.bus_picture.specs.Families.{family_of}
use Rattle.bus_picture.specs.Processes.{process_of}

-- a line that shows an event: whose it is, and its texts
pub record Shown : Type 0 where
  pub process : Process
  pub family : Family
  pub number : List ℕ
  pub who : List ℕ
  pub tenure : List ℕ
  pub kind : List ℕ
  pub word : List ℕ
  pub found : List ℕ
  pub after : List ℕ
  pub answer : List ℕ

-- as a program holds it
abbrev pub row_shown : Row → Shown
row_shown r = record {
  process = r.process;
  family = r.family;
  number = r.number.now;
  who = r.who.now;
  tenure = r.tenure.now;
  kind = r.kind.now;
  word = r.word.now;
  found = r.found.now;
  after = r.after.now;
  answer = r.answer.now;
}

-- of a process and a family, where these texts name them
abbrev pub shown_with : Option Process → Option Family
    → (number who tenure kind word found after answer : List ℕ) → Option Shown
shown_with None f number who tenure kind word found after answer = None
shown_with (Some p) None number who tenure kind word found after answer = None
shown_with (Some p) (Some f) number who tenure kind word found after answer =
    Some (record {
      process = p;
      family = f;
      number = number;
      who = who;
      tenure = tenure;
      kind = kind;
      word = word;
      found = found;
      after = after;
      answer = answer;
    })

-- nine texts, of which the third names a process and the fifth a kind, a call or nothing
abbrev pub row_of : List (List ℕ) → Option Shown
row_of (number ∷ line ∷ who ∷ tenure ∷ kind ∷ word ∷ found ∷ after ∷ answer ∷ []) =
    shown_with (process_of who) (family_of kind) number who tenure kind word found after answer
row_of other = None

-- The rows of a trace, in order: its lines that show events. The names of the columns and a refusal
-- are none.
abbrev pub rows_of : List ℕ → List Shown
rows_of trace =
    filter_map (λ line. row_of (slice_split (λ b. b == 9) line)) (slice_split (λ b. b == 10) trace)

-- a step that finds a value and leaves it: a load, or a compare_exchange that left what it found
abbrev pub reads_as : Family → Bool → Bool
reads_as family.Look same = true
reads_as family.Exchange same = same
reads_as other same = false

abbrev pub reads : Shown → Bool
reads s = reads_as s.family (bytes_eq s.found s.after)

-- a step that leaves a value of its own: any other step
abbrev pub writes_as : Family → Bool → Bool
writes_as family.Store same = true
writes_as family.Add same = true
writes_as family.Page same = true
writes_as family.Exchange same = not same
writes_as other same = false

abbrev pub writes : Shown → Bool
writes s = writes_as s.family (bytes_eq s.found s.after)
