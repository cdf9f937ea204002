-- What `trace` answers to an input: the lines of the events and forks that `replay` plays of it,
-- one after another, and the first refusal.
use Rattle.std.specs.Prelude.{◌≡◌, ◌≢◌, ◌-◌, ℕ, zero, suc, Bool, ◌⊎◌, Option, Some, None, List, []}
use Rattle.std.specs.Prelude.{◌∷◌, ◌++◌, codes, flat_map}
use mathlib.Core.Logic.{inl, inr}
use Rattle.std.specs.List.{enumerate_from}
use Rattle.bus_register.specs.Protocol.{Protocol}
use Rattle.bus_adoptcommit.specs.declared.verdicts.Verdict.{Verdict}
use Rattle.bus_tenure.specs.Core.{Election}
use Rattle.bus_tenure.specs.Elections.{Elector}
use Rattle.bus_world.specs.World.{Event}
use Rattle.bus_world.specs.declared.events.Answer.{Answer}
use Rattle.bus_world.specs.declared.shapes.MakeFault.{MakeFault}
use Rattle.bus_world.specs.declared.shapes.MakeFault.TheVariants as make
use Rattle.bus_machine.specs.Machine.{Machine}
use Rattle.bus_script.specs.declared.line_numbers.LineNumber.TheVariants.{AtLine, AtEnd}
use Rattle.bus_script.specs.declared.answers.Outcome.{Outcome}
use Rattle.bus_script.specs.declared.answers.Outcome.TheVariants.{Done, Refused}
use Rattle.bus_script.specs.Grammar.{script_lines}
use Rattle.bus_script.specs.LineNumbers.{refusal_line}
use Rattle.bus_replay.specs.declared.lines.FirstLine.{FirstLine}
use Rattle.bus_replay.specs.Lines.{Command, Plays, ForksTo, first_of, command_of, shape_in}
use Rattle.bus_replay.specs.Lines.{reuse_in, passers_in}
use Rattle.bus_replay.specs.Text.{make_fault_name}
use Rattle.bus_replay.specs.Answers.{End, Left, Stopped, Repeats, Asked, Prints}
use Rattle.bus_replay.specs.Answers.{SeatsRefused, NoBus, IsOpened}
use Rattle.bus_trace.specs.Words.{TraceSizes, sizes_of}
use Rattle.bus_trace.specs.Rows.{header, row_text, fork_row}
use Rattle.bus_trace.specs.Told.{numbered_row}

-- lines, numbered from this number on
abbrev pub numbered_rows : ℕ → List (List ℕ) → List ℕ
numbered_rows from rows = flat_map (λ row. numbered_row row.0 row.1) (enumerate_from from rows)

abbrev pub refusal_of : {E : Type 0} → End E → List ℕ
refusal_of (Left m) = []
refusal_of (Stopped refusal) = refusal

abbrev pub outcome_of : {E : Type 0} → End E → Outcome
outcome_of (Left m) = Done
outcome_of (Stopped refusal) = Refused

-- the one line that names a refusal, behind the names of the columns
abbrev pub IsRefused : List ℕ → Outcome → List ℕ → Type 0
IsRefused refusal outcome whole = (outcome ≡ Refused) × (whole ≡ header ++ refusal)

-- senders go by this election, made of ratifiers of this protocol
module _ {S : Type 0} (X : Election (Elector S)) (P : Protocol S Bool Verdict) where
  -- ---- the lines of what `replay` plays: one for each event of the run, and for each fork
  -- of an event that was repeated while it went on
  abbrev pub repeat_rows : (p : TraceSizes) (line : ℕ) (m : Machine (Elector S)) (e : Event)
      (more : ℕ) (last : Answer)
      (new : Machine (Elector S)) → Repeats X P m e more last new → List (List ℕ)
  repeat_rows p line m e zero last new run = row_text p X line m e last ∷ []
  repeat_rows p line m e (suc more) last new (inl once) = row_text p X line m e last ∷ []
  repeat_rows p line m e (suc more) last new (inr run) =
      row_text p X line m e run.1 ∷ repeat_rows p line run.0 e more last new run.4

  -- of a line of the script, and of those behind it
  abbrev pub asked_rows : (p : TraceSizes) (m : Machine (Elector S)) (line : ℕ) (c : Option Command)
      (Behind : Machine (Elector S) → List ℕ → End (Elector S) → Type 0)
      → ((mid : Machine (Elector S)) (rest : List ℕ) (end : End (Elector S)) → Behind mid rest end
      → List (List ℕ))
      → (text : List ℕ) (end : End (Elector S)) → Asked X P m line c Behind text end → List (List ℕ)
  asked_rows p m line None Behind behind text end run = []
  asked_rows p m line (Some (Plays event times)) Behind behind text end (inl refused) = []
  asked_rows p m line (Some (Plays event times)) Behind behind text end (inr run) =
      repeat_rows p line m event (times - 1) run.1 run.0 run.3 ++ behind run.0 run.2 end run.4
  asked_rows p m line (Some (ForksTo i j)) Behind behind text end (inl refused) = []
  asked_rows p m line (Some (ForksTo i j)) Behind behind text end (inr run) =
      fork_row p line m i j run.1 ∷ behind run.0 run.2 end run.4

  -- of all lines
  abbrev pub printed_rows : (p : TraceSizes) (m : Machine (Elector S)) (lines : List (ℕ × List ℕ))
      (text : List ℕ) (end : End (Elector S))
      → Prints X P m lines text end → List (List ℕ)
  printed_rows p m [] text end run = []
  printed_rows p m (line ∷ lines) text end run =
      asked_rows p m line.0 (command_of line.1) (λ mid rest stop. Prints X P mid lines rest stop)
      (λ mid rest stop behind. printed_rows p mid lines rest stop behind) text end run

  -- ---- the whole text
  -- the lines behind the first one, played on this bus as `replay` plays them
  abbrev pub ArePrinted : TraceSizes → Machine (Elector S) → List (ℕ × List ℕ) → Outcome → List ℕ
      → Type 0
  ArePrinted p m lines outcome whole =
      (answers : List ℕ) × (end : End (Elector S)) × (run : Prints X P m lines answers end)
      × (outcome ≡ outcome_of end)
      × (whole
      ≡ header ++ numbered_rows 1 (printed_rows p m lines answers end run) ++ refusal_of end)

  -- By what the first line asks for: such a new bus is made, or it is not made. That receivers
  -- leave the spare seats of a ring is no event of the script, and has no line.
  abbrev pub Begins : ℕ → Option FirstLine → List (ℕ × List ℕ) → Outcome → List ℕ → Type 0
  Begins line None lines outcome whole =
      IsRefused (refusal_line (AtLine line) (codes "BadLine")) outcome whole
  Begins line (Some first) lines outcome whole =
      ((why : MakeFault) × NoBus first why × (why ≢ make.NoMemory)
      × IsRefused (refusal_line (AtLine line) (make_fault_name why)) outcome whole)
      ⊎ ((SeatsRefused first
      × IsRefused (refusal_line (AtLine line) (codes "Seats")) outcome whole)
      ⊎ ((m : Machine (Elector S)) × IsOpened X P first m
      × ArePrinted (sizes_of P (shape_in first) (reuse_in first) (passers_in first)) m lines outcome
      whole))

  abbrev pub Traces : List (ℕ × List ℕ) → Outcome → List ℕ → Type 0
  Traces [] outcome whole = IsRefused (refusal_line AtEnd (codes "BadLine")) outcome whole
  Traces (line ∷ lines) outcome whole = Begins line.0 (first_of line.1) lines outcome whole

  -- the text that answers an input
  abbrev pub IsTrace : List ℕ → Outcome → List ℕ → Type 0
  IsTrace input outcome whole = Traces (script_lines input) outcome whole
