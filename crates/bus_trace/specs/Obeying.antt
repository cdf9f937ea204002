-- How a program that goes through the lines of a script extends a trace.
use Rattle.std.specs.Prelude.{◌≡◌, ◌+◌, ◌-◌, ◌*◌, ◌≤◌, ℕ, Bool, Option, Some, None, List, []}
use Rattle.std.specs.Prelude.{◌∷◌, ◌++◌, length, slice_get}
use Rattle.bus_register.specs.Protocol.{Protocol}
use Rattle.bus_adoptcommit.specs.declared.verdicts.Verdict.{Verdict}
use Rattle.bus_tenure.specs.Core.{Election}
use Rattle.bus_tenure.specs.Elections.{Elector}
use Rattle.bus_world.specs.Playing.{ForkRefused}
use Rattle.bus_world.specs.World.{Event}
use Rattle.bus_world.specs.declared.events.Answer.{Answer}
use Rattle.bus_world.specs.declared.events.StepFault.{StepFault}
use Rattle.bus_machine.specs.Machine.{Machine, Forks}
use Rattle.bus_machine.specs.Playing.{Refused as RefusedBy}
use Rattle.bus_script.specs.declared.answers.Outcome.{Outcome}
use Rattle.bus_script.specs.declared.answers.Outcome.TheVariants.{Done, Refused}
use Rattle.bus_replay.specs.Lines.{Command, Plays, ForksTo}
use Rattle.bus_replay.specs.Answers.{End, Left, Stopped, Repeats, Prints}
use Rattle.bus_trace.specs.Rows.{fork_row}
use Rattle.bus_trace.specs.Traces.{repeat_rows, printed_rows, numbered_rows}
use Rattle.bus_trace.specs.Words.{TraceSizes}

-- so many lines stand in a text: each has two bytes and more, so their number is one that a program
-- can hold
abbrev pub IsCounted : List ℕ → ℕ → Type 0
IsCounted text lines = 2 * lines ≤ length text

-- so many lines stood in a text, and these were put behind them
pub record Grows (old : List ℕ) (before : ℕ) (new : List ℕ) (after : ℕ) (rows : List (List ℕ)) :
    Type 0 where
  pub text_is : new ≡ old ++ numbered_rows (before + 1) rows
  pub lines_are : after ≡ before + length rows

module _ {S : Type 0} (X : Election (Elector S)) (P : Protocol S Bool Verdict)
    (p : TraceSizes) where
  -- an event was repeated, and the lines of that were put; or it was refused at once
  abbrev pub IsRepeated : ℕ → Machine (Elector S) → Event → ℕ
      → (old : List ℕ) (before : ℕ) (new : List ℕ) (after : ℕ) → Option StepFault
      → Machine (Elector S) → Type 0
  IsRepeated line m e more old before new after None m' =
      (last : Answer) × (run : Repeats X P m e more last m')
      × Grows old before new after (repeat_rows X P p line m e more last m' run)
  IsRepeated line m e more old before new after (Some why) m' = RefusedBy m e why × (new ≡ old)

  -- a receiver forked, or found no seat, and the line of that was put; or it was refused
  abbrev pub IsForked : ℕ → Machine (Elector S) → (i j : ℕ)
      → (old : List ℕ) (before : ℕ) (new : List ℕ) (after : ℕ) → Option StepFault
      → Machine (Elector S) → Type 0
  IsForked line m i j old before new after None m' =
      (did : Bool) × Forks m i j did m'
      × Grows old before new after (fork_row p line m i j did ∷ [])
  IsForked line m i j old before new after (Some why) m' =
      ForkRefused (slice_get m.receivers i) (slice_get m.receivers j) i j why × (new ≡ old)

  -- a command was done, or refused at once
  abbrev pub IsDone : ℕ → Machine (Elector S) → Command
      → (old : List ℕ) (before : ℕ) (new : List ℕ) (after : ℕ) → Option StepFault
      → Machine (Elector S) → Type 0
  IsDone line m (Plays event times) old before new after refused m' =
      IsRepeated line m event (times - 1) old before new after refused m'
  IsDone line m (ForksTo i j) old before new after refused m' =
      IsForked line m i j old before new after refused m'

  -- A line was obeyed, and whatever is played behind it, its lines stand before those of that; or
  -- it was refused, and this is its refusal.
  abbrev pub IsObeyed : Machine (Elector S) → ℕ × List ℕ
      → (old : List ℕ) (before : ℕ) (new : List ℕ) (after : ℕ) → Outcome
      → Machine (Elector S) → Type 0
  IsObeyed m line old before new after Done m' =
      (printed : List ℕ) × (rows : List (List ℕ)) × Grows old before new after rows
      × ((lines : List (ℕ × List ℕ)) (rest : List ℕ) (end : End (Elector S))
      (run : Prints X P m' lines rest end)
      → (whole : Prints X P m (line ∷ lines) (printed ++ rest) end)
      × (printed_rows X P p m (line ∷ lines) (printed ++ rest) end whole
      ≡ rows ++ printed_rows X P p m' lines rest end run))
  IsObeyed m line old before new after Refused m' =
      (refusal : List ℕ) × (new ≡ old ++ refusal)
      × ((lines : List (ℕ × List ℕ)) → (whole : Prints X P m (line ∷ lines) [] (Stopped refusal))
      × (printed_rows X P p m (line ∷ lines) [] (Stopped refusal) whole ≡ []))

  -- lines were obeyed; or one was refused, and the text ends with its refusal
  abbrev pub ArePlayed : Machine (Elector S) → List (ℕ × List ℕ)
      → (old : List ℕ) (before : ℕ) (new : List ℕ) → Outcome
      → Machine (Elector S) → Type 0
  ArePlayed m lines old before new Done m' =
      (answers : List ℕ) × (run : Prints X P m lines answers (Left m'))
      × (new ≡ old ++ numbered_rows (before + 1) (printed_rows X P p m lines answers (Left m') run))
  ArePlayed m lines old before new Refused m' =
      (refusal : List ℕ) × (answers : List ℕ) × (run : Prints X P m lines answers (Stopped refusal))
      × (new
      ≡ old ++ numbered_rows (before + 1) (printed_rows X P p m lines answers (Stopped refusal) run)
      ++ refusal)
