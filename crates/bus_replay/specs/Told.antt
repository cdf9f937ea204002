-- The commands of a script, and what the lines of a script leave, as a program holds them.
use Rattle.std.specs.Prelude.{◌≡◌, ◌≢◌, ◌≤◌, ◌+◌, ℕ, Bool, Option, Some, List, [], ◌∷◌, ◌++◌}
use Rattle.std.specs.Prelude.{codes, length}
use Rattle.bus_register.specs.Protocol.{Protocol}
use Rattle.bus_adoptcommit.specs.declared.verdicts.Verdict.{Verdict}
use Rattle.bus_tenure.specs.Core.{Election}
use Rattle.bus_tenure.specs.Elections.{Elector}
use Rattle.bus_world.specs.Playing.{event_told}
use Rattle.bus_world.specs.World.{Event}
use Rattle.bus_world.specs.declared.events.Answer.{Answer}
use Rattle.bus_world.specs.declared.shapes.Shape.{Shape}
use Rattle.bus_machine.specs.Machine.{Machine, Trails}
use Rattle.bus_script.specs.Grammar.{and_before}
use Rattle.bus_script.specs.declared.answers.Outcome.{Outcome}
use Rattle.bus_script.specs.declared.answers.Outcome.TheVariants.{Done, Refused}
use Rattle.bus_replay.specs.declared.commands.Command.{Command as Told}
use Rattle.bus_replay.specs.declared.commands.Command.TheVariants as told
use Rattle.bus_replay.specs.declared.lines.FirstLine.{FirstLine}
use Rattle.bus_replay.specs.declared.lines.FirstFault.{FirstFault}
use Rattle.bus_replay.specs.declared.lines.FirstFault.TheVariants as first_fault
use Rattle.bus_replay.specs.Lines.{Command, Plays, ForksTo, shape_in, reuse_in}
use Rattle.bus_replay.specs.Answers.{End, Left, Stopped, Repeats, Prints, SeatsRefused, NoBus}
use Rattle.bus_replay.specs.Answers.{repeat_trails, printed_trails, printed_seats}
use Rattle.bus_replay.specs.Histories.{Kept, IsHistoryOf, AreNobodys}
use Rattle.bus_replay.specs.Text.{make_fault_name}

-- the command that a program tells
abbrev pub command_told : Told → Command
command_told (told.Play event times) = Plays (event_told event) times
command_told (told.Fork maker number) = ForksTo maker number

-- the numbers that are the sizes of this shape, before some numbers, where all are something
abbrev pub sizes_before : Shape → Option (List ℕ) → Option (List ℕ)
sizes_before shape numbers =
    and_before (Some shape.senders) (and_before (Some shape.receivers)
    (and_before (Some shape.rounds) (and_before (Some shape.rows)
    (and_before (Some shape.log_words) numbers))))

-- what the first line is refused by, and why it gives no bus
abbrev pub first_fault_name : FirstFault → List ℕ
first_fault_name (first_fault.Make why) = make_fault_name why
first_fault_name first_fault.Seats = codes "Seats"

abbrev pub FirstRefused : FirstLine → FirstFault → Type 0
FirstRefused first (first_fault.Make why) = NoBus first why
FirstRefused first first_fault.Seats = SeatsRefused first

module _ {S : Type 0} (X : Election (Elector S)) (P : Protocol S Bool Verdict) where
  -- an event was repeated, and a history of what was before has all that this added
  abbrev pub IsRepeated : Machine (Elector S) → Kept → Event → ℕ → Answer → Machine (Elector S)
      → Kept → Type 0
  IsRepeated m h e more last new kept =
      (run : Repeats X P m e more last new)
      × ((T : Trails) (taken : ℕ → Bool) → IsHistoryOf X P m h T taken
      → IsHistoryOf X P new kept (repeat_trails X P m e more last new run T) taken)

  -- Lines that print this go on from a line that adds so to trails, by its number of nobody, and so
  -- to seats: they print what is behind this text, and add the same behind it.
  abbrev pub GoesOn : Machine (Elector S) → ℕ × List ℕ → List ℕ → Machine (Elector S)
      → (ℕ → Trails → Trails) → ((ℕ → Bool) → (ℕ → Bool)) → Type 0
  GoesOn m line text new grown seated =
      (lines : List (ℕ × List ℕ)) (rest : List ℕ) (end : End (Elector S))
      → (run : Prints X P new lines rest end)
      → (whole : Prints X P m (line ∷ lines) (text ++ rest) end)
      × ((T : Trails) → printed_trails X P m (line ∷ lines) (text ++ rest) end whole T
      ≡ printed_trails X P new lines rest end run (grown (length m.receivers + length lines) T))
      × ((taken : ℕ → Bool) → printed_seats X P m (line ∷ lines) (text ++ rest) end whole taken
      ≡ printed_seats X P new lines rest end run (seated taken))

  -- A line was obeyed, and those behind it print what is behind this text. The history has what
  -- that added, where its number was nobody's; and of the numbers past the receivers, which are as
  -- many as before, it concerns that one alone.
  pub record Obeyed (m : Machine (Elector S)) (h : Kept) (line : ℕ × List ℕ) (text : List ℕ)
      (new : Machine (Elector S)) (kept : Kept) : Type 0 where
    pub grown : ℕ → Trails → Trails
    pub seated : (ℕ → Bool) → (ℕ → Bool)
    pub goes_on : GoesOn m line text new grown seated
    pub holds : (n : ℕ) (T : Trails) (taken : ℕ → Bool) → IsHistoryOf X P m h T taken
        → length m.receivers ≤ n → T.heard n ≡ []
        → IsHistoryOf X P new kept (grown n T) (seated taken)
    pub others : (n q : ℕ) (T : Trails) → length m.receivers ≤ q → q ≢ n
        → (grown n T).heard q ≡ T.heard q
    pub many : length new.receivers ≡ length m.receivers

  -- a line was obeyed; or this text is its refusal
  abbrev pub IsObeyed : Machine (Elector S) → Kept → ℕ × List ℕ → Outcome → List ℕ
      → Machine (Elector S) → Kept → Type 0
  IsObeyed m h line Done text new kept = Obeyed m h line text new kept
  IsObeyed m h line Refused text new kept =
      (lines : List (ℕ × List ℕ)) → Prints X P m (line ∷ lines) [] (Stopped text)

  -- lines were obeyed; or one was refused, and this text ends with its refusal
  abbrev pub ArePlayed : Machine (Elector S) → Kept → List (ℕ × List ℕ) → Outcome → List ℕ
      → Machine (Elector S) → Kept → Type 0
  ArePlayed m h lines Done text new kept =
      (run : Prints X P m lines text (Left new))
      × ((T : Trails) (taken : ℕ → Bool) → IsHistoryOf X P m h T taken
      → AreNobodys (length m.receivers) (length lines) T
      → IsHistoryOf X P new kept (printed_trails X P m lines text (Left new) run T)
      (printed_seats X P m lines text (Left new) run taken))
  ArePlayed m h lines Refused text new kept =
      (answers refusal : List ℕ) × Prints X P m lines answers (Stopped refusal)
      × (text ≡ answers ++ refusal)
