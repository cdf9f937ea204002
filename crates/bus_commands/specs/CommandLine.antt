-- The command line of `bus`: its commands and options, as clap reads them, and which task each
-- command names.
use Rattle.std.specs.Prelude.{◌≡◌, ◌⊎◌, ℕ, ◌-◌, ◌^◌, true, false, List, [], ◌∷◌, Option, Some}
use Rattle.std.specs.Prelude.{None, Ok, Err, codes}
use Rattle.std.specs.Str.Parse.{ParsesUnsigned}
use Rattle.std.specs.declared.num.ParseIntError.{ParseIntError}
use Rattle.clap.specs.Words.{App, Rule, Row, Text, new_app, new_rule, one_of, subcommand_of}
use Rattle.clap.specs.Words.{with_rule, with_subcommand}
use Rattle.clap.specs.declared.builder.action.ArgAction.TheVariants.{Set, SetTrue}
use Rattle.clap.specs.declared.builder.value_parser.ValueParser.{ValueParser}
use Rattle.clap.specs.declared.builder.value_parser.ValueParser.TheVariants.{Unsigned}
use Rattle.bus_commands.specs.declared.printing.Request.{Request}
use Rattle.bus_commands.specs.declared.command_line.Task.{Task}
use Rattle.bus_commands.specs.declared.command_line.Task.TheVariants as task
use Rattle.bus_webpage.specs.declared.webpages.Purpose.TheVariants as purpose
use Rattle.bus_register.specs.declared.limits.TheConstants.{MOST_MESSAGES, MOST_SENDERS}
use Rattle.bus_run.specs.declared.limits.TheConstants.{MOST_MESSAGES_EACH}
use Rattle.bus_run.specs.declared.limits.TheConstants.{MOST_RECEIVE_WORKERS, MOST_SEND_WORKERS}

-- ---- commands and options
-- an option that is there or not
abbrev pub flag : Text → Rule
flag name = record (new_rule name) { long = Some name; action = Some SetTrue }

-- an option that has a number, with what it has where it is not given
abbrev pub number : Text → Text → ValueParser → Rule
number name default parser = record (new_rule name) {
  long = Some name;
  action = Some Set;
  parser = Some parser;
  defaults = default ∷ [];
}

abbrev pub ratify_command : App
ratify_command = new_app (codes "ratify")

abbrev pub replay_command : App
replay_command = new_app (codes "replay")

-- a picture and both web pages exclude each other
abbrev pub trace_command : App
trace_command = with_rule (with_rule (with_rule (new_app (codes "trace")) (flag (codes "svg")))
    (record (flag (codes "html")) { is_free = false }))
    (record (flag (codes "play")) { is_free = false })

-- the journal has a rule on another option; which one is tested
abbrev pub run_command : App
run_command =
    with_rule
    (with_rule
    (with_rule
    (with_rule
    (with_rule (with_rule (new_app (codes "run"))
    (number (codes "senders") (codes "3") (Unsigned 1 MOST_SEND_WORKERS)))
    (number (codes "receivers") (codes "2") (Unsigned 1 MOST_RECEIVE_WORKERS)))
    (number (codes "messages") (codes "100") (Unsigned 0 MOST_MESSAGES_EACH)))
    (number (codes "seed") (codes "7") (Unsigned 0 (2 ^ 64 - 1))))
    (flag (codes "log")))
    (record (flag (codes "journal")) { is_free = false })

abbrev pub log_command : App
log_command =
    with_rule
    (with_rule (new_app (codes "log"))
    (number (codes "senders") (codes "3") (Unsigned 1 MOST_SENDERS)))
    (number (codes "batch") (codes "16") (Unsigned 1 MOST_MESSAGES))

abbrev pub journal_command : App
journal_command = with_rule (new_app (codes "journal")) (flag (codes "repair"))

-- what `bus` has without its commands
abbrev pub bus_alone : App
bus_alone = record (new_app (codes "bus")) {
  top = record (new_app (codes "bus")).top {
    has_version = true;
    subcommand_required = true;
    arg_required_else_help = true;
    disable_help_subcommand = true;
  };
}

abbrev pub bus_command : App
bus_command =
    with_subcommand
    (with_subcommand
    (with_subcommand
    (with_subcommand
    (with_subcommand (with_subcommand bus_alone ratify_command.top) replay_command.top)
    trace_command.top)
    run_command.top)
    log_command.top)
    journal_command.top

-- ---- what a command's words say
-- the option is there, or is not
abbrev pub IsGiven : Text → List Row → Type 0
IsGiven name rows = one_of name rows ≡ Some (codes "true")

abbrev pub IsLeftOut : Text → List Row → Type 0
IsLeftOut name rows = (one_of name rows ≡ None) ⊎ (one_of name rows ≡ Some (codes "false"))

-- the number that the text of an option spells, or where it has none that spells a number this one
abbrev pub IsNumberOf : Text → List Row → ℕ → ℕ → Type 0
IsNumberOf name rows default n =
    ((text : Text) × (one_of name rows ≡ Some text)
    × ParsesUnsigned {E = ParseIntError} 64 10 text (Ok n))
    ⊎ ((n ≡ default)
    × ((text : Text) → one_of name rows ≡ Some text
    → (e : ParseIntError) × ParsesUnsigned 64 10 text (Err e)))

-- the run that the options of `run` ask for
pub record AsksFor (rows : List Row) (request : Request) : Type 0 where
  pub senders : IsNumberOf (codes "senders") rows 3 request.senders
  pub receivers : IsNumberOf (codes "receivers") rows 2 request.receivers
  pub messages : IsNumberOf (codes "messages") rows 100 request.messages
  pub seed : IsNumberOf (codes "seed") rows 7 request.seed

-- the task of each command, by its options
pub record NamesTask (met : Option (Text × List Row)) (t : Task) : Type 0 where
  pub ratify : (rows : List Row) → met ≡ Some (codes "ratify", rows) → t ≡ task.Ratify
  pub replay : (rows : List Row) → met ≡ Some (codes "replay", rows) → t ≡ task.Replay
  pub trace : (rows : List Row) → met ≡ Some (codes "trace", rows) → IsLeftOut (codes "svg") rows
      → IsLeftOut (codes "html") rows → IsLeftOut (codes "play") rows → t ≡ task.Trace
  pub picture : (rows : List Row) → met ≡ Some (codes "trace", rows) → IsGiven (codes "svg") rows
      → t ≡ task.Picture
  pub webpage : (rows : List Row) → met ≡ Some (codes "trace", rows) → IsLeftOut (codes "svg") rows
      → IsGiven (codes "html") rows → t ≡ task.Webpage purpose.Step
  pub play : (rows : List Row) → met ≡ Some (codes "trace", rows) → IsLeftOut (codes "svg") rows
      → IsLeftOut (codes "html") rows → IsGiven (codes "play") rows → t ≡ task.Webpage purpose.Play
  pub run : (rows : List Row) → met ≡ Some (codes "run", rows) → IsLeftOut (codes "log") rows
      → IsLeftOut (codes "journal") rows
      → (request : Request) × (t ≡ task.Run request) × AsksFor rows request
  pub run_log : (rows : List Row) → met ≡ Some (codes "run", rows) → IsGiven (codes "log") rows
      → (request : Request) × (t ≡ task.RunLog request) × AsksFor rows request
  pub run_journal : (rows : List Row) → met ≡ Some (codes "run", rows)
      → IsLeftOut (codes "log") rows → IsGiven (codes "journal") rows
      → (request : Request) × (t ≡ task.RunJournal request) × AsksFor rows request
  pub log : (rows : List Row) → met ≡ Some (codes "log", rows)
      → (senders batch : ℕ) × (t ≡ task.Log senders batch)
      × IsNumberOf (codes "senders") rows 3 senders × IsNumberOf (codes "batch") rows 16 batch
  pub journal : (rows : List Row) → met ≡ Some (codes "journal", rows)
      → IsLeftOut (codes "repair") rows → t ≡ task.Journal
  pub repair : (rows : List Row) → met ≡ Some (codes "journal", rows)
      → IsGiven (codes "repair") rows → t ≡ task.Repair

-- words meet a command of which this holds, of what its options are given
abbrev pub MeetsWith : Text → List Text → (List Row → Type 0) → Type 0
MeetsWith name words Has =
    (rows : List Row) × (subcommand_of bus_command words ≡ Some (name, rows)) × Has rows
