-- What each task answers: the command and the ratifier that it names.
use Rattle.std.specs.Prelude.{◌≡◌, ℕ, List, max, min}
use Rattle.bus_register.specs.declared.limits.TheConstants.{MOST_MESSAGES}
use Rattle.bus_adoptcommit.specs.ThreeWord.{Local, kind_at, op_of, fed_of}
use Rattle.bus_adoptcommit.specs.ThreeWordKeeps.{three_word}
use Rattle.bus_script.specs.declared.answers.Outcome.{Outcome}
use Rattle.bus_tenure.specs.Core.{Election}
use Rattle.bus_tenure.specs.Elections.{Elector, election_with}
use Rattle.bus_ratify.specs.Answers.{IsAnswer as IsRatified}
use Rattle.bus_replay.specs.Answers.{IsReplay}
use Rattle.bus_trace.specs.Traces.{IsTrace}
use Rattle.bus_picture.specs.Pictures.{picture}
use Rattle.bus_webpage.specs.Webpages.{script_of, webpage}
use Rattle.bus_logtext.specs.Answers.{IsAnswer as IsTold}
use Rattle.bus_logtext.specs.Journals.{IsJournalAnswer, IsRepaired}
use Rattle.bus_run.specs.RunText.{IsRunText}
use Rattle.bus_run.specs.Stops.{IsRunFault}
use Rattle.bus_run.specs.declared.faults.RunFault.{RunFault}
use Rattle.bus_run.specs.declared.limits.TheConstants.{MOST_MESSAGES_EACH}
use Rattle.bus_commands.specs.RunLog.{IsRunLog, IsRunJournal}
use Rattle.bus_commands.specs.declared.command_line.Task.{Task}
use Rattle.bus_commands.specs.declared.command_line.Task.TheVariants as task
use Rattle.bus_commands.specs.declared.streams.TheConstants.{SCRIPT_LIMIT, LOG_LIMIT}
use Rattle.bus_commands.specs.declared.streams.TheConstants.{JOURNAL_LIMIT}

-- how many bytes a task reads, at most
abbrev pub limit_of : Task → ℕ
limit_of task.Ratify = SCRIPT_LIMIT
limit_of task.Replay = SCRIPT_LIMIT
limit_of task.Trace = SCRIPT_LIMIT
limit_of task.Picture = SCRIPT_LIMIT
limit_of (task.Webpage purpose) = SCRIPT_LIMIT
limit_of (task.Run request) = SCRIPT_LIMIT
limit_of (task.RunLog request) = SCRIPT_LIMIT
limit_of (task.RunJournal request) = SCRIPT_LIMIT
limit_of (task.Log senders batch) = LOG_LIMIT
limit_of task.Journal = JOURNAL_LIMIT
limit_of task.Repair = JOURNAL_LIMIT

-- the task reads an input; the others run a bus
abbrev pub ReadsInput : Task → Type 0
ReadsInput task.Ratify = Unit {0}
ReadsInput task.Replay = Unit {0}
ReadsInput task.Trace = Unit {0}
ReadsInput task.Picture = Unit {0}
ReadsInput (task.Webpage purpose) = Unit {0}
ReadsInput (task.Run request) = ⊥
ReadsInput (task.RunLog request) = ⊥
ReadsInput (task.RunJournal request) = ⊥
ReadsInput (task.Log senders batch) = Unit {0}
ReadsInput task.Journal = Unit {0}
ReadsInput task.Repair = Unit {0}

-- the election that the program goes by, made of ratifiers of three words
abbrev pub by_three_words : Election (Elector Local)
by_three_words = election_with (λ s. kind_at s.progress) (λ s word. op_of s)
    (λ s got word. fed_of s got) three_word

-- how many messages a frame of a log has at most where so many are asked for: 1 where none are, and
-- where they are more than any frame may have as many as that
abbrev pub most_of : ℕ → ℕ
most_of batch = max (min batch MOST_MESSAGES) 1

-- what a task that reads answers to an input, and the text that is written of it
abbrev pub AnswersTask : Task → List ℕ → Outcome → List ℕ → Type 0
AnswersTask task.Ratify input outcome text = IsRatified input outcome text
AnswersTask task.Replay input outcome text = IsReplay by_three_words three_word input outcome text
AnswersTask task.Trace input outcome text = IsTrace by_three_words three_word input outcome text
AnswersTask task.Picture input outcome text =
    (trace : List ℕ) × IsTrace by_three_words three_word input outcome trace
    × (text ≡ picture trace)
AnswersTask (task.Webpage purpose) input outcome text =
    (trace : List ℕ)
    × IsTrace by_three_words three_word (script_of purpose input) outcome trace
    × (text ≡ webpage purpose (script_of purpose input) trace)
AnswersTask (task.Run request) input outcome text = ⊥
AnswersTask (task.RunLog request) input outcome text = ⊥
AnswersTask (task.RunJournal request) input outcome text = ⊥
AnswersTask (task.Log senders batch) input outcome text =
    IsTold (most_of batch) senders input outcome text
AnswersTask task.Journal input outcome text = IsJournalAnswer input outcome text
AnswersTask task.Repair input outcome text = IsRepaired input outcome text

-- why a task that runs a bus does not end well, but for a failed write
abbrev pub FailsTask : Task → RunFault → Type 0
FailsTask task.Ratify fault = ⊥
FailsTask task.Replay fault = ⊥
FailsTask task.Trace fault = ⊥
FailsTask task.Picture fault = ⊥
FailsTask (task.Webpage purpose) fault = ⊥
FailsTask (task.Run request) fault = IsRunFault request.senders request.receivers fault
FailsTask (task.RunLog request) fault = IsRunFault request.senders request.receivers fault
FailsTask (task.RunJournal request) fault = IsRunFault request.senders request.receivers fault
FailsTask (task.Log senders batch) fault = ⊥
FailsTask task.Journal fault = ⊥
FailsTask task.Repair fault = ⊥

-- what a task that runs a bus prints of a run that ended well
abbrev pub PrintsTask : Task → List ℕ → Type 0
PrintsTask task.Ratify text = ⊥
PrintsTask task.Replay text = ⊥
PrintsTask task.Trace text = ⊥
PrintsTask task.Picture text = ⊥
PrintsTask (task.Webpage purpose) text = ⊥
PrintsTask (task.Run request) text =
    IsRunText request.senders request.receivers (min request.messages MOST_MESSAGES_EACH) text
PrintsTask (task.RunLog request) text =
    IsRunLog request.senders request.receivers (min request.messages MOST_MESSAGES_EACH) text
PrintsTask (task.RunJournal request) text =
    IsRunJournal request.senders request.receivers (min request.messages MOST_MESSAGES_EACH) text
PrintsTask (task.Log senders batch) text = ⊥
PrintsTask task.Journal text = ⊥
PrintsTask task.Repair text = ⊥
