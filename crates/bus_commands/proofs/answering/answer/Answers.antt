use Rattle.std.proofs.Common.{◌≡◌, ℕ, List, IfOk, IfErr, Option, string_bytes, refl, sym}
use Rattle.std.proofs.Common.{subst}
use Rattle.std.proofs.lemmas.Result.{IfOk-weaker, IfErr-weaker}
use Rattle.std.specs.Io.KnownBytes.{Appends}
use Rattle.bus_script.specs.declared.answers.Answer.{Answer}
use Rattle.bus_script.specs.declared.answers.Outcome.{Outcome}
use Rattle.bus_run.specs.declared.faults.RunFault.{RunFault}
use Rattle.bus_run.specs.declared.faults.RunFault.TheVariants.{Read, Write, TooMuch, NoMemory}
use Rattle.bus_adoptcommit.specs.ThreeWordKeeps.{three_word}
use Rattle.bus_picture.specs.Pictures.{picture}
use Rattle.bus_trace.specs.Traces.{IsTrace}
use Rattle.bus_webpage.specs.Webpages.{script_of, webpage}
use Rattle.bus_commands.specs.declared.command_line.Task.{Task}
use Rattle.bus_commands.specs.declared.command_line.Task.TheVariants as task
use Rattle.bus_commands.specs.declared.streams.TheConstants.{SCRIPT_LIMIT, JOURNAL_LIMIT}
use Rattle.bus_logtext.specs.Journals.{IsJournalAnswer}
use Rattle.bus_commands.specs.Streams.{ReadsWhole, IsScriptFault}
use Rattle.bus_commands.specs.Tasks.{AnswersTask, by_three_words, limit_of}
use Rattle.bus_commands.proofs.answering.answer.Goals as goal

-- what an answer has read and written, by the task
abbrev Answered : Task → Option (List ℕ) → Option (List ℕ) → Option (List ℕ) → Answer → Type 0
Answered task before from to answer =
    (input : List ℕ) × (text : List ℕ) × ReadsWhole (limit_of task) before input
    × AnswersTask task input answer.outcome text × Appends from to text

-- why there is none, by the task
abbrev Fails : Task → Option (List ℕ) → Option (List ℕ) → Option (List ℕ) → Option (List ℕ)
    → RunFault → Type 0
Fails task before after from to =
    IsScriptFault (limit_of task)
    (λ input text. (outcome : Outcome) × AnswersTask task input outcome text) before after from to

-- with another word for what answers an input
fault_more : (limit : ℕ) (A B : List ℕ → List ℕ → Type 0)
    → ((input text : List ℕ) → A input text → B input text)
    → (before after from to : Option (List ℕ)) (fault : RunFault)
    → IsScriptFault limit A before after from to fault
    → IsScriptFault limit B before after from to fault
fault_more limit A B more before after from to Read h = h
fault_more limit A B more before after from to TooMuch h = h
fault_more limit A B more before after from to NoMemory h = h
fault_more limit A B more before after from to Write h =
    (h.0, h.1, h.2, h.3, more h.0 h.1 h.4, h.5)
fault_more limit A B more before after from to other h = h

pub returns-in-Picture-clause-ok : goal.returns-in-Picture-clause-ok
returns-in-Picture-clause-ok g c = subst
    (λ t. IfOk c.picture.result (Answered t (g.R.Read.remaining c.args.reader.now)
    (g.W.Write.contents c.args.writer.now) (g.W.Write.contents c.picture.new.writer)))
    (sym c.in-Picture.is)
    (IfOk-weaker c.picture.result _ _ (λ answer h. (
      h.0,
      picture (string_bytes answer.text),
      h.1,
      (string_bytes answer.text, h.2, refl),
      h.3,
    )) c.picture.ensures.ok)

pub returns-in-Picture-clause-fault : goal.returns-in-Picture-clause-fault
returns-in-Picture-clause-fault g c =
    let before = g.R.Read.remaining c.args.reader.now in
    let after = g.R.Read.remaining c.picture.new.reader in
    let from = g.W.Write.contents c.args.writer.now in
    let to = g.W.Write.contents c.picture.new.writer in
    let IsAnswered : List ℕ → List ℕ → Type 0 = λ input text.
    (outcome : Outcome) × (trace : List ℕ)
    × IsTrace by_three_words three_word input outcome trace
    × (text ≡ picture trace) in
    let Answers : List ℕ → List ℕ → Type 0 = λ input text.
    (outcome : Outcome) × AnswersTask task.Picture input outcome text in
    subst (λ t. IfErr c.picture.result (Fails t before after from to)) (sym c.in-Picture.is)
    (IfErr-weaker c.picture.result (IsScriptFault SCRIPT_LIMIT IsAnswered before after from to)
    (Fails task.Picture before after from to)
    (fault_more SCRIPT_LIMIT IsAnswered Answers (λ input text is. (is.0, (is.1, is.2, is.3)))
    before after from to)
    c.picture.ensures.fault)

pub returns-in-Webpage-clause-ok : goal.returns-in-Webpage-clause-ok
returns-in-Webpage-clause-ok g c = subst
    (λ t. IfOk c.webpage.result (Answered t (g.R.Read.remaining c.args.reader.now)
    (g.W.Write.contents c.args.writer.now) (g.W.Write.contents c.webpage.new.writer)))
    (sym c.in-Webpage.is)
    (IfOk-weaker c.webpage.result _ _ (λ answer h. (
      h.0,
      webpage c.in-Webpage.purpose (script_of c.in-Webpage.purpose h.0) (string_bytes answer.text),
      h.1,
      (string_bytes answer.text, h.2, refl),
      h.3,
    )) c.webpage.ensures.ok)

pub returns-in-Webpage-clause-fault : goal.returns-in-Webpage-clause-fault
returns-in-Webpage-clause-fault g c =
    let before = g.R.Read.remaining c.args.reader.now in
    let after = g.R.Read.remaining c.webpage.new.reader in
    let from = g.W.Write.contents c.args.writer.now in
    let to = g.W.Write.contents c.webpage.new.writer in
    let IsAnswered : List ℕ → List ℕ → Type 0 = λ input text.
    (outcome : Outcome) × (trace : List ℕ)
    × IsTrace by_three_words three_word (script_of c.in-Webpage.purpose input) outcome trace
    × (text ≡ webpage c.in-Webpage.purpose (script_of c.in-Webpage.purpose input) trace) in
    let Answers : List ℕ → List ℕ → Type 0 = λ input text.
    (outcome : Outcome) × AnswersTask (task.Webpage c.in-Webpage.purpose) input outcome text in
    subst (λ t. IfErr c.webpage.result (Fails t before after from to)) (sym c.in-Webpage.is)
    (IfErr-weaker c.webpage.result (IsScriptFault SCRIPT_LIMIT IsAnswered before after from to)
    (Fails (task.Webpage c.in-Webpage.purpose) before after from to)
    (fault_more SCRIPT_LIMIT IsAnswered Answers (λ input text is. (is.0, (is.1, is.2, is.3)))
    before after from to)
    c.webpage.ensures.fault)

pub returns-in-Journal-clause-ok : goal.returns-in-Journal-clause-ok
returns-in-Journal-clause-ok g c =
    let before = g.R.Read.remaining c.args.reader.now in
    let from = g.W.Write.contents c.args.writer.now in
    let to = g.W.Write.contents c.journal.new.writer in
    subst (λ t. IfOk c.without_trace-in-Journal.result (Answered t before from to))
    (sym c.in-Journal.is)
    (IfOk-weaker c.without_trace-in-Journal.result _ (Answered task.Journal before from to)
    (λ answer e. subst (λ r. IfOk r (λ outcome. (input : List ℕ) × (text : List ℕ)
    × ReadsWhole JOURNAL_LIMIT before input × IsJournalAnswer input outcome text
    × Appends from to text)) e c.journal.ensures.ok)
    c.without_trace-in-Journal.ensures.ok)

pub returns-in-Journal-clause-fault : goal.returns-in-Journal-clause-fault
returns-in-Journal-clause-fault g c =
    let before = g.R.Read.remaining c.args.reader.now in
    let after = g.R.Read.remaining c.journal.new.reader in
    let from = g.W.Write.contents c.args.writer.now in
    let to = g.W.Write.contents c.journal.new.writer in
    subst (λ t. IfErr c.without_trace-in-Journal.result (Fails t before after from to))
    (sym c.in-Journal.is)
    (IfErr-weaker c.without_trace-in-Journal.result _ (Fails task.Journal before after from to)
    (λ fault e. subst (λ r. IfErr r (Fails task.Journal before after from to)) e
    c.journal.ensures.fault) c.without_trace-in-Journal.ensures.err)
