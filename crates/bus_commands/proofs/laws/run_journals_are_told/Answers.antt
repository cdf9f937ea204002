use Rattle.std.proofs.Common.{length, sym, subst, arith}
use Rattle.bus_register.specs.declared.limits.TheConstants.{LOG_MESSAGES, MOST_MESSAGES}
use Rattle.bus_batch.proofs.LimitLaws.{frames_of_more}
use Rattle.bus_script.specs.declared.answers.Outcome.TheVariants.{Done}
use Rattle.bus_journal.specs.declared.ends.JournalEnd.TheVariants as end
use Rattle.bus_logtext.specs.Journals.{IsJournalAnswer, journal_text}
use Rattle.bus_commands.specs.RunLog.{run_heading}
use Rattle.bus_commands.proofs.PrintLemmas.{are_few, is_run_heading}
use Rattle.bus_commands.proofs.laws.run_journals_are_told.Goals as goal

pub returns : goal.returns
returns c senders receivers messages text some few j =
    let h = run_heading senders in
    let frames = j.frames in
    let lawful =
    frames_of_more LOG_MESSAGES MOST_MESSAGES senders 0 frames (omega arith) j.lawful in
    subst (λ z. IsJournalAnswer z Done (journal_text h frames end.Whole (length z)))
    (sym j.text_is)
    (c.written_journals_are_told.ensures h frames (is_run_heading senders some few) lawful
    (are_few LOG_MESSAGES senders 0 frames (omega arith) j.lawful))
