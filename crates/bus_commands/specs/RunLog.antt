-- What `run` prints of a run's log, and the journal that it writes.
use Rattle.std.specs.Prelude.{◌≡◌, ℕ, List, replicate}
use Rattle.bus_register.specs.declared.limits.TheConstants.{LOG_MESSAGES}
use Rattle.bus_batch.specs.Frames.{Frame, AreFramesOf, log_words}
use Rattle.bus_journal.specs.Format.{Heading, journal_bytes}
use Rattle.bus_logtext.specs.Words.{words_text}
use Rattle.bus_run.specs.RunText.{IsRunText}

-- The log of a run that ended well, a line for each of its words: the summary that is printed of
-- such a run is of this log.
pub record IsRunLog (senders receivers messages : ℕ) (text : List ℕ) : Type 0 where
  pub summary : List ℕ
  pub run : IsRunText senders receivers messages summary
  pub text_is : text ≡ words_text run.left.log

-- the header of a run's journal: all its numbers begin at 0, and so does its log
abbrev pub run_heading : ℕ → Heading
run_heading senders = record {
  senders = senders;
  most = LOG_MESSAGES;
  place = 0;
  first = replicate senders 0;
}

-- The bytes of a journal of the frames that the log of such a run is.
pub record IsRunJournal (senders receivers messages : ℕ) (text : List ℕ) : Type 0 where
  pub summary : List ℕ
  pub run : IsRunText senders receivers messages summary
  pub frames : List Frame
  -- none of them has more messages than the header says
  pub lawful : AreFramesOf LOG_MESSAGES senders frames
  pub words_are : log_words frames ≡ run.left.log
  pub text_is : text ≡ journal_bytes (run_heading senders) frames
