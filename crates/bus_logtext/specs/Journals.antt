-- What is printed of a journal, and which part of it is left where its tail is cut off.
use Rattle.std.specs.Prelude.{◌≡◌, ◌≢◌, ◌⊎◌, ℕ, List, [], ◌∷◌, ◌++◌, take, codes}
use Rattle.std.specs.Prelude.{true, false, flat_map}
use Rattle.bus_batch.specs.Frames.{Frame}
use Rattle.bus_journal.specs.Format.{Heading}
use Rattle.bus_journal.specs.Reading.{Answer, Reads, IsRefused}
use Rattle.bus_journal.specs.declared.ends.JournalEnd.{JournalEnd}
use Rattle.bus_journal.specs.declared.ends.JournalEnd.TheVariants as end
use Rattle.bus_journal.specs.declared.headers.JournalFault.{JournalFault}
use Rattle.bus_journal.specs.declared.headers.JournalFault.TheVariants as fault
use Rattle.bus_replay.specs.Text.{behind}
use Rattle.bus_script.specs.declared.answers.Outcome.{Outcome}
use Rattle.bus_script.specs.declared.answers.Outcome.TheVariants.{Done, Refused}
use Rattle.bus_logtext.specs.Text.{log_text}

-- ---- the text

-- how many senders the header says, the most messages of a batch, the place of the first word, and
-- the first number of each sender
abbrev pub header_line : Heading → List ℕ
header_line h =
    codes "journal" ++ behind h.senders ++ behind h.most ++ behind h.place
    ++ flat_map behind h.first ++ 10 ∷ []

abbrev pub end_name : JournalEnd → List ℕ
end_name end.Whole = codes "whole"
end_name end.Torn = codes "torn"
end_name end.Damaged = codes "damaged"

-- how the bytes end, and how many stand before the end of the last whole record
abbrev pub end_line : JournalEnd → ℕ → List ℕ
end_line e whole = end_name e ++ behind whole ++ 10 ∷ []

-- the header, the lines of the frames as those of a log, and how the bytes end
abbrev pub journal_text : Heading → List Frame → JournalEnd → ℕ → List ℕ
journal_text h frames e whole = header_line h ++ log_text frames ++ end_line e whole

abbrev pub fault_name : JournalFault → List ℕ
fault_name fault.OtherMagic = codes "OtherMagic"
fault_name (fault.OtherVersion version) = codes "OtherVersion" ++ behind version
fault_name fault.TornHeader = codes "TornHeader"
fault_name fault.DamagedHeader = codes "DamagedHeader"
fault_name fault.NoMemory = codes "NoMemory"

-- the one line of bytes that are not read as a journal
abbrev pub fault_line : JournalFault → List ℕ
fault_line f = codes "header: " ++ fault_name f ++ 10 ∷ []

-- ---- answers

-- only what is whole is done
abbrev pub outcome_of : JournalEnd → Outcome
outcome_of end.Whole = Done
outcome_of end.Torn = Refused
outcome_of end.Damaged = Refused

-- the bytes are read as a journal, and all that they say is told
pub record TellsJournal (input : List ℕ) (outcome : Outcome) (text : List ℕ) : Type 0 where
  pub frames : List Frame
  pub answer : Answer
  pub reads : Reads input frames answer
  pub outcome_is : outcome ≡ outcome_of answer.end
  pub text_is : text ≡ journal_text answer.heading frames answer.end answer.whole

-- the bytes are no journal that is read, for this cause
pub record IsNoJournal (input : List ℕ) (cause : JournalFault) : Type 0 where
  pub refused : IsRefused input cause
  pub known : cause ≢ fault.NoMemory

pub record RefusesJournal (input : List ℕ) (outcome : Outcome) (text : List ℕ) : Type 0 where
  pub cause : JournalFault
  pub none : IsNoJournal input cause
  pub outcome_is : outcome ≡ Refused
  pub text_is : text ≡ fault_line cause

-- the text that answers bytes: what they say as a journal, or why they are none
abbrev pub IsJournalAnswer : List ℕ → Outcome → List ℕ → Type 0
IsJournalAnswer input outcome text =
    TellsJournal input outcome text ⊎ RefusesJournal input outcome text

-- ---- what is left where a torn tail is cut off

-- So many bytes are left: those before the end of the last whole record. No whole record of a later
-- place stands behind them.
pub record Mends (input : List ℕ) (size : ℕ) : Type 0 where
  pub frames : List Frame
  pub answer : Answer
  pub reads : Reads input frames answer
  pub mendable : answer.end ≢ end.Damaged
  pub hides : answer.hides ≡ false
  pub size_is : size ≡ answer.whole

-- the bytes are read as a journal that is damaged, or that only looks torn
pub record IsDamaged (input : List ℕ) : Type 0 where
  pub frames : List Frame
  pub answer : Answer
  pub reads : Reads input frames answer
  pub damaged : (answer.end ≡ end.Damaged) ⊎ (answer.hides ≡ true)

-- they are so, or no journal
abbrev pub IsBeyondRepair : List ℕ → Type 0
IsBeyondRepair input = IsDamaged input ⊎ ((cause : JournalFault) × IsNoJournal input cause)

-- the bytes that a repair leaves; of what is beyond it none
abbrev pub IsRepaired : List ℕ → Outcome → List ℕ → Type 0
IsRepaired input Done left = (size : ℕ) × Mends input size × (left ≡ take size input)
IsRepaired input Refused left = IsBeyondRepair input × (left ≡ [])
