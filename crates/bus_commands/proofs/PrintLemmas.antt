-- What is printed of a run that ended well, and that nothing is printed of another.
use Rattle.std.proofs.Common.{◌≡◌, ℕ, ◌+◌, ◌*◌, ◌<◌, ◌≤◌, ◌^◌, List, [], ◌∷◌, length, inl}
use Rattle.std.proofs.Common.{inr, refl, sym, subst, ◌∙◌, arith}
use Rattle.std.specs.Prelude.{Result, Err, IsErr, IsErrAnd}
use Rattle.bus_pageslot.specs.Outcomes.{Outcome}
use Rattle.bus_receiver.specs.Hearing.{Hearing}
use Rattle.bus_run.specs.Audit.{OfOrder, shape_of_run}
use Rattle.bus_run.specs.Reports.{IsRunReport}
use Rattle.bus_run.specs.RunText.{report_text, IsRunText}
use Rattle.bus_logtext.specs.Words.{words_text}
use Rattle.bus_commands.specs.RunLog.{IsRunLog, IsRunJournal, run_heading}
use Rattle.bus_batch.specs.Frames.{Frame, AreFrames, AreFramesFromOf, body_words, log_words}
use Rattle.bus_batch.proofs.Heads.{body_within}
use Rattle.bus_journal.specs.Format.{IsHeading, journal_bytes}
use Rattle.bus_journal.specs.Reading.{AreFew}
use Rattle.bus_register.specs.declared.limits.TheConstants.{MOST_SENDERS}
use Rattle.std.proofs.lemmas.List.{length-replicate}
use Rattle.std.proofs.lemmas.List.Elements.{All-cons, All-nil, All-replicate}
use Rattle.bus_run.proofs.FrameLimits.{few_left}
use Rattle.bus_run.specs.Stops.{IsStop, IsRunFault}
use Rattle.bus_run.specs.declared.faults.RunFault.{RunFault}
use Rattle.bus_run.specs.declared.faults.RunFault.TheVariants as run

-- a text of an order that the words spell
abbrev text_of_order :
    (senders receivers messages : ℕ) (left : Outcome) (heards : List Hearing) (text : List ℕ)
    → (made : IsRunReport (shape_of_run senders receivers) messages left heards)
    → text ≡ report_text made.spelled.0 left.page senders heards
    → IsRunText senders receivers messages text
text_of_order senders receivers messages left heards text made said = record {
  left = left;
  heards = heards;
  report = made;
  order = made.spelled.0;
  owners = made.spelled.1;
  spells = made.spelled.2;
  text_is = said;
}

pub is_run_text :
    (senders receivers messages : ℕ) (left : Outcome) (heards : List Hearing) (text : List ℕ)
    → IsRunReport (shape_of_run senders receivers) messages left heards
    → OfOrder left (λ order. text ≡ report_text order left.page senders heards)
    → IsRunText senders receivers messages text
is_run_text senders receivers messages left heards text made said =
    text_of_order senders receivers messages left heards text made
    (said made.spelled.0 made.spelled.1 made.spelled.2)

pub is_run_log :
    (senders receivers messages : ℕ) (left : Outcome) (heards : List Hearing) (text : List ℕ)
    → IsRunReport (shape_of_run senders receivers) messages left heards → text ≡ words_text left.log
    → IsRunLog senders receivers messages text
is_run_log senders receivers messages left heards text made said = record {
  summary = report_text made.spelled.0 left.page senders heards;
  run = text_of_order senders receivers messages left heards _ made refl;
  text_is = said;
}

-- the header of a run's journal is one
pub is_run_heading : (senders : ℕ) → 1 ≤ senders → senders ≤ MOST_SENDERS
    → IsHeading (run_heading senders)
is_run_heading senders some few = record {
  some_senders = some;
  most_senders = few;
  some_messages = omega arith;
  most_messages = omega arith;
  place = omega arith;
  each_sender = length-replicate senders 0;
  words = All-replicate (λ number. number < 2 ^ 64) senders 0 (omega arith);
}

-- frames of so many messages at most have as many words as those have
pub are_few : (most senders least : ℕ) (frames : List Frame) → 1 ≤ most
    → AreFramesFromOf most senders least frames → AreFew most frames
are_few most senders least [] some lawful =
    All-nil (λ (g : Frame). length (body_words g.body) ≤ 8 * most)
are_few most senders least (f ∷ frames) some lawful =
    All-cons (λ (g : Frame). length (body_words g.body) ≤ 8 * most) f frames
    (body_within most f.body some lawful.0.body)
    (are_few most senders (f.tenure + 1) frames some lawful.3)

-- the bytes of a journal of the frames that the words spell
pub is_run_journal :
    (senders receivers messages : ℕ) (left : Outcome) (heards : List Hearing) (text : List ℕ)
    → IsRunReport (shape_of_run senders receivers) messages left heards
    → ((frames : List Frame) → AreFrames senders frames → log_words frames ≡ left.log
    → text ≡ journal_bytes (run_heading senders) frames)
    → IsRunJournal senders receivers messages text
is_run_journal senders receivers messages left heards text made said =
    let s = made.spelled.2 in
    let lawful : AreFrames senders s.frames =
    subst (λ z. AreFrames z s.frames) made.senders_are s.lawful in
    record {
      summary = report_text made.spelled.0 left.page senders heards;
      run = text_of_order senders receivers messages left heards _ made refl;
      frames = s.frames;
      lawful =
          few_left (shape_of_run senders receivers) messages left heards made s.frames lawful
          s.words_are;
      words_are = s.words_are;
      text_is = said s.frames lawful s.words_are;
    }

-- ---- what goes wrong before anything is written
pub no_stop_is_write : (senders receivers : ℕ) (fault : RunFault) → IsStop senders receivers fault
    → fault ≡ run.Write → ⊥
no_stop_is_write senders receivers fault stop is = subst (IsStop senders receivers) is stop

pub no_run_fault_is_write : (senders receivers : ℕ) (fault : RunFault)
    → IsRunFault senders receivers fault → fault ≡ run.Write → ⊥
no_run_fault_is_write senders receivers fault (inl made) is =
    absurd (let no : run.Make made.0 ≡ run.Write = sym made.1 ∙ is in cc)
no_run_fault_is_write senders receivers fault (inr stopped) is =
    no_stop_is_write senders receivers fault stopped.0 is

-- a fault that was passed on as it is
pub passed_on : {A : Type 0} (fault : RunFault) (r : Result A RunFault)
    → IsErr r × IsErrAnd r (λ e. e ≡ fault) → r ≡ Err run.Write → fault ≡ run.Write
passed_on {A} fault r h is =
    let same : IsErrAnd (let w : Result A RunFault = Err run.Write in w) (λ e. e ≡ fault) =
    subst (λ z. IsErrAnd z (λ e. e ≡ fault)) is h.1 in
    sym same
