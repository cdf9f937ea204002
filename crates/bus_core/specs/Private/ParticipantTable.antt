-- The table of a participant, a sender of a bus whose rows are used again: what it does beside the
-- turns of a sender that has a row for each tenure. It stores its presence before it enters a
-- tenure and clears it afterwards; as a holder it makes the row of the next tenure ready, and where
-- its frame does not fit it first loads what is left of the passed places. Where no step of its pin
-- is due, one line says for each situation of such a sender what a participant does otherwise.
use Rattle.std.specs.Prelude.{ℕ, ◌+◌, ◌-◌, ◌*◌, ◌/◌, Option, Some, None, ◌==◌, if◌then◌else◌}
use Rattle.bus_register.specs.declared.registers.Op.{Op}
use Rattle.bus_register.specs.declared.registers.Op.TheVariants.{Load}
use Rattle.bus_register.specs.declared.registers.SenderNo.{SenderNo}
use Rattle.bus_presence.specs.Pins.{step_at}
use Rattle.bus_presence.specs.Reclaimers.{Reclaiming, reclaim_op}
use Rattle.bus_presence.specs.Reclamation.{presence_at, row_of}
use Rattle.bus_presence.specs.Reclamation as reclamation
use Rattle.bus_presence.specs.declared.pins.Pin.{Pin}
use Rattle.bus_presence.specs.declared.pins.Pin.TheVariants.{Away, Announcing, Validating, Pinned}
use Rattle.bus_presence.specs.declared.pins.Pin.TheVariants.{Unpinning, Invalidated}
use Rattle.bus_tenure.specs.Core.{Core, Election, Layout, stage_at, row_at, log_at}
use Rattle.bus_tenure.specs.Situations.{Situation, IsClosed, IsIdle, IsSpent, LooksAtStage, Elects}
use Rattle.bus_tenure.specs.Situations.{TakesPage, AwaitsPage, StoresWord, StoresLength, GivesBack}
use Rattle.bus_tenure.specs.Situations.{HasHanded, situation_of, fed_at, answer_at, core_begun}
use Rattle.bus_tenure.specs.declared.phases.Reason.{Reason}
use Rattle.bus_tenure.specs.declared.phases.Reason.TheVariants.{Sent, FoundEnd, NoRoom}
use Rattle.bus_tenure.specs.declared.turns.Turn.{Turn}
use Rattle.bus_tenure.specs.declared.turns.Turn.TheVariants as turn
use Rattle.bus_core.specs.Reusing.Participants.{sizes_with, log_from, core_seen, pin_seen}
use Rattle.bus_core.specs.Reusing.Participants.{pin_elected, lost_elected, passed_from}
use Rattle.bus_core.specs.Reusing.Passing.{passing_begun, passing_left}
use Rattle.bus_core.specs.declared.limits.TheConstants.{PASSED_APART}
use Rattle.bus_core.specs.declared.reuses.Passing.{Passing}

-- ---- a line of the table
-- what a participant's turn is in a situation of the sender that it is
pub record ParticipantLine (E : Type 0) : Type 0 where
  -- where with so many rows the word lies that has this place on a bus with a row for each tenure
  pub place : Layout → (rows place : ℕ) → ℕ
  -- of the passed places that are left to load: the tenure whose page it holds, and which come
  -- before the step
  pub passed_before : Option Passing → Option (ℕ × Passing)
  -- of the reclaimer that it has: what comes before the step, behind those
  pub reclaimer_before : Option Reclaiming → Option Reclaiming
  -- after a step that found this number, with this random word: what it holds as a sender, how far
  -- its pin has come, and who won the tenure that it lost
  pub core : Election E → Core E → (got word : ℕ) → Core E
  pub pin : Election E → Core E → Pin → (got word : ℕ) → Pin
  pub lost : Election E → Core E → Option SenderNo → (got word : ℕ) → Option SenderNo
  -- of the reclaimer that it has: what is left of it after the step, or begins with that
  pub reclaimer_after : Layout → (rows : ℕ) → Option Reclaiming → Option Reclaiming
  -- of the passed places that it has loaded: what it remembers after the step
  pub passed : Passing → Passing
  -- its answer to the step
  pub answer : Election E → Core E → (got word : ℕ) → Turn

-- a participant that has nothing to do, with this answer
abbrev pub rests_as : {E : Type 0} → Turn → ParticipantLine E
rests_as answer = record {
  place = λ x rows r. r;
  passed_before = λ l. None;
  reclaimer_before = λ s. None;
  core = λ X c got word. c;
  pin = λ X c v got word. v;
  lost = λ X c l got word. l;
  reclaimer_after = λ x rows s. s;
  passed = λ p. p;
  answer = λ X c got word. answer;
}

-- it holds afterwards what a sender does in this situation, and answers this
abbrev pub steps_as : {E : Type 0} → Situation E → Turn → ParticipantLine E
steps_as z answer = record (rests_as answer) { core = λ X c got word. fed_at X c z got word }

-- it answers as a sender does, too
abbrev pub steps_alike : {E : Type 0} → Situation E → ParticipantLine E
steps_alike z = record (steps_as z turn.Going) { answer = λ X c got word. answer_at X c z got word }

-- who gives the page of a tenure back for want of room, with these left to load
abbrev pub lacking : Reason → ℕ → Option Passing → Option (ℕ × Passing)
lacking Sent t l = None
lacking FoundEnd t l = None
lacking NoRoom t None = None
lacking NoRoom t (Some p) = Some (t, p)

-- ---- THE TABLE: one line for each situation
-- No step of the election is answered by Lost. The reclamation begins with the page that is taken,
-- comes before the step that gives the page back, and is over with that; a page that is handed on
-- already has its reclamation behind it.
abbrev pub participant_line : {E : Type 0} → Situation E → ParticipantLine E
participant_line IsClosed = rests_as turn.Closed
participant_line IsIdle = rests_as turn.Idle
participant_line IsSpent = rests_as turn.Spent
participant_line LooksAtStage = record (steps_alike LooksAtStage) {
  core = λ X c got word. core_seen c got;
  pin = λ X c v got word. pin_seen c got;
}
participant_line (Elects t e) = record (steps_as (Elects t e) turn.Going) {
  place = λ x rows r. row_of (sizes_with x rows) t + (r - row_at x t);
  pin = λ X c v got word. pin_elected c t (X.owner (X.fed e got word));
  lost = λ X c l got word. lost_elected c l (X.owner (X.fed e got word));
}
participant_line (TakesPage t) = record (steps_as (TakesPage t) (turn.Own t)) {
  pin = λ X c v got word. Unpinning t;
  reclaimer_after = λ x rows s. reclamation.reclaimer_after (sizes_with x rows) t;
  passed = λ p. passing_begun;
}
participant_line (AwaitsPage t) = steps_as (AwaitsPage t) turn.Going
participant_line (StoresWord t page stored) =
    record (steps_as (StoresWord t page stored) turn.Going) {
      place = λ x rows r. log_from x rows + (r - log_at x);
    }
participant_line (StoresLength t page stored) = steps_as (StoresLength t page stored) turn.Going
participant_line (GivesBack t page reason) = record (steps_alike (GivesBack t page reason)) {
  passed_before = λ l. lacking reason t l;
  reclaimer_before = λ s. s;
  reclaimer_after = λ x rows s. None;
}
participant_line (HasHanded t reason) =
    record (steps_alike (HasHanded t reason)) { reclaimer_after = λ x rows s. None }

-- ---- a line, read by its parts
abbrev pub place_for : {E : Type 0} → Layout → ℕ → Situation E → ℕ → ℕ
place_for x rows z r = (participant_line z).place x rows r

abbrev pub passed_due : {E : Type 0} → Situation E → Option Passing → Option (ℕ × Passing)
passed_due z l = (participant_line z).passed_before l

abbrev pub reclaim_due : {E : Type 0} → Situation E → Option Reclaiming → Option Reclaiming
reclaim_due z s = (participant_line z).reclaimer_before s

abbrev pub core_going : {E : Type 0} → Election E → Core E → Situation E → ℕ → ℕ → Core E
core_going X c z got word = (participant_line z).core X c got word

abbrev pub pin_going : {E : Type 0} → Election E → Core E → Pin → Situation E → ℕ → ℕ → Pin
pin_going X c v z got word = (participant_line z).pin X c v got word

abbrev pub reclaimer_going : {E : Type 0} → Layout → ℕ → Option Reclaiming → Situation E
    → Option Reclaiming
reclaimer_going x rows s z = (participant_line z).reclaimer_after x rows s

abbrev pub passed_going : {E : Type 0} → Passing → Situation E → Passing
passed_going p z = (participant_line z).passed p

abbrev pub answer_going : {E : Type 0} → Election E → Core E → Situation E → ℕ → ℕ → Turn
answer_going X c z got word = (participant_line z).answer X c got word

-- ---- what a participant does next
pub data Due (E : Type 0) : Type 0 where
  -- it takes this step of its pin
  Pins : Op → Due E
  -- as the holder of the page of a tenure it loads the next passed place, with these loaded
  Reads : (tenure : ℕ) → Passing → Due E
  -- it takes this step of its reclamation
  Reclaims : Reclaiming → Op → Due E
  -- it goes on as a sender that has a row for each tenure
  Goes : Situation E → Due E

abbrev pub due_reclaimed : {E : Type 0} → Reclaiming → Option Op → Situation E → Due E
due_reclaimed s None z = Goes z
due_reclaimed s (Some o) z = Reclaims s o

abbrev pub due_home : {E : Type 0} → Option Reclaiming → Situation E → Due E
due_home None z = Goes z
due_home (Some s) z = due_reclaimed s (reclaim_op s) z

-- a passed place comes before a reclamation
abbrev pub due_passed : {E : Type 0} → Option (ℕ × Passing) → Due E → Due E
due_passed None d = d
due_passed (Some q) d = Reads q.0 q.1

-- a step of its pin comes first
abbrev pub due_beside : {E : Type 0} → Option Op → Option Passing → Option Reclaiming → Situation E
    → Due E
due_beside (Some o) l s z = Pins o
due_beside None l s z = due_passed (passed_due z l) (due_home (reclaim_due z s) z)

-- of sender p, which holds this, whose pin has come so far, with the passed places that the holder
-- has loaded and its reclaimer
abbrev pub due_of : {E : Type 0} → Election E → Layout → ℕ → ℕ → Core E → Pin → Passing
    → Option Reclaiming → Due E
due_of X x rows p c pin passing reclaimer = due_beside
    (step_at pin (presence_at (sizes_with x rows) p) stage_at) (passing_left x.passers passing)
    reclaimer (situation_of X c)

-- the load of the passed place behind those that are loaded
abbrev pub passed_op : Layout → ℕ → Passing → Op
passed_op x rows p = Load (record { 0 = passed_from x rows + PASSED_APART * p.loaded })

-- ---- what it holds after a step of its pin
-- a sender that has looked at the stage again begins the tenure, where the stage is of that tenure
-- still
abbrev pub core_looked : {E : Type 0} → Election E → Core E → Pin → ℕ → Core E
core_looked X c Away got = c
core_looked X c (Announcing t) got = c
core_looked X c (Validating t) got = if got / 2 == t then core_begun X c t else c
core_looked X c (Pinned t) got = c
core_looked X c (Unpinning t) got = c
core_looked X c (Invalidated t) got = c
