-- The turns of a participant: what is due of it, its next step, what it holds after that step, and
-- what it answers. The table of a sender of either kind of rows says the same of it.
use Rattle.std.specs.Prelude.{ℕ, ◌+◌, Bool, false, Option, Some, None, nat_lt, if◌then◌else◌}
use Rattle.bus_register.specs.declared.kinds.Kind.{Kind}
use Rattle.bus_register.specs.declared.kinds.Kind.TheVariants as kind
use Rattle.bus_register.specs.declared.registers.Op.{Op}
use Rattle.bus_register.specs.declared.registers.SenderNo.{SenderNo}
use Rattle.bus_presence.specs.Pins.{pin_fed}
use Rattle.bus_presence.specs.Reclaimers.{Reclaiming, reclaim_fed, behind_of}
use Rattle.bus_presence.specs.declared.pins.Pin.{Pin}
use Rattle.bus_presence.specs.declared.pins.Pin.TheVariants.{Away, Announcing, Validating, Pinned}
use Rattle.bus_presence.specs.declared.pins.Pin.TheVariants.{Unpinning, Invalidated}
use Rattle.bus_tenure.specs.Core.{Core, Election}
use Rattle.bus_tenure.specs.Situations.{Situation, op_at, kind_at, wants_at}
use Rattle.bus_tenure.specs.Private.LineParts.{rest_at}
use Rattle.bus_tenure.specs.declared.turns.Turn.{Turn}
use Rattle.bus_tenure.specs.declared.turns.Turn.TheVariants as turn
use Rattle.bus_core.specs.Reusing.Participants.{log_from}
use Rattle.bus_core.specs.Private.ParticipantTable.{place_for, participant_line, Due, Pins}
use Rattle.bus_core.specs.Private.ParticipantTable.{Reads, Reclaims, Goes, due_of, passed_op}
use Rattle.bus_core.specs.Private.ParticipantTable.{core_looked, core_going, pin_going}
use Rattle.bus_core.specs.Private.ParticipantTable.{reclaimer_going, passed_going, answer_going}
use Rattle.bus_core.specs.Reusing.Passing.{core_passed, passing_fed}
use Rattle.bus_core.specs.Reusing.Turns.{Participant, op_placed, answer_of_loss, answer_of_reclaim}

-- all words of the bus
abbrev pub words_with : {E : Type 0} → Participant E → ℕ
words_with v = log_from v.core.layout v.rows + v.core.layout.capacity

-- what it does next
abbrev pub due : {E : Type 0} → Election E → Participant E → Due E
due X v = due_of X v.core.layout v.rows v.core.me v.core v.pin v.passed v.reclaimer

-- ---- the next step
-- with this random word
abbrev pub op_due : {E : Type 0} → Election E → Participant E → Due E → ℕ → Option Op
op_due X v (Pins o) word = Some o
op_due X v (Reads t p) word = Some (passed_op v.core.layout v.rows p)
op_due X v (Reclaims s o) word = Some o
op_due X v (Goes z) word = op_placed (place_for v.core.layout v.rows z) (op_at X v.core z word)

abbrev pub op_next : {E : Type 0} → Election E → Participant E → ℕ → Option Op
op_next X v word = op_due X v (due X v) word

-- what a step of a pin, and one of a reclamation, is for
abbrev pub kind_of_pin : Pin → Option Kind
kind_of_pin Away = None
kind_of_pin (Announcing t) = Some kind.Enter
kind_of_pin (Validating t) = Some kind.LoadStageAgain
kind_of_pin (Pinned t) = None
kind_of_pin (Unpinning t) = Some kind.Withdraw
kind_of_pin (Invalidated t) = Some kind.Withdraw

abbrev pub kind_of_reclaim : Reclaiming → Kind
kind_of_reclaim s = if nat_lt s.scanned s.senders then kind.ReadPresence else kind.ClearRow

abbrev pub kind_due : {E : Type 0} → Election E → Participant E → Due E → Option Kind
kind_due X v (Pins o) = kind_of_pin v.pin
kind_due X v (Reads t p) = Some kind.ReadPassed
kind_due X v (Reclaims s o) = Some (kind_of_reclaim s)
kind_due X v (Goes z) = kind_at X v.core z

abbrev pub wants_due : {E : Type 0} → Election E → Participant E → Due E → Bool
wants_due X v (Pins o) = false
wants_due X v (Reads t p) = false
wants_due X v (Reclaims s o) = false
wants_due X v (Goes z) = wants_at X v.core z

-- the answer where no step is due, and Going where one is
abbrev pub rest_due : {E : Type 0} → Election E → Participant E → Due E → Turn
rest_due X v (Pins o) = turn.Going
rest_due X v (Reads t p) = turn.Going
rest_due X v (Reclaims s o) = turn.Going
rest_due X v (Goes z) = rest_at X v.core z

-- ---- what it holds after a step that found this number
-- who won the tenure that it lost
abbrev pub lost_going : {E : Type 0} → Election E → Core E → Option SenderNo → Situation E → ℕ → ℕ
    → Option SenderNo
lost_going X c l z got word = (participant_line z).lost X c l got word

abbrev pub participant_due : {E : Type 0} → Election E → Participant E → Due E → ℕ → ℕ
    → Participant E
participant_due X v (Pins o) got word = record {
  core = core_looked X v.core v.pin got;
  pin = pin_fed v.pin got;
  reclaimer = v.reclaimer;
  passed = v.passed;
  lost = None;
  rows = v.rows;
}
participant_due X v (Reads t p) got word = record v {
  core = core_passed v.core (passing_fed p got);
  passed = passing_fed p got;
}
participant_due X v (Reclaims s o) got word = record v { reclaimer = Some (reclaim_fed s got) }
participant_due X v (Goes z) got word = record {
  core = core_going X v.core z got word;
  pin = pin_going X v.core v.pin z got word;
  reclaimer = reclaimer_going v.core.layout v.rows v.reclaimer z;
  passed = passed_going v.passed z;
  lost = lost_going X v.core v.lost z got word;
  rows = v.rows;
}

-- ---- its answers
abbrev pub answer_of_pin : Pin → Option SenderNo → Turn
answer_of_pin Away l = turn.Going
answer_of_pin (Announcing t) l = turn.Going
answer_of_pin (Validating t) l = turn.Going
answer_of_pin (Pinned t) l = turn.Going
answer_of_pin (Unpinning t) l = answer_of_loss t l
answer_of_pin (Invalidated t) l = turn.Waiting

abbrev pub answer_due : {E : Type 0} → Election E → Participant E → Due E → ℕ → ℕ → Turn
answer_due X v (Pins o) got word = answer_of_pin v.pin v.lost
answer_due X v (Reads t p) got word = turn.Going
answer_due X v (Reclaims s o) got word = answer_of_reclaim (behind_of s got)
answer_due X v (Goes z) got word = answer_going X v.core z got word
