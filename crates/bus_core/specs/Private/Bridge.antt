-- With None a line is that of a sender with a row for each tenure; with Some the line that is due
-- is what is due of a participant.
use Rattle.std.specs.Prelude.{◌≡◌, ℕ, Option, Some, None}
use Rattle.bus_batch.specs.Frames.{Frame}
use Rattle.bus_tenure.specs.Core.{Core, Election}
use Rattle.bus_tenure.specs.Situations.{PageMove, Stays, Line as OwnLine, line_of}
use Rattle.bus_tenure.specs.Situations.{situation_of as own_situation}
use Rattle.bus_core.specs.Private.ParticipantTable.{Due, Pins, Reads, Reclaims, Goes}
use Rattle.bus_core.specs.Private.ParticipantTurns.{due, op_due, kind_due, wants_due, rest_due}
use Rattle.bus_core.specs.Private.ParticipantTurns.{participant_due, answer_due}
use Rattle.bus_core.specs.Reusing.Turns.{Participant}
use Rattle.bus_core.specs.Senders.{Sender}
use Rattle.bus_core.specs.Table.{Line, line_now, rest_at}
use Rattle.bus_core.specs.declared.reuses.Reuse.{Reuse}

-- ---- a sender with a row for each tenure, ..
abbrev pub with_a_row_each : {E : Type 0} → Core E → Sender E
with_a_row_each c = record { core = c; reuse = None }

-- .. and a participant, as a sender of either kind
abbrev pub reuse_of : {E : Type 0} → Participant E → Reuse
reuse_of v = record {
  pin = v.pin;
  reclaimer = v.reclaimer;
  passed = v.passed;
  lost = v.lost;
  rows = v.rows;
}

abbrev pub with_rows_again : {E : Type 0} → Participant E → Sender E
with_rows_again v = record { core = v.core; reuse = Some (reuse_of v) }

-- a line of a sender with a row for each tenure, as one of a sender of either kind
abbrev pub line_with_a_row_each : {E : Type 0} → OwnLine E → Line E
line_with_a_row_each l = record {
  tenure = l.tenure;
  kind = l.kind;
  op = l.op;
  wants_word = l.wants_word;
  fed = λ got word. with_a_row_each (l.fed got word);
  answer = l.answer;
  chosen = l.chosen;
  rest = l.rest;
  move = l.move;
  takes = l.takes;
  publishes = l.publishes;
}

abbrev pub AtNone : {E : Type 0} → Election E → Type 0
AtNone {E} X =
    (c : Core E)
    → line_now X (with_a_row_each c) ≡ line_with_a_row_each (line_of X c (own_situation X c))

-- how the page moves with what is due
abbrev pub move_of : {E : Type 0} → Election E → Core E → Due E → PageMove
move_of X c (Pins o) = Stays
move_of X c (Reads t p) = Stays
move_of X c (Reclaims s o) = Stays
move_of X c (Goes z) = (line_of X c z).move

abbrev pub publishes_of : {E : Type 0} → Election E → Core E → Due E → Option Frame
publishes_of X c (Pins o) = None
publishes_of X c (Reads t p) = None
publishes_of X c (Reclaims s o) = None
publishes_of X c (Goes z) = (line_of X c z).publishes

-- a line is that of a participant of which this is due
pub record IsLineOf {E : Type 0} (X : Election E) (v : Participant E) (d : Due E) (l : Line E) :
    Type 0 where
  pub kind : l.kind ≡ kind_due X v d
  pub op : (word : ℕ) → l.op word ≡ op_due X v d word
  pub wants : l.wants_word ≡ wants_due X v d
  pub fed : (got word : ℕ) → l.fed got word ≡ with_rows_again (participant_due X v d got word)
  pub answer : (got word : ℕ) → l.answer got word ≡ answer_due X v d got word
  pub rest : rest_at l ≡ rest_due X v d
  pub move : l.move ≡ move_of X v.core d
  pub publishes : l.publishes ≡ publishes_of X v.core d

abbrev pub AtSome : {E : Type 0} → Election E → Type 0
AtSome {E} X = (v : Participant E) → IsLineOf X v (due X v) (line_now X (with_rows_again v))
