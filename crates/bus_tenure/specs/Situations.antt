-- The table of a sender's turns. A sender is in one situation, the first that applies, and each
-- situation has one line, which says all of a turn in it: the step, what the sender holds and
-- answers after it, and what becomes of the page and of the frame.
use Rattle.std.specs.Prelude.{ℕ, ◌+◌, ◌-◌, ◌*◌, ◌/◌, ◌%◌, Bool, true, false, Option, Some, None}
use Rattle.std.specs.Prelude.{[], nat_lt, nat_le, ◌==◌, ◌&&◌, if◌then◌else◌, is_some, slice_index}
use Rattle.bus_register.specs.declared.limits.TheConstants.{PLACES}
use Rattle.bus_register.specs.declared.kinds.Kind.{Kind}
use Rattle.bus_register.specs.declared.kinds.Kind.TheVariants as kind
use Rattle.bus_register.specs.declared.registers.Op.{Op}
use Rattle.bus_register.specs.declared.registers.Op.TheVariants.{Load, Store}
use Rattle.bus_batch.specs.Batches.{Pending, next_of, frame_of, phase_sent}
use Rattle.bus_batch.specs.declared.batches.Phase.{Phase as BatchPhase}
use Rattle.bus_batch.specs.declared.batches.Phase.TheVariants.{Open, Marking, Closed}
use Rattle.bus_batch.specs.declared.messages.Mark.TheVariants as mark
use Rattle.bus_batch.specs.Frames.{Frame, frame_words}
use Rattle.bus_tenure.specs.Core.{Core, Election, length_at, stage_at, row_at, log_at, is_marking}
use Rattle.bus_tenure.specs.Core.{is_closed, is_empty, cell_of, frame_len, has_room, page_after}
use Rattle.bus_tenure.specs.declared.pages.Page.{Page}
use Rattle.bus_tenure.specs.declared.phases.Reason.{Reason}
use Rattle.bus_tenure.specs.declared.phases.Reason.TheVariants.{Sent, FoundEnd, NoRoom}
use Rattle.bus_tenure.specs.declared.phases.Phase.{Phase}
use Rattle.bus_tenure.specs.declared.phases.Phase.TheVariants.{Resting, Electing, Taken, Holding}
use Rattle.bus_tenure.specs.declared.phases.Phase.TheVariants.{Giving}
use Rattle.bus_tenure.specs.declared.turns.Turn.{Turn}
use Rattle.bus_tenure.specs.declared.turns.Turn.TheVariants as turn

-- ---- the situations
pub data Situation (E : Type 0) : Type 0 where
  -- it is closed
  IsClosed : Situation E
  -- nothing is pending, and no mark waits
  IsIdle : Situation E
  -- no tenure is begun, and none is left to enter
  IsSpent : Situation E
  -- no tenure is begun
  LooksAtStage : Situation E
  -- its election runs
  Elects : (tenure : ℕ) → (election : E) → Situation E
  -- it is elected
  TakesPage : (tenure : ℕ) → Situation E
  -- the page is taken and not laid yet
  AwaitsPage : (tenure : ℕ) → Situation E
  -- the next word of its frame is to be stored
  StoresWord : (tenure : ℕ) → Page → (stored : ℕ) → Situation E
  -- all words of its frame are stored
  StoresLength : (tenure : ℕ) → Page → (stored : ℕ) → Situation E
  -- it gives the page back
  GivesBack : (tenure : ℕ) → Page → Reason → Situation E
  -- it has handed the page on
  HasHanded : (tenure : ℕ) → Reason → Situation E

abbrev pub resting : {E : Type 0} → Core E → Situation E
resting c =
    if is_closed c.queue.phase then IsClosed else
    (if is_empty c.queue.messages && (if is_marking c.queue.phase then false else true) then IsIdle
    else
    (if nat_le c.layout.rows c.least then IsSpent else LooksAtStage))

abbrev pub electing : {E : Type 0} → Election E → ℕ → E → Situation E
electing X t e = if is_some (X.owner e) then TakesPage t else Elects t e

abbrev pub holding : {E : Type 0} → Core E → ℕ → Page → ℕ → Bool → Situation E
holding c t page stored published =
    if published then GivesBack t page Sent else
    (if page.ended then GivesBack t page FoundEnd else
    (if has_room c page
    then (if nat_lt stored (frame_len c) then StoresWord t page stored
    else StoresLength t page stored) else GivesBack t page NoRoom))

abbrev pub situation_at : {E : Type 0} → Election E → Core E → Phase E → Situation E
situation_at X c Resting = resting c
situation_at X c (Electing t e) = electing X t e
situation_at X c (Taken t) = AwaitsPage t
situation_at X c (Holding t page stored published) = holding c t page stored published
situation_at X c (Giving t reason) = HasHanded t reason

abbrev pub situation_of : {E : Type 0} → Election E → Core E → Situation E
situation_of X c = situation_at X c c.phase

-- ---- a line of the table
-- what becomes of the page in a turn
pub data PageMove : Type 0 where
  -- it stays where it is
  Stays : PageMove
  -- it leaves home and is laid before the sender, which has taken it
  Comes : (tenure : ℕ) → PageMove
  -- it goes home, as the next owner is to have it, from a sender that leaves its tenure so
  Returns : (tenure : ℕ) → Reason → Page → PageMove

pub record Line (E : Type 0) : Type 0 where
  -- the tenure that is begun
  pub tenure : Option ℕ
  -- what the step is for: None where none is due
  pub kind : Option Kind
  -- the step, with this random word
  pub op : ℕ → Option Op
  -- the step asks for a random word
  pub wants_word : Bool
  -- what the sender holds after a step that found this number, with this random word
  pub fed : (got word : ℕ) → Core E
  -- its answer to that step
  pub answer : (got word : ℕ) → Turn
  -- the owner with which that step ended its election
  pub chosen : (got word : ℕ) → Option ℕ
  -- its answer where it has begun no tenure and takes no step
  pub rest : Option Turn
  -- what becomes of the page
  pub move : PageMove
  -- the page is taken with the step: the sender is the owner of its tenure
  pub takes : Bool
  -- the frame that joins the log with the step
  pub publishes : Option Frame

-- a line with nothing in it: no tenure is begun, no step is due, and the sender is this one, with
-- this answer
abbrev pub blank : {E : Type 0} → Core E → Turn → Line E
blank c answer = record {
  tenure = None;
  kind = None;
  op = λ word. None;
  wants_word = false;
  fed = λ got word. c;
  answer = λ got word. answer;
  chosen = λ got word. None;
  rest = None;
  move = Stays;
  takes = false;
  publishes = None;
}

-- a sender that has nothing to do
abbrev pub rests : {E : Type 0} → Core E → Turn → Line E
rests c answer = record (blank c answer) { rest = Some answer }

-- in this tenure this step is due, after which the sender is this one, with this answer, whatever
-- the step found
abbrev pub steps : {E : Type 0} → ℕ → Kind → Op → Core E → Turn → Line E
steps t kind op after answer =
    record (blank after answer) { tenure = Some t; kind = Some kind; op = λ word. Some op }

-- ---- what a step leaves that depends on what it found
abbrev pub core_begun : {E : Type 0} → Election E → Core E → ℕ → Core E
core_begun X c t = record c {
  queue = record c.queue { busy = true };
  phase = Electing t (X.started c.layout.senders c.me c.layout.rounds (row_at c.layout t));
}

-- the stage is that of a held tenure, or of one that it may not enter any more
abbrev pub waits : {E : Type 0} → Core E → ℕ → Bool
waits c got = if got % 2 == 0 then nat_lt (got / 2) c.least else true

-- the tenure that it may begin where the stage is this
abbrev pub tenure_begun : {E : Type 0} → Core E → ℕ → Option ℕ
tenure_begun c got =
    if waits c got then None else (if nat_le c.layout.rows (got / 2) then None else Some (got / 2))

abbrev pub core_after_stage : {E : Type 0} → Election E → Core E → ℕ → Core E
core_after_stage X c got =
    if waits c got then c else
    (if nat_le c.layout.rows (got / 2) then record c { least = got / 2 }
    else core_begun X c (got / 2))

abbrev pub answer_of_stage : {E : Type 0} → Core E → ℕ → Turn
answer_of_stage c got =
    if waits c got then turn.Waiting
    else (if nat_le c.layout.rows (got / 2) then turn.Spent else turn.Going)

-- it lost this tenure to an owner that is not itself
abbrev pub core_elected : {E : Type 0} → Core E → ℕ → E → Option ℕ → Core E
core_elected c t e None = record c { phase = Electing t e }
core_elected c t e (Some o) =
    if o == c.me then record c { phase = Electing t e } else record c {
      queue = record c.queue { busy = false };
      least = t + 1;
      phase = Resting;
    }

abbrev pub answer_of_election : {E : Type 0} → Core E → ℕ → Option ℕ → Turn
answer_of_election c t None = turn.Going
answer_of_election c t (Some o) = if o == c.me then turn.Going else turn.Lost t record { 0 = o }

-- ---- what the end of a tenure leaves
-- the queue back from a tenure: its contents kept, or sent, or kept for good
abbrev pub queue_after : Reason → Pending → Pending
queue_after Sent q = record q {
  first = next_of q;
  messages = [];
  phase = phase_sent q.phase;
  busy = false;
}
queue_after FoundEnd q = record q { phase = Closed; busy = false }
queue_after NoRoom q = record q { busy = false }

abbrev pub core_at_rest : {E : Type 0} → Core E → Reason → ℕ → Core E
core_at_rest c reason t = record c {
  queue = queue_after reason c.queue;
  least = t + 1;
  phase = Resting;
}

-- ---- what the last of all passed places leaves
abbrev pub lesser : ℕ → ℕ → ℕ
lesser a b = if nat_lt a b then a else b

-- the page that lies before a sender gets this floor, but none past its words, and a place of
-- those that there are
abbrev pub phase_floored : {E : Type 0} → ℕ → Phase E → Phase E
phase_floored least Resting = Resting
phase_floored least (Electing t e) = Electing t e
phase_floored least (Taken t) = Taken t
phase_floored least (Holding t page stored published) = Holding t (record page {
  floor = lesser (lesser least page.words) PLACES;
}) stored published
phase_floored least (Giving t reason) = Giving t reason

abbrev pub core_floored : {E : Type 0} → Core E → ℕ → Core E
core_floored c least = record c { phase = phase_floored least c.phase }

-- the answer once its frame stands in the log: the end mark, its leave mark, or its messages
abbrev pub answer_sent : Pending → ℕ → BatchPhase → Turn
answer_sent q t Open = turn.Delivered t q.first (next_of q - 1)
answer_sent q t (Marking mark.End) = turn.Closed
answer_sent q t (Marking mark.Leave) = turn.Left t
answer_sent q t Closed = turn.Delivered t q.first (next_of q - 1)

abbrev pub answer_of_return : Pending → ℕ → Reason → Turn
answer_of_return q t Sent = answer_sent q t q.phase
answer_of_return q t FoundEnd = turn.Closed
answer_of_return q t NoRoom = turn.Full

-- ---- THE TABLE: one line for each situation
abbrev pub line_of : {E : Type 0} → Election E → Core E → Situation E → Line E
line_of X c IsClosed = rests c turn.Closed
line_of X c IsIdle = rests c turn.Idle
line_of X c IsSpent = rests c turn.Spent
line_of X c LooksAtStage = record (blank c turn.Going) {
  kind = Some kind.LoadStage;
  op = λ word. Some (Load record { 0 = stage_at });
  fed = λ got word. core_after_stage X c got;
  answer = λ got word. answer_of_stage c got;
}
line_of X c (Elects t e) = record (blank c turn.Going) {
  tenure = Some t;
  kind = X.kind_of e;
  op = X.op e;
  wants_word = X.wants_word e;
  fed = λ got word. core_elected c t (X.fed e got word) (X.owner (X.fed e got word));
  answer = λ got word. answer_of_election c t (X.owner (X.fed e got word));
  chosen = λ got word. X.owner (X.fed e got word);
}
line_of X c (TakesPage t) =
    record (steps t kind.TakePage (Store record { 0 = stage_at } (2 * t + 1))
    (record c { phase = Taken t }) (turn.Own t)) { move = Comes t; takes = true }
line_of X c (AwaitsPage t) = record (blank c turn.Going) { tenure = Some t; move = Comes t }
line_of X c (StoresWord t page stored) =
    steps t kind.StoreLogWord
    (Store record { 0 = log_at c.layout + cell_of c.layout (page.words + stored) }
    (slice_index (frame_words (frame_of c.queue t)) stored))
    (record c { phase = Holding t page (stored + 1) false }) turn.Going
line_of X c (StoresLength t page stored) =
    record (steps t kind.StoreLength (Store record { 0 = length_at } (page.words + frame_len c))
    (record c { phase = Holding t page stored true }) turn.Going) {
      publishes = Some (frame_of c.queue t);
    }
line_of X c (GivesBack t page reason) =
    record (steps t kind.GivePageBack (Store record { 0 = stage_at } (2 * t + 2))
    (core_at_rest c reason t) (answer_of_return c.queue t reason)) {
      move = Returns t reason (page_after c t page reason);
    }
line_of X c (HasHanded t reason) = steps t kind.GivePageBack
    (Store record { 0 = stage_at } (2 * t + 2)) (core_at_rest c reason t)
    (answer_of_return c.queue t reason)

-- ---- a line, read by its parts
abbrev pub kind_at : {E : Type 0} → Election E → Core E → Situation E → Option Kind
kind_at X c z = (line_of X c z).kind

abbrev pub op_at : {E : Type 0} → Election E → Core E → Situation E → ℕ → Option Op
op_at X c z word = (line_of X c z).op word

abbrev pub wants_at : {E : Type 0} → Election E → Core E → Situation E → Bool
wants_at X c z = (line_of X c z).wants_word

abbrev pub fed_at : {E : Type 0} → Election E → Core E → Situation E → ℕ → ℕ → Core E
fed_at X c z got word = (line_of X c z).fed got word

abbrev pub answer_at : {E : Type 0} → Election E → Core E → Situation E → ℕ → ℕ → Turn
answer_at X c z got word = (line_of X c z).answer got word
