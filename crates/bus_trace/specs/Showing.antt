-- What the columns of an event show: what the event adds to the trails of what happened.
use Rattle.std.specs.Prelude.{◌≡◌, ◌≢◌, ◌⊎◌, ◌==◌, ℕ, Bool, Option, Some, None, List, [], ◌∷◌, ◌++◌}
use Rattle.std.specs.Prelude.{codes, decimal, slice_get, slice_index, if◌then◌else◌}
use Rattle.bus_register.specs.Names.{kind_name}
use Rattle.bus_register.specs.Words.{register}
use Rattle.bus_register.specs.declared.kinds.Kind.{Kind}
use Rattle.bus_register.specs.declared.kinds.Kind.TheVariants.{StorePassed}
use Rattle.bus_register.specs.declared.limits.TheConstants.{PASSED_ALL}
use Rattle.bus_register.specs.declared.registers.Op.{Op}
use Rattle.bus_batch.specs.declared.messages.Mark.TheVariants as mark
use Rattle.bus_core.specs.Seen.{tenure_begun}
use Rattle.bus_core.specs.Senders.{Sender}
use Rattle.bus_core.specs.Table.{line_now}
use Rattle.bus_deliverylog.specs.Receiving.{Receiving, due_kind, due_op}
use Rattle.bus_deliverylog.specs.declared.receiving.RecvTurn.{RecvTurn}
use Rattle.bus_deliverylog.specs.Text.{recv_text}
use Rattle.bus_machine.specs.Machine.{Machine, Trails, no_machine_trails, trails_grown, going}
use Rattle.bus_machine.specs.Machine.{passed_by}
use Rattle.bus_presence.specs.Reclamation.{Entry}
use Rattle.bus_tenure.specs.Core.{Election}
use Rattle.bus_world.specs.Headline.{Action, HasPut, HasMarked, Stepped}
use Rattle.bus_world.specs.World.{Event, Put, Ask, Turn, Recv, Stop, Gone}
use Rattle.bus_world.specs.declared.events.Answer.{Answer}
use Rattle.bus_world.specs.declared.events.Answer.TheVariants as answer
use Rattle.bus_replay.specs.Text.{answer_text, behind}
use Rattle.bus_trace.specs.Rows.{column, tenure_text, no_step, step_text, action_text, actions_text}
use Rattle.bus_trace.specs.Rows.{columns, who_text, fork_columns, fork_row}
use Rattle.bus_trace.specs.Words.{TraceSizes, word_name}

-- what an event with this answer adds
abbrev pub added : {E : Type 0} → Election E → Machine E → Event → Answer → Trails
added X m e a = trails_grown X m e a no_machine_trails

-- the columns of a step of a pin or of a reclamation, of this tenure and of this kind
abbrev pub entry_text : TraceSizes → Option ℕ → Option Kind → Entry → List ℕ
entry_text p tenure None entry = no_step (codes "-")
entry_text p tenure (Some k) entry = step_text p tenure k entry.got (Some entry.op)

-- the answer that an action has
abbrev pub answer_of : Action → Answer
answer_of (HasPut number bytes) = answer.Number number
answer_of (HasMarked mark.End) = answer.Closing
answer_of (HasMarked mark.Leave) = answer.Leaving
answer_of (Stepped tenure k found chose turn) = answer.Turn turn

-- an event of sender s: where it adds an action, the answer that it shows is that of the action
abbrev pub ShowsAnswer : {E : Type 0} → Election E → Machine E → ℕ → Event → Answer → Type 0
ShowsAnswer X m s e a =
    (action : Action) → (added X m e a).actions s ≡ action ∷ []
    → answer_text a ≡ answer_text (answer_of action)

-- A step was taken on this word, with these texts for its tenure and its kind. The columns have
-- what stood in the word before, and what stands there now; no other word has changed.
pub record ShowsWord {E : Type 0} (p : TraceSizes) (old new : Machine E) (tenure kind : List ℕ)
    (at : ℕ) (text : List ℕ) : Type 0 where
  pub shown : text
      ≡ column tenure ++ column kind ++ column (word_name p at)
      ++ column (decimal (slice_index old.words at)) ++ column (decimal (slice_index new.words at))
  pub others : (place : ℕ) → place ≢ at → slice_index new.words place ≡ slice_index old.words place

-- it is of this tenure and of this kind
abbrev pub ShowsStep : {E : Type 0} → TraceSizes → (old new : Machine E) → Option ℕ → Kind → ℕ
    → List ℕ → Type 0
ShowsStep p old new tenure k at text =
    ShowsWord p old new (tenure_text tenure) (kind_name k) at text

-- no step was taken: the columns have this in the place of a kind, and no word has changed
pub record ShowsNone {E : Type 0} (old new : Machine E) (name text : List ℕ) : Type 0 where
  pub shown : text ≡ no_step name
  pub words : new.words ≡ old.words

-- to the trails of sender s just one is added: an action, a step of its pin, or one of its
-- reclamation
abbrev pub AddsOne : Trails → ℕ → Type 0
AddsOne T s =
    ((action : Action) × (T.actions s ≡ action ∷ []) × (T.pins s ≡ []) × (T.reclaims s ≡ []))
    ⊎ (((entry : Entry) × (T.actions s ≡ []) × (T.pins s ≡ entry ∷ []) × (T.reclaims s ≡ []))
    ⊎ ((entry : Entry) × (T.actions s ≡ []) × (T.pins s ≡ []) × (T.reclaims s ≡ entry ∷ [])))

-- a put, a close or a leave of sender s: it shows the action that it adds, and its answer, and no
-- word has changed
pub record ShowsAction {E : Type 0} (p : TraceSizes) (X : Election E) (m : Machine E) (s : ℕ)
    (e : Event) (a : Answer) (new : Machine E) : Type 0 where
  pub action : columns p X m e a ≡ actions_text p None ((added X m e a).actions s)
  pub answers : ShowsAnswer X m s e a
  pub words : new.words ≡ m.words

-- a turn of sender s, which holds this: it shows
pub record ShowsTurn {E : Type 0} (p : TraceSizes) (X : Election E) (m : Machine E) (s word : ℕ)
    (a : Answer) (new : Machine E) (v : Sender E) : Type 0 where
  -- the action that it adds
  pub action : (action : Action) → (added X m (Turn s word) a).actions s ≡ action ∷ []
      → columns p X m (Turn s word) a ≡ action_text p ((line_now X v).op word) action
  -- or the step of its pin
  pub pin : (entry : Entry) → (added X m (Turn s word) a).pins s ≡ entry ∷ []
      → columns p X m (Turn s word) a ≡ entry_text p (line_now X v).tenure (line_now X v).kind entry
  -- or of its reclamation
  pub reclaim : (entry : Entry) → (added X m (Turn s word) a).reclaims s ≡ entry ∷ []
      → columns p X m (Turn s word) a ≡ entry_text p (line_now X v).tenure (line_now X v).kind entry
  -- its answer, that of the action
  pub answers : ShowsAnswer X m s (Turn s word) a
  -- with a step the tenure that it has begun, or whose page it has
  pub tenure : (k : Kind) → (line_now X v).kind ≡ Some k → (line_now X v).tenure ≡ tenure_begun v
  -- with a step it adds one of these, and without one it shows nothing
  pub adds : (k : Kind) → (line_now X v).kind ≡ Some k → AddsOne (added X m (Turn s word) a) s
  pub idle : (line_now X v).kind ≡ None → columns p X m (Turn s word) a ≡ no_step (codes "-")
  -- what the step has found in its word, and left there; without one no word has changed
  pub step : (k : Kind) (o : Op) → (line_now X v).kind ≡ Some k → (line_now X v).op word ≡ Some o
      → ShowsStep p m new (line_now X v).tenure k (register o) (columns p X m (Turn s word) a)
  pub none : (line_now X v).op word ≡ None
      → ShowsNone m new (codes "-") (columns p X m (Turn s word) a)

-- a turn of receiver r: it shows
pub record ShowsHeard {E : Type 0} (p : TraceSizes) (X : Election E) (m : Machine E) (r : ℕ)
    (a : Answer) (new : Machine E) : Type 0 where
  -- the one answer that it adds to the trail of the receiver
  pub heard : RecvTurn
  pub added_is : (added X m (Recv r) a).heard r ≡ heard ∷ []
  pub answers : answer_text a ≡ recv_text heard
  -- and the step that is due of the receiver, a load or the store of its place
  pub step : (v : Receiving) (k : Kind) (o : Op) → slice_get m.receivers r ≡ Some v
      → due_kind v ≡ Some k → due_op v ≡ Some o
      → ShowsStep p m new None k (register o) (columns p X m (Recv r) a)
  pub none : (v : Receiving) → slice_get m.receivers r ≡ Some v → due_op v ≡ None
      → ShowsNone m new (codes "-") (columns p X m (Recv r) a)

-- receiver r leaves for good: it shows
pub record ShowsGone {E : Type 0} (p : TraceSizes) (X : Election E) (m : Machine E) (r : ℕ)
    (a : Answer) (new : Machine E) : Type 0 where
  pub who : who_text (Gone r) ≡ column (codes "receiver" ++ behind r)
  -- the store that it makes in its passed place, in which 2^64 - 1 stands from then on
  pub store : (v : Receiving) (at : ℕ) → slice_get m.receivers r ≡ Some v → v.passed_at ≡ Some at
      → ShowsStep p m new None StorePassed at (columns p X m (Gone r) a)
      × (slice_index new.words at ≡ PASSED_ALL)
  -- without such a place it takes no step
  pub none : (v : Receiving) → slice_get m.receivers r ≡ Some v → v.passed_at ≡ None
      → ShowsNone m new (codes "gone") (columns p X m (Gone r) a)
  -- and nothing of a trail
  pub adds_nothing : added X m (Gone r) a ≡ no_machine_trails

-- who is asked: whose trail the event adds an action or an answer to
pub record ShowsWho {E : Type 0} (X : Election E) (m : Machine E) (e : Event) (a : Answer) : Type 0
  where
    pub sender : (s : ℕ) → (added X m e a).actions s ≢ []
        → who_text e ≡ column (codes "sender" ++ behind s)
    pub receiver : (r : ℕ) → (added X m e a).heard r ≢ []
        → who_text e ≡ column (codes "receiver" ++ behind r)

abbrev pub ShowsEvent : {E : Type 0} → TraceSizes → Election E → Machine E → Event → Answer
    → Machine E → Type 0
ShowsEvent p X m (Put s bytes) a new = ShowsAction p X m s (Put s bytes) a new
ShowsEvent p X m (Ask s mark) a new = ShowsAction p X m s (Ask s mark) a new
ShowsEvent {E} p X m (Turn s word) a new =
    (v : Sender E) → going m s ≡ Some v → ShowsTurn p X m s word a new v
ShowsEvent p X m (Recv r) a new = ShowsHeard p X m r a new
ShowsEvent p X m (Stop s) a new =
    (added X m (Stop s) a ≡ no_machine_trails)
    × ShowsNone m new (codes "stop") (columns p X m (Stop s) a)
ShowsEvent p X m (Gone r) a new = ShowsGone p X m r a new

-- a line has who is asked, the columns of the event and its answer (row_text); the event has led to
-- the new machine
pub record Shows {E : Type 0} (p : TraceSizes) (X : Election E) (m : Machine E) (e : Event)
    (a : Answer) (new : Machine E) : Type 0 where
  pub who : ShowsWho X m e a
  pub event : ShowsEvent p X m e a new

-- Receiver i has forked to number j, or found no seat there. The line shows
pub record ShowsFork {E : Type 0} (p : TraceSizes) (m : Machine E) (i j : ℕ) (did : Bool)
    (new : Machine E) : Type 0 where
  -- behind its number who is asked, what its step is, and whether it was done
  pub row : (line : ℕ) → fork_row p line m i j did
      ≡ column (decimal line) ++ column (codes "receiver" ++ behind i) ++ fork_columns p m i j
      ++ (if did then codes "forked" else codes "no seat")
  -- the compare_exchange in the passed place of that number
  pub step : (at : ℕ) → passed_by m.layout m.reuse j ≡ Some at
      → ShowsWord p m new (codes "-") (codes "Fork") at (fork_columns p m i j)
  -- which is done exactly where 2^64 - 1 stood there, and then leaves what the maker has passed,
  -- and else what stood there
  pub done : (v : Receiving) (at : ℕ) → slice_get m.receivers i ≡ Some v
      → passed_by m.layout m.reuse j ≡ Some at
      → (did ≡ (slice_index m.words at == PASSED_ALL))
      × (slice_index new.words at ≡ (if did then v.passed else slice_index m.words at))
  -- without such a place it takes no step
  pub none : passed_by m.layout m.reuse j ≡ None
      → ShowsNone m new (codes "fork") (fork_columns p m i j)
