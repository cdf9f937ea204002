-- What the answer of a sender's turn tells: of the sender, of what its step found, and of what
-- happened by whatever trails led to the machine.
use Rattle.std.specs.Prelude.{◌≡◌, ◌≢◌, ◌⊎◌, ℕ, ◌+◌, ◌*◌, ◌<◌, Bool, Option, Some, None, IsSome}
use Rattle.std.specs.Prelude.{◌≤◌, List, length, slice_get, slice_index}
use Rattle.bus_adoptcommit.specs.declared.verdicts.Verdict.{Verdict}
use Rattle.bus_register.specs.Protocol.{Protocol}
use Rattle.bus_register.specs.Words.{register}
use Rattle.bus_register.specs.declared.registers.Op.{Op}
use Rattle.bus_register.specs.declared.registers.SenderNo.{SenderNo}
use Rattle.bus_batch.specs.declared.batches.Phase.TheVariants as batch
use Rattle.bus_core.specs.Causes.{IsCaused}
use Rattle.bus_core.specs.Reusing.Passing.{AreBehind}
use Rattle.bus_core.specs.Senders.{Sender}
use Rattle.bus_core.specs.Table.{line_now, lost_of}
use Rattle.bus_core.specs.Telling.{FeedTells, RestTells}
use Rattle.bus_presence.specs.declared.pins.Pin.{Pin}
use Rattle.bus_presence.specs.declared.pins.Pin.TheVariants.{Unpinning}
use Rattle.bus_tenure.specs.Core.{Core, Election, Layout, frame_len}
use Rattle.bus_tenure.specs.Elections.{Elector}
use Rattle.bus_tenure.specs.declared.pages.Page.{Page}
use Rattle.bus_tenure.specs.declared.phases.Phase.TheVariants.{Holding}
use Rattle.bus_tenure.specs.declared.turns.Turn.{Turn as Answered}
use Rattle.bus_tenure.specs.declared.turns.Turn.TheVariants as turn
use Rattle.bus_world.specs.Headline.{Action, Elected, Took, puts}
use Rattle.bus_world.specs.Log.{KeepsFloor}
use Rattle.bus_world.specs.Telling.{HasDelivered, HasLeft}
use Rattle.bus_world.specs.World.{Event, Put, Ask, Turn, Recv, Stop, Gone}
use Rattle.bus_world.specs.declared.events.Answer.{Answer}
use Rattle.bus_world.specs.declared.events.Answer.TheVariants as answer
use Rattle.bus_machine.specs.Finding.{places_found}
use Rattle.bus_machine.specs.Machine.{Machine, Trails, Reached, base_of, trails_grown, going}
use Rattle.bus_machine.specs.Machine.{stage_of}
use Rattle.bus_machine.specs.Promise.{pin_of}
use Rattle.bus_machine.specs.Remembering.{HasEnded, HasLeftIt, NoneIsLeft}

-- ---- a turn tells of the sender that took it, and of what its step found in these words
-- without a step the sender has nothing to do, for the reason that it answers
abbrev pub StepTells : {E : Type 0} → Election E → List ℕ → Sender E → Option Op → ℕ → Answered
    → Type 0
StepTells X words v None word t = RestTells v t
StepTells X words v (Some o) word t = FeedTells X v (slice_index words (register o)) word t

-- of the sender that goes on
abbrev pub SenderSays : {E : Type 0} → Election E → List ℕ → Option (Sender E) → ℕ → Answer → Type 0
SenderSays X words None word a = Unit {0}
SenderSays X words (Some v) word (answer.Number n) = Unit {0}
SenderSays X words (Some v) word answer.Closing = Unit {0}
SenderSays X words (Some v) word answer.Leaving = Unit {0}
SenderSays X words (Some v) word (answer.Turn t) =
    StepTells X words v ((line_now X v).op word) word t
SenderSays X words (Some v) word (answer.Recv r) = Unit {0}
SenderSays X words (Some v) word answer.Stopped = Unit {0}
SenderSays X words (Some v) word answer.Gone = Unit {0}

-- So Behind is answered only by a holder that loaded a presence with this step and found in it the
-- tenure whose row is to be cleared; Own only by who stood in that tenure, whose election had
-- chosen it; Delivered, Left, Full and, of a turn that took a step, Closed only by who gives the
-- page back, when the row of the next tenure is ready. Going is answered only where none of these
-- is due, and never without a step.
abbrev pub Says : {E : Type 0} → Election E → Machine E → Event → Answer → Type 0
Says X m (Put s bytes) a = Unit {0}
Says X m (Ask s mark) a = Unit {0}
Says X m (Turn s word) a = SenderSays X m.words (going m s) word a
Says X m (Recv r) a = Unit {0}
Says X m (Stop s) a = Unit {0}
Says X m (Gone r) a = Unit {0}

-- ---- why a sender takes its step
abbrev pub SenderCauses : {S : Type 0} → Election (Elector S) → Protocol S Bool Verdict
    → Option (Sender (Elector S)) → Type 0
SenderCauses X P None = Unit {0}
SenderCauses X P (Some v) = IsCaused X P v

-- the sender whose turn it is, and which goes on, has a cause for its step, whatever that is for
abbrev pub Causes : {S : Type 0} → Election (Elector S) → Protocol S Bool Verdict
    → Machine (Elector S) → Event → Type 0
Causes X P m (Put s bytes) = Unit {0}
Causes X P m (Ask s mark) = Unit {0}
Causes X P m (Turn s word) = SenderCauses X P (going m s)
Causes X P m (Recv r) = Unit {0}
Causes X P m (Stop s) = Unit {0}
Causes X P m (Gone r) = Unit {0}

-- ---- by whatever trails led to the machine
-- ---- an answer of sender s
-- The order of what was published has ended. Or it goes on, and the sender, whose batch was closed
-- before, has left in it.
abbrev pub ClosedTells : {E : Type 0} → Machine E → List ℕ → ℕ → Sender E → Type 0
ClosedTells m log s v = HasEnded m log ⊎ ((v.core.queue.phase ≡ batch.Closed) × HasLeftIt m log s)

-- the least of so many words and of these places: it is no further than each of them, and no number
-- that is so is further
pub record IsLeast (floor words : ℕ) (places : List ℕ) : Type 0 where
  pub within : floor ≤ words
  pub behind : AreBehind floor places
  pub furthest : (n : ℕ) → n ≤ words → AreBehind n places → n ≤ floor

-- The frame of the sender, which holds a page, does not fit the log behind what was published,
-- counted from the floor of that page. Where no word of the log is used again that is the first
-- place. Else it has loaded all passed places in that tenure, and the floor is the least of what
-- they showed, and of what was published. What it found in them is in the order of receivers, each
-- in the place of its own, as is promised of each machine (`shown`).
pub record FindsFull {E : Type 0} (x : Layout) (log : List ℕ) (c : Core E) (actions : List Action) :
    Type 0 where
  pub tenure : ℕ
  pub page : Page
  pub stored : ℕ
  pub published : Bool
  pub holds : c.phase ≡ Holding tenure page stored published
  pub flat : x.passers ≡ 0 → KeepsFloor page
  pub lacks : x.capacity + page.floor < length log + frame_len c
  pub loaded : 0 < x.passers → length (places_found actions) ≡ x.passers
  pub least : 0 < x.passers → IsLeast page.floor (length log) (places_found actions)

-- A tenure is lost to the owner with which a step of this sender saw its election end, and which is
-- another sender. A tenure is the sender's own where it is elected in it and took its page.
-- Messages are delivered where the last frame of the order is that of this sender and tenure and
-- holds them, with these numbers. A sender has left where that frame is its leave mark. The log is
-- full where the sender's frame does not fit, by all passed places that it has just loaded. With a
-- step and without one, a sender is closed where the order has ended, and tenures are spent where
-- none is left to it; without one it is closed also where it has left. A presence stands in the way
-- only where rows are used again. The log is all that was published before the turn.
abbrev pub TurnTells : {E : Type 0} → Machine E → List ℕ → ℕ → Sender E → List Action → Answered
    → Type 0
TurnTells m log s v actions turn.Idle = Unit {0}
TurnTells m log s v actions turn.Waiting = Unit {0}
TurnTells m log s v actions turn.Going = Unit {0}
TurnTells m log s v actions (turn.Lost t o) = Elected actions t o.0 × (o.0 ≢ s)
TurnTells m log s v actions (turn.Own t) =
    Elected actions t s × ((place : ℕ) × Took actions t place)
TurnTells m log s v actions (turn.Delivered t first last) =
    HasDelivered m.layout.senders log s t first last
TurnTells m log s v actions (turn.Left t) = HasLeft m.layout.senders log s t
TurnTells m log s v actions turn.Full = FindsFull m.layout log v.core actions
TurnTells m log s v actions turn.Closed = ClosedTells m log s v
TurnTells m log s v actions turn.Spent = NoneIsLeft m s actions
TurnTells m log s v actions (turn.Behind t p) = IsSome m.reuse

-- of the sender that goes on
abbrev pub SenderTells : {E : Type 0} → Machine E → List ℕ → ℕ → Option (Sender E) → List Action
    → Answer → Type 0
SenderTells m log s None actions a = Unit {0}
SenderTells m log s (Some v) actions (answer.Number n) = Unit {0}
SenderTells m log s (Some v) actions answer.Closing = Unit {0}
SenderTells m log s (Some v) actions answer.Leaving = Unit {0}
SenderTells m log s (Some v) actions (answer.Turn t) = TurnTells m log s v actions t
SenderTells m log s (Some v) actions (answer.Recv r) = Unit {0}
SenderTells m log s (Some v) actions answer.Stopped = Unit {0}
SenderTells m log s (Some v) actions answer.Gone = Unit {0}

-- a message that was accepted has the number of its sender's base and of those that it had put
-- before it, by the actions with this put
abbrev pub PutTells : ℕ → List Action → Answer → Type 0
PutTells first actions (answer.Number n) = n + 1 ≡ first + length (puts actions)
PutTells first actions answer.Closing = Unit {0}
PutTells first actions answer.Leaving = Unit {0}
PutTells first actions (answer.Turn t) = Unit {0}
PutTells first actions (answer.Recv r) = Unit {0}
PutTells first actions answer.Stopped = Unit {0}
PutTells first actions answer.Gone = Unit {0}

-- an event of the machine as it was, where this was published, with its answer, by the trails that
-- lead to the machine as it is then
abbrev pub EventTells : {E : Type 0} → Machine E → List ℕ → Event → Answer → Trails → Type 0
EventTells m log (Put s bytes) a T = PutTells (base_of m s) (T.actions s) a
EventTells m log (Ask s mark) a T = Unit {0}
EventTells m log (Turn s word) a T = SenderTells m log s (going m s) (T.actions s) a
EventTells m log (Recv r) a T = Unit {0}
EventTells m log (Stop s) a T = Unit {0}
EventTells m log (Gone r) a T = Unit {0}

-- whatever trails led to the old machine: with what this event and its answer add to them, what the
-- answer tells is so
abbrev pub Tells : {E : Type 0} → Election E → Machine E → Event → Answer → Type 0
Tells X old e a =
    (T : Trails) → Reached X old T → EventTells old T.log e a (trails_grown X old e a T)

-- ---- what a sender remembers that has lost a tenure
-- sender s, whose pin has come so far, parts from a tenure, whose election it saw end with this
-- owner by a step of its own; and it is not this owner itself
pub record HasSeenLoss (pin : Pin) (s : ℕ) (o : SenderNo) (actions : List Action) : Type 0 where
  pub tenure : ℕ
  pub parts : pin ≡ Unpinning tenure
  pub elected : Elected actions tenure o.0
  pub other : o.0 ≢ s

-- so has each that remembers an owner
abbrev pub LossesAreSeen : {E : Type 0} → Machine E → (ℕ → List Action) → Type 0
LossesAreSeen {E} m actions =
    (s : ℕ) (v : Sender E) (o : SenderNo) → slice_get m.senders s ≡ Some v
    → lost_of v.reuse ≡ Some o → HasSeenLoss (pin_of v.reuse) s o (actions s)

-- ---- who takes a page
-- Sender s took the page of tenure t with this turn, in which it is elected by whatever trails led
-- to the machine; and the stage tells so.
pub record TakesStage {E : Type 0} (X : Election E) (old : Machine E) (e : Event) (a : Answer)
    (new : Machine E) (t : ℕ) : Type 0 where
  pub sender : ℕ
  pub word : ℕ
  pub event : e ≡ Turn sender word
  pub own : a ≡ answer.Turn (turn.Own t)
  pub stage : stage_of new ≡ 2 * t + 1
  pub elected : (T : Trails) → Reached X old T
      → Elected ((trails_grown X old e a T).actions sender) t sender

-- the stage leaves that of an open tenure only so
abbrev pub OpensOnly : {E : Type 0} → Election E → Machine E → Event → Answer → Machine E → Type 0
OpensOnly X old e a new =
    (t : ℕ) → stage_of old ≡ 2 * t → stage_of new ≢ 2 * t → TakesStage X old e a new t
