-- A replica: a state that operations of a receiver's trail led to.
use Rattle.std.specs.Prelude.{◌≡◌, ◌⊎◌, ℕ, ◌+◌, ◌<◌, ◌≤◌, Bool, true, false, List, []}
use Rattle.std.specs.Prelude.{◌∷◌, ◌++◌, length, flat_map}
use Rattle.bus_batch.specs.declared.messages.Item.{Item}
use Rattle.bus_batch.specs.Batches.{CanClose, Pending}
use Rattle.bus_batch.specs.declared.batches.Phase.TheVariants.{Open}
use Rattle.bus_batch.specs.Frames.{has_gone, items_in}
use Rattle.bus_deliverylog.specs.Orders.{order_held}
use Rattle.bus_deliverylog.specs.declared.orders.Order as declared
use Rattle.atomic_table.specs.Seated.{TableId}
use Rattle.bus_automaton.specs.declared.plans.Plan.{Plan}
use Rattle.bus_pageslot.specs.Buses.{BusId}
use Rattle.bus_pageslot.specs.Rule.{Sat, receiver_view_in, known_in}
use Rattle.bus_pageslot.specs.declared.rule.View.{View}
use Rattle.bus_pageslot.specs.declared.rule.View.TheVariants.{Maker, Sender, Tap, Meeting, Telling}
use Rattle.bus_pageslot.specs.declared.rule.View.TheVariants.{Spent}
use Rattle.bus_deliverylog.specs.declared.receiving.RecvTurn.{RecvTurn}
use Rattle.bus_pageslot.specs.Listening.{Hears}
use Rattle.bus_pageslot.specs.Steps.{Learns}
use Rattle.bus_receiver.specs.HearingRuns.{item_in}
use Rattle.bus_deliverylog.specs.declared.receiving.RecvTurn.TheVariants as turn
use Rattle.bus_batch.specs.declared.messages.Mark.TheVariants as mark
use Rattle.bus_tenure.specs.declared.turns.Turn.{Turn}
use Rattle.bus_world.specs.Headline.{HasMarked, puts, order_given}
use Rattle.bus_automaton.specs.Processes.{Process}
use Rattle.bus_pageslot.specs.Seats.{SenderSeat, first_number_of, actions_of, sender_trail_of}
use Rattle.bus_pageslot.specs.Seats.{table_of}
use Rattle.bus_pageslot.specs.Sendings.{Takes, TakesAll}
use Rattle.bus_pageslot.specs.Turns.{Tellings, Turned}

-- the items among what a receiver was answered, in their order
abbrev pub items_heard : {C : Type 0} → View C → List Item
items_heard v = flat_map item_in (receiver_view_in v).answers

-- whether it was answered that this worker has left
abbrev pub has_heard_leave : {C : Type 0} → View C → ℕ → Bool
has_heard_leave v worker = has_gone worker (order_given (receiver_view_in v).answers)

-- it was not answered of anybody that it has left
abbrev pub HasNobodyLeft : {C : Type 0} → View C → Type 0
HasNobodyLeft v = (worker : ℕ) → has_heard_leave v worker ≡ false

-- it was answered that each of so many workers has left
abbrev pub HaveAllLeft : {C : Type 0} → View C → ℕ → Type 0
HaveAllLeft v workers = (worker : ℕ) → worker < workers → has_heard_leave v worker ≡ true

-- it is a receiver's
abbrev pub has_view : {C : Type 0} → View C → Bool
has_view (Maker x made) = false
has_view (Sender c sender_trail notes) = false
has_view (Tap x e) = true
has_view (Meeting x e y f) = true
has_view (Telling c sender_trail notes x e) = true
has_view Spent = false

-- A state that its operations lead from one to another: Applies old from op answer new says that
-- the operation of these bytes, of the worker of this number, answers so and leaves that.
abbrev pub Operations : Type 0 → Type 0 → Type 1
Operations S A = S → ℕ → List ℕ → A → S → Type 0

-- the operations of these items, one after another, led from one state to another
pub data Folds {S A : Type 0} (Applies : Operations S A) (first : S) : List Item → S → Type 0 where
  Begins : Folds Applies first [] first
  Then : (items : List Item) (old : S) (item : Item) (answer : A) (new : S)
      → Folds Applies first items old → Applies old item.sender.0 item.message answer new
      → Folds Applies first (items ++ item ∷ []) new

-- these operations led to the state from a first one
pub record LeadTo {S A : Type 0} (IsFirst : S → Type 0) (Applies : Operations S A)
    (items : List Item) (state : S) : Type 0 where
  pub first : S
  pub begins : IsFirst first
  pub folds : Folds Applies first items state

-- the state of a replica is the fold of the operations over all that its receiver was given
pub record IsFold {C S A : Type 0} (IsFirst : S → Type 0) (Applies : Operations S A) (v : View C)
    (state : S) : Type 0 where
  pub first : S
  pub begins : IsFirst first
  pub folds : Folds Applies first (items_heard v) state
  pub heard : has_view v ≡ true
  pub within : (receiver_view_in v).place ≤ length (known_in v)

-- turns of its receiver led from one seat to another
pub data GoesOn {C : Type 0} (first : Sat C) : Sat C → Type 0 where
  Here : GoesOn first first
  On : (old : Sat C) (answer : RecvTurn) (new : Sat C) → GoesOn first old → Hears old answer new
      → GoesOn first new

-- the same of turns of which none was answered that nothing more is there, or that the order has
-- ended
abbrev pub is_out : RecvTurn → Bool
is_out turn.Going = false
is_out turn.Empty = true
is_out (turn.Head tenure owner) = false
is_out (turn.Item item) = false
is_out (turn.Leave sender) = false
is_out turn.End = true

pub data HearsMore {C : Type 0} (first : Sat C) : Sat C → Type 0 where
  Nothing : HearsMore first first
  Something : (old : Sat C) (answer : RecvTurn) (new : Sat C) → HearsMore first old
      → Hears old answer new → is_out answer ≡ false → HearsMore first new

-- Such turns, and one more that was answered that nothing more is there; or the end, and then it is
-- said to have ended.
abbrev pub last_heard : Bool → RecvTurn
last_heard true = turn.End
last_heard false = turn.Empty

pub record HearsOut {C : Type 0} (old : Sat C) (ended : Bool) (new : Sat C) : Type 0 where
  pub before : Sat C
  pub goes_on : HearsMore old before
  pub last : Hears before (last_heard ended) new

-- The last operation that a replica was given has this number of this worker; on the state that all
-- before it lead to it answered so, and left the state as it is.
pub record StandsLast {C S A : Type 0} (IsFirst : S → Type 0) (Applies : Operations S A)
    (v : View C) (state : S) (worker number : ℕ) (answer : A) : Type 0 where
  pub first : S
  pub begins : IsFirst first
  pub before : List Item
  pub item : Item
  pub items_are : items_heard v ≡ before ++ item ∷ []
  pub worker_is : item.sender.0 ≡ worker
  pub number_is : item.number ≡ number
  pub at : S
  pub folds : Folds Applies first before at
  pub applied : Applies at item.sender.0 item.message answer state

-- It has loaded the length of the log, and has read that far.
pub record HasCaughtUp {C : Type 0} (old new : Sat C) : Type 0 where
  pub got : ℕ
  pub loaded : Sat C
  pub learns : Learns old got loaded
  pub goes_on : GoesOn loaded new
  pub reached : got ≤ (receiver_view_in new.0).place

-- By its own turns it was answered that all workers have left, and this is the state of all that it
-- was given by then.
pub record HasHeardAll {C S A : Type 0} (IsFirst : S → Type 0) (Applies : Operations S A)
    (workers : ℕ) (old : Sat C) (state : S) : Type 0 where
  pub last : Sat C
  pub goes_on : GoesOn old last
  pub fold : IsFold IsFirst Applies last.0 state
  pub left : HaveAllLeft last.0 workers

-- A bus of replicas: its table, what it was made by, and the operations that were replayed before
-- its first one, in their order. Where it goes on from nothing there are none.
pub record Sitting : Type 0 where
  pub table : TableId
  pub plan : Plan
  pub replayed : List Item

-- the operations of an order that a program holds
abbrev pub replayed_by : declared.Order → List Item
replayed_by order = items_in (order_held order).entries

-- this bus, behind these operations
abbrev pub sitting_of : BusId → List Item → Sitting
sitting_of bus replayed = record { table = bus.table; plan = bus.plan; replayed = replayed }

-- a receiver of a bus, and its state
pub record Hearing (C S : Type 0) : Type 0 where
  pub bus : Sitting
  pub me : Sat C
  pub state : S

-- a worker of a bus: its sender, its receiver, and its state
pub record Replicated (C S : Type 0) : Type 0 where
  pub sender : SenderSeat C
  pub bus : Sitting
  pub me : Sat C
  pub state : S

-- a sender took a leave mark into its batch, with no step
pub record TakesLeave {C : Type 0} (P : Process C) (old new : SenderSeat C) : Type 0 where
  pub could : CanClose (P.queue old.core)
  pub action : actions_of P new ≡ actions_of P old ++ HasMarked mark.Leave ∷ []
  pub core : new.core ≡ P.with_mark old.core mark.Leave
  pub seat : new.seat ≡ old.seat

-- What a replica did with its sender led from one sender to another: turns; messages that it took;
-- where it leaves, leave marks; and what changes neither the sender nor what it did nor its table,
-- as looks whether there is room.
pub data WorksOn {C : Type 0} (P : Process C) (T : Tellings C) (leaves : Bool)
    (first : SenderSeat C) : SenderSeat C → Type 0 where
  Rests : WorksOn P T leaves first first
  Turns : (old : SenderSeat C) (word : ℕ) (answer : Turn) (new : SenderSeat C)
      → WorksOn P T leaves first old → Turned P T old word answer new
      → WorksOn P T leaves first new
  Puts : (old : SenderSeat C) (bytes : List ℕ) (new : SenderSeat C)
      → WorksOn P T leaves first old → Takes P old bytes new → WorksOn P T leaves first new
  Leaves : (old new : SenderSeat C) → leaves ≡ true → WorksOn P T leaves first old
      → TakesLeave P old new → WorksOn P T leaves first new
  Looks : (old new : SenderSeat C) → WorksOn P T leaves first old → new.core ≡ old.core
      → sender_trail_of P new ≡ sender_trail_of P old → table_of new ≡ table_of old
      → WorksOn P T leaves first new

-- It has put these messages, all of them into one batch, behind all that it had put before, and the
-- last of them by this number; it is the same worker's sender. What else it did stands before and
-- behind that.
pub record PutsAll {C : Type 0} (P : Process C) (T : Tellings C) (old new : SenderSeat C)
    (number : ℕ) (messages : List (List ℕ)) : Type 0 where
  pub puts_are : puts (actions_of P new) ≡ puts (actions_of P old) ++ messages
  pub first_is : first_number_of P new ≡ first_number_of P old
  pub number_is : number + 1
      ≡ first_number_of P old + length (puts (actions_of P old)) + length messages
  pub me_is : P.me new.core ≡ P.me old.core
  pub at : SenderSeat C
  pub after : SenderSeat C
  pub before : WorksOn P T false old at
  pub takes : TakesAll P at messages after
  pub behind : WorksOn P T false after new

-- one message of these bytes
abbrev pub PutsMore : {C : Type 0} → Process C → Tellings C → SenderSeat C → SenderSeat C → ℕ
    → List ℕ → Type 0
PutsMore P T old new number bytes = PutsAll P T old new number (bytes ∷ [])

-- or its puts are the same as before, and so is the number of its first message
pub record PutsStay {C : Type 0} (P : Process C) (T : Tellings C) (old new : SenderSeat C) :
    Type 0 where
  pub puts_are : puts (actions_of P new) ≡ puts (actions_of P old)
  pub first_is : first_number_of P new ≡ first_number_of P old
  pub me_is : P.me new.core ≡ P.me old.core
  pub works : WorksOn P T false old new

-- the same of who leaves, and may have taken leave marks
pub record PutsStayLeaving {C : Type 0} (P : Process C) (T : Tellings C) (old new : SenderSeat C) :
    Type 0 where
  pub puts_are : puts (actions_of P new) ≡ puts (actions_of P old)
  pub first_is : first_number_of P new ≡ first_number_of P old
  pub me_is : P.me new.core ≡ P.me old.core
  pub works : WorksOn P T true old new

-- it has put these messages and has done nothing else
pub record PutsNow {C : Type 0} (P : Process C) (old new : SenderSeat C) (number : ℕ)
    (messages : List (List ℕ)) : Type 0 where
  pub puts_are : puts (actions_of P new) ≡ puts (actions_of P old) ++ messages
  pub first_is : first_number_of P new ≡ first_number_of P old
  pub number_is : number + 1
      ≡ first_number_of P old + length (puts (actions_of P old)) + length messages
  pub me_is : P.me new.core ≡ P.me old.core
  pub takes : TakesAll P old messages new

-- a batch takes messages, at most so many, and so many wait in it
abbrev pub IsOpenWith : Pending → ℕ → ℕ → Type 0
IsOpenWith b limit many =
    (b.phase ≡ Open) × (b.busy ≡ false) × (length b.messages ≡ many) × (b.limit ≡ limit)

-- or it has put all of these messages, or nothing
abbrev pub PutsAllOrNone : {C : Type 0} → Process C → Tellings C → SenderSeat C → SenderSeat C
    → List (List ℕ) → Type 0
PutsAllOrNone P T old new messages =
    PutsStay P T old new ⊎ ((number : ℕ) × PutsAll P T old new number messages)

abbrev pub PutsAtMostOnce : {C : Type 0} → Process C → Tellings C → SenderSeat C → SenderSeat C
    → List ℕ → Type 0
PutsAtMostOnce P T old new bytes = PutsAllOrNone P T old new (bytes ∷ [])
