-- What calls are between two moments: by two pages of promises, of machines that play events, and
-- of tables that threads go by.
use Rattle.std.specs.Prelude.{◌≡◌, ℕ, ◌≤◌, Some, List, [], ◌∷◌, ◌++◌, flat_map, length, slice_get}
use Rattle.std.specs.Prelude.{slice_index}
use mathlib.Core.Option.{some}
use lib.ListN.{get_elem?}
use Rattle.bus_batch.specs.declared.messages.Item.{Item}
use Rattle.bus_batch.specs.Frames.{Order}
use Rattle.bus_deliverylog.specs.declared.receiving.RecvTurn.{RecvTurn}
use Rattle.bus_tenure.specs.Core.{Election, length_at}
use Rattle.bus_world.specs.Headline.{Action, HasPut, IsPrefix}
use Rattle.bus_machine.specs.Giving.{StillGiven}
use Rattle.bus_machine.specs.Machine.{Machine, Trails}
use Rattle.bus_machine.specs.Promise.{IsPromised}
use Rattle.bus_automaton.specs.Processes.{Process, Automaton}
use Rattle.bus_pageslot.specs.Lasting.{RuledTable, published}
use Rattle.bus_pageslot.specs.Turns.{Tellings}
use Rattle.bus_receiver.specs.HearingRuns.{item_in}
use Rattle.bus_replica.specs.Replicas.{Operations, Folds, Replicated, PutsMore, StandsLast}
use Rattle.bus_replica.specs.Replicas.{HasCaughtUp, IsFold, LeadTo}
use Rattle.bus_replica.specs.Linearized.{PageOf, SitsAt}
use Rattle.bus_replica.specs.Histories.{Did, Executed, Read, Call}

-- ---- pages of promises
-- the operations among what a receiver was answered, in their order
abbrev pub operations_in : List RecvTurn → List Item
operations_in trail = flat_map item_in trail

-- The last of these operations has this number of this worker; on the state that all before it
-- lead to it answered so, and left this state.
pub record EndsWith {S A : Type 0} (IsFirst : S → Type 0) (Applies : Operations S A)
    (items : List Item) (state : S) (worker number : ℕ) (answer : A) : Type 0 where
  pub first : S
  pub begins : IsFirst first
  pub before : List Item
  pub item : Item
  pub items_are : items ≡ before ++ item ∷ []
  pub worker_is : item.sender.0 ≡ worker
  pub number_is : item.number ≡ number
  pub at : S
  pub folds : Folds Applies first before at
  pub applied : Applies at item.sender.0 item.message answer state

-- what a sender did goes on from what it had done, and behind that it put these bytes, by this
-- number
pub record PutsSince (old new : List Action) (number : ℕ) (bytes : List ℕ) : Type 0 where
  pub goes_on : IsPrefix old new
  pub place : ℕ
  pub put : slice_get new place ≡ Some (HasPut number bytes)
  pub since : length old ≤ place

-- ---- machines that play events
-- a later machine has the same senders, and all words that were published at the earlier one begin
-- those that were published by then
pub record PublishesMore {E : Type 0} (old : Machine E) (T : Trails) (new : Machine E)
    (T' : Trails) : Type 0 where
  pub senders : new.layout.senders ≡ old.layout.senders
  pub log : IsPrefix T.log T'.log

-- a machine of which the promise holds, with its trails
pub record MachineMoment {E : Type 0} (X : Election E) : Type 0 where
  pub machine : Machine E
  pub trails : Trails
  pub page : IsPromised X machine trails

abbrev pub IsLaterMachine : {E : Type 0} → {X : Election E} → MachineMoment X → MachineMoment X
    → Type 0
IsLaterMachine s t = PublishesMore s.machine s.trails t.machine t.trails

-- Between two moments this worker put these bytes, by this number, behind all that it had done at
-- the first; and at the second one this receiver was given that operation last of all, which
-- answered so and left this state.
pub record HasExecutedOn {E S A : Type 0} {X : Election E} (IsFirst : S → Type 0)
    (Applies : Operations S A) (s t : MachineMoment X) (worker receiver number : ℕ) (bytes : List ℕ)
    (answer : A) (state : S) : Type 0 where
  pub puts : PutsSince (s.trails.actions worker) (t.trails.actions worker) number bytes
  pub ends : EndsWith IsFirst Applies (operations_in (t.trails.heard receiver)) state worker number
      answer

-- At the second moment this receiver has come as far as the length was at the first, and all that
-- it was given leads to this state. The order is what a call tells that it was given.
pub record HasReadOn {E S A : Type 0} {X : Election E} (IsFirst : S → Type 0)
    (Applies : Operations S A) (s t : MachineMoment X) (receiver : ℕ) (shown : S) : Type 0 where
  pub told : Order
  pub given : StillGiven t.machine t.trails receiver told
  pub far : slice_index s.machine.words length_at ≤ given.receiver.place
  pub leads : LeadTo IsFirst Applies (operations_in (t.trails.heard receiver)) shown

-- a call did so, by some receiver
abbrev pub IsDoneOnMachine : {E S A : Type 0} → {X : Election E} → (S → Type 0) → Operations S A
    → MachineMoment X → MachineMoment X → ℕ → Did S A → Type 0
IsDoneOnMachine {S = S} IsFirst Applies s t worker (Executed number bytes answer) =
    (receiver : ℕ) × (state : S)
    × HasExecutedOn IsFirst Applies s t worker receiver number bytes answer state
IsDoneOnMachine IsFirst Applies s t worker (Read shown) =
    (receiver : ℕ) × HasReadOn IsFirst Applies s t receiver shown

-- each of these calls, between two of these moments, which follow one another; and by this moment
-- all of them had returned
pub record AreDoneOnMachines {E S A : Type 0} {X : Election E} (IsFirst : S → Type 0)
    (Applies : Operations S A) (moments : ℕ → MachineMoment X) (last : ℕ)
    (calls : List (Call S A)) :
    Type 0 where
  pub later : (m n : ℕ) → m ≤ n → IsLaterMachine (moments m) (moments n)
  pub ordered : (i : ℕ) (c : Call S A) → slice_get calls i ≡ Some c → c.began ≤ c.returned
  pub done : (i : ℕ) (c : Call S A) → slice_get calls i ≡ Some c
      → IsDoneOnMachine IsFirst Applies (moments c.began) (moments c.returned) c.worker c.did
  pub returned : (i : ℕ) (c : Call S A) → slice_get calls i ≡ Some c → c.returned ≤ last

-- ---- tables that threads go by
-- a table on which the rule of the bus holds, with its page of promises
pub record TableMoment {C : Type 0} (P : Process C) (Bus : Automaton C) : Type 0 where
  pub here : RuledTable P Bus
  pub page : PageOf here

-- at a later one the words that were published at the earlier one begin all that were
abbrev pub IsLaterTable : {C : Type 0} → {P : Process C} → {Bus : Automaton C} → TableMoment P Bus
    → TableMoment P Bus → Type 0
IsLaterTable s t = IsPrefix (published s.here) (published t.here)

-- Between two moments `execute` led from the one value of a replica to the other, and seats show
-- both: at the first moment its sender, and at the second its sender and its receiver.
pub record HasExecutedBy {C S A : Type 0} {P : Process C} {Bus : Automaton C} (T : Tellings C)
    (IsFirst : S → Type 0) (Applies : Operations S A) (s t : TableMoment P Bus) (worker : ℕ)
    (number : ℕ) (bytes : List ℕ) (answer : A) : Type 0 where
  pub old : Replicated C S
  pub new : Replicated C S
  pub me : P.me old.sender.core ≡ worker
  pub sits : SitsAt P s.here.table old.sender
  pub sits_still : SitsAt P t.here.table new.sender
  pub seat : ℕ
  pub at : get_elem? t.here.table.views seat ≡ some new.me.0
  pub puts : PutsMore P T old.sender new.sender number bytes
  pub ends : StandsLast IsFirst Applies new.me.0 new.state (P.me old.sender.core) number answer

-- Or `catch_up` did, and a seat shows its receiver at the second moment; its load of the length was
-- at a table between the two, and the state is this one.
pub record HasReadBy {C S A : Type 0} {P : Process C} {Bus : Automaton C} (IsFirst : S → Type 0)
    (Applies : Operations S A) (s t : TableMoment P Bus) (shown : S) : Type 0 where
  pub old : Replicated C S
  pub new : Replicated C S
  pub between : RuledTable P Bus
  pub behind : IsPrefix (published s.here) (published between)
  pub before : IsPrefix (published between) (published t.here)
  pub seat : ℕ
  pub at : get_elem? t.here.table.views seat ≡ some new.me.0
  pub caught : HasCaughtUp old.me new.me
  pub found : caught.got ≡ slice_index between.table.words length_at
  pub fold : IsFold IsFirst Applies new.me.0 new.state
  pub shown_is : new.state ≡ shown

abbrev pub IsDoneOnTable : {C S A : Type 0} → {P : Process C} → {Bus : Automaton C} → Tellings C
    → (S → Type 0) → Operations S A → TableMoment P Bus → TableMoment P Bus → ℕ → Did S A → Type 0
IsDoneOnTable T IsFirst Applies s t worker (Executed number bytes answer) =
    HasExecutedBy T IsFirst Applies s t worker number bytes answer
IsDoneOnTable T IsFirst Applies s t worker (Read shown) = HasReadBy IsFirst Applies s t shown

-- each of these calls, between two of these moments, which follow one another; and by this moment
-- all of them had returned
pub record AreDoneOnTables {C S A : Type 0} {P : Process C} {Bus : Automaton C} (T : Tellings C)
    (IsFirst : S → Type 0) (Applies : Operations S A) (moments : ℕ → TableMoment P Bus) (last : ℕ)
    (calls : List (Call S A)) : Type 0 where
  pub later : (m n : ℕ) → m ≤ n → IsLaterTable (moments m) (moments n)
  pub ordered : (i : ℕ) (c : Call S A) → slice_get calls i ≡ Some c → c.began ≤ c.returned
  pub done : (i : ℕ) (c : Call S A) → slice_get calls i ≡ Some c
      → IsDoneOnTable T IsFirst Applies (moments c.began) (moments c.returned) c.worker c.did
  pub returned : (i : ℕ) (c : Call S A) → slice_get calls i ≡ Some c → c.returned ≤ last
