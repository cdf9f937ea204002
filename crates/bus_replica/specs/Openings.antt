-- The replicas of a bus that is new.
use Rattle.std.specs.Prelude.{◌≡◌, ℕ, ◌+◌, ◌≤◌, List, [], length, slice_get, Option, Some}
use Rattle.bus_register.specs.declared.limits.TheConstants.{MOST_SENDERS, MOST_FRAME_WORDS}
use Rattle.bus_register.specs.declared.limits.TheConstants.{MOST_LOG_WORDS, MOST_MESSAGES}
use Rattle.bus_batch.specs.declared.messages.Item.{Item}
use Rattle.bus_tenure.specs.declared.pages.Page.{Page}
use Rattle.bus_machine.specs.Playing.{MayGoOn, MayNotGoOn}
use Rattle.bus_world.specs.Playing.{Within, Beyond}
use Rattle.bus_world.specs.declared.shapes.MakeFault.TheVariants as make
use Rattle.bus_world.specs.declared.shapes.Shape.{Shape}
use Rattle.bus_automaton.specs.Buses.{ring_plan}
use Rattle.bus_automaton.specs.Processes.{Process, Automaton}
use Rattle.bus_automaton.specs.declared.plans.Plan.{Plan}
use Rattle.bus_pageslot.specs.Buses.{IsNewSeat}
use Rattle.bus_pageslot.specs.ReceiverViews.{new_receiver_view}
use Rattle.bus_pageslot.specs.Seats.{SenderSeat}
use Rattle.bus_pageslot.specs.declared.rule.View.TheVariants.{Tap}
use Rattle.bus_handles.specs.Handles.{SeatOfBus}
use Rattle.bus_replica.specs.Replicas.{LeadTo, Operations, Replicated, Sitting, sitting_of}
use Rattle.bus_replica.specs.declared.faults.OpenFault.{OpenFault}
use Rattle.bus_replica.specs.declared.faults.OpenFault.TheVariants as opening

-- A replica of this bus before its first call: of the worker of this number, which has put nothing;
-- its receiver has taken no turn, and its state is what the replayed operations lead to.
pub record IsNewReplica {C S Answer : Type 0} (P : Process C) (A : Automaton C)
    (IsFirst : S → Type 0) (Applies : Operations S Answer) (bus : Sitting) (worker : ℕ)
    (r : Replicated C S) : Type 0 where
  pub bus_is : r.bus ≡ bus
  pub number : P.me r.sender.core ≡ worker
  pub sender : IsNewSeat P A bus.table worker r.sender
  pub receiver : r.me ≡ (Tap A.table_layout (new_receiver_view worker), [])
  pub leads : LeadTo IsFirst Applies bus.replayed r.state

-- the sizes of the bus of so many workers, over a ring of so many words
abbrev pub replica_shape : (workers words : ℕ) → Shape
replica_shape workers words = record {
  senders = workers;
  receivers = workers;
  rounds = 1;
  rows = 8;
  log_words = words;
  batch = MOST_MESSAGES;
}

-- One for each of so many workers, in order, of one bus that is made for these, over such a ring.
-- It goes on with the numbers of this page, if with any, and behind these replayed operations.
pub record AreNewReplicas {C S Answer : Type 0} (P : Process C) (A : Plan → Automaton C)
    (IsFirst : S → Type 0) (Applies : Operations S Answer) (workers words : ℕ)
    (page : Option Page) (replayed : List Item) (made : List (Replicated C S)) : Type 0 where
  pub bus : Sitting
  pub plan_is : bus.plan ≡ ring_plan (replica_shape workers words) page
  pub replayed_is : bus.replayed ≡ replayed
  pub many : length made ≡ workers
  pub few : workers ≤ MOST_SENDERS
  pub each : (k : ℕ) (r : Replicated C S) → slice_get made k ≡ Some r
      → IsNewReplica P (A bus.plan) IsFirst Applies bus k r

-- a bus has so many workers, and a ring of replicas has so many words
abbrev pub AreSizes : (workers words : ℕ) → Type 0
AreSizes workers words =
    Within 1 MOST_SENDERS workers × Within MOST_FRAME_WORDS MOST_LOG_WORDS words

-- why there are none, of several the first: no bus has so many workers, or no ring of replicas has
-- so many words; or the page, if there is one, is of an order that has not ended, or a number of it
-- leaves no room; or memory was refused
abbrev pub IsOpenFault : (workers words : ℕ) → Option Page → OpenFault → Type 0
IsOpenFault workers words page opening.Workers = Beyond 1 MOST_SENDERS workers
IsOpenFault workers words page opening.LogWords =
    Within 1 MOST_SENDERS workers × Beyond MOST_FRAME_WORDS MOST_LOG_WORDS words
IsOpenFault workers words page opening.NotEnded =
    AreSizes workers words × MayNotGoOn workers MOST_MESSAGES page make.NotEnded
IsOpenFault workers words page opening.Numbers =
    AreSizes workers words × MayNotGoOn workers MOST_MESSAGES page make.Numbers
IsOpenFault workers words page opening.NoMemory =
    AreSizes workers words × MayGoOn workers MOST_MESSAGES page

-- The first replicas of a bus of this shape are made, and these senders and receivers are left for
-- the others, before their first turns.
pub record IsPairing {C S Answer : Type 0} (P : Process C) (A : Plan → Automaton C)
    (IsFirst : S → Type 0) (Applies : Operations S Answer) (shape : Shape) (page : Option Page)
    (replayed : List Item) (made : List (Replicated C S)) (senders : List (SenderSeat C))
    (receivers : List (SeatOfBus C)) : Type 0 where
  pub bus : Sitting
  pub shape_is : shape ≡ replica_shape shape.senders shape.log_words
  pub plan_is : bus.plan ≡ ring_plan shape page
  pub replayed_is : bus.replayed ≡ replayed
  pub few : shape.senders ≤ MOST_SENDERS
  pub each : (k : ℕ) (r : Replicated C S) → slice_get made k ≡ Some r
      → IsNewReplica P (A bus.plan) IsFirst Applies bus k r
  pub senders_are : (k number : ℕ) (s : SenderSeat C) → slice_get senders k ≡ Some s
      → number ≡ length made + k → IsNewSeat P (A bus.plan) bus.table number s
  pub receivers_are : (k number : ℕ) (r : SeatOfBus C) → slice_get receivers k ≡ Some r
      → number ≡ length made + k → (sitting_of r.bus replayed ≡ bus)
      × (r.me ≡ (Tap (A bus.plan).table_layout (new_receiver_view number), []))
  pub many : length made + length senders ≡ shape.senders
  pub as_many : length receivers ≡ length senders
