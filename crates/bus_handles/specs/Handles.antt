-- What the handle of a receiver shows, and what a bus gives where it is opened.
use Rattle.std.specs.Prelude.{◌≡◌, ◌+◌, ◌*◌, ◌≤◌, true, List, All, Option, map}
use Rattle.bus_register.specs.declared.limits.TheConstants.{MOST_MESSAGE_WORDS}
use Rattle.bus_tenure.specs.declared.pages.Page.{Page}
use Rattle.bus_machine.specs.Playing.{IsServedWith}
use Rattle.bus_automaton.specs.Buses.{Refuses, plan_passers}
use Rattle.bus_automaton.specs.declared.plans.Plan.{Plan}
use Rattle.bus_pageslot.specs.Buses.{BusId, AreNewSeats, AreNewTaps}
use Rattle.bus_automaton.specs.Processes.{Process, Automaton}
use Rattle.bus_pageslot.specs.Rule.{Sat}
use Rattle.bus_pageslot.specs.Seats.{SenderSeat, ReceiverSeat, table_of}
use Rattle.bus_handles.specs.declared.answers.RingFault.{RingFault}
use Rattle.bus_handles.specs.declared.answers.RingFault.TheVariants as ring

-- a receiver with its bus: which one that is, and what its seat shows
pub record SeatOfBus (C : Type 0) : Type 0 where
  pub bus : BusId
  pub me : Sat C

-- the seat of the receiver, without its bus
abbrev pub seat_of : {C : Type 0} → SeatOfBus C → ReceiverSeat C
seat_of r = record { table_id = r.bus.table; me = r.me }

abbrev pub seats_of : {C : Type 0} → List (SeatOfBus C) → List (ReceiverSeat C)
seats_of {C} rs = map (λ (r : SeatOfBus C). seat_of r) rs

-- A bus of this plan was made, with senders and receivers that have taken no step; and these are
-- the handles of all of them, in order.
pub record IsOpened {C : Type 0} (P : Process C) (A : Automaton C) (plan : Plan)
    (senders : List (SenderSeat C)) (receivers : List (SeatOfBus C)) : Type 0 where
  pub bus : BusId
  pub plan_is : bus.plan ≡ plan
  pub senders_are : AreNewSeats P A bus.table plan.shape.senders senders
  pub receivers_are : AreNewTaps A.table_layout bus.table plan.shape.receivers (seats_of receivers)
  pub of_bus : All (λ s. table_of s ≡ bus.table) senders
  pub to_bus : All (λ r. r.bus ≡ bus) receivers

-- the log of a ring is as long as a frame may be: a head, and the words of a batch of the longest
-- messages
abbrev pub HoldsFrames : Plan → Type 0
HoldsFrames plan =
    plan.ring ≡ true → 1 + MOST_MESSAGE_WORDS * plan.shape.batch ≤ plan.shape.log_words

-- why no handles of a bus of this plan are opened, which goes on after this page, if after any: it
-- is not made; or its sizes and batches are served, and the log of this ring is shorter than that
abbrev pub OpenRefused : Plan → Option Page → RingFault → Type 0
OpenRefused plan page (ring.Make why) =
    Refuses plan page why
    × (IsServedWith (plan_passers plan) plan.shape plan.reuse → HoldsFrames plan)
OpenRefused plan page ring.ShortLog =
    IsServedWith (plan_passers plan) plan.shape plan.reuse × (¬ HoldsFrames plan)
