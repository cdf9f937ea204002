-- Which bus a run goes by, what that leaves behind, and by which seat.
use Rattle.std.specs.Prelude.{◌≡◌, ℕ, ◌++◌, List, All, Option, Some, None, length, replicate}
use Rattle.std.specs.Prelude.{slice_get}
use Rattle.bus_adoptcommit.specs.ThreeWord.{Local, kind_at, op_of, fed_of}
use Rattle.bus_adoptcommit.specs.ThreeWordKeeps.{three_word}
use Rattle.bus_machine.specs.Playing.{IsServed, MakeRefused}
use Rattle.bus_tenure.specs.Core.{length_at}
use Rattle.bus_tenure.specs.declared.pages.Page.{Page}
use Rattle.bus_world.specs.Headline.{IsPrefix}
use Rattle.bus_world.specs.declared.shapes.MakeFault.{MakeFault}
use Rattle.bus_world.specs.declared.shapes.Shape.{Shape}
use Rattle.bus_pageslot.specs.declared.rule.View.{View}
use Rattle.bus_pageslot.specs.Endings.{IsLeft}
use Rattle.bus_pageslot.specs.Outcomes.{Outcome}
use Rattle.bus_automaton.specs.Buses.{cyclic_plan}
use Rattle.bus_automaton.specs.ThreeWordBuses.{Held, process, automaton}
use Rattle.bus_automaton.specs.declared.plans.Plan.{Plan}
use Rattle.bus_pageslot.specs.Rule.{receiver_view_in, known_in, with_receiver_view}
use Rattle.bus_pageslot.specs.Seats.{SenderSeat}
use Rattle.bus_pageslot.specs.Turns.{Tellings, tells_with}
use Rattle.bus_batch.specs.Batches.{Pending}
use Rattle.bus_run.specs.Told.{HasTold}

-- ---- which bus: its senders go by the ratifier of three words, as the types of src/buses.rt have
-- it what the answers of its turns tell
abbrev pub run_tells : Tellings Held
run_tells =
    tells_with (λ s. kind_at s.progress) (λ s word. op_of s) (λ s got word. fed_of s got) three_word

-- what the bus of a run is made by: its shape, and its rows of words are used again
abbrev pub run_plan : Shape → Plan
run_plan shape = cyclic_plan shape None

-- such a bus is served; and why none is made
abbrev pub RunServes : Shape → Type 0
RunServes shape = IsServed shape (Some shape.rows)

abbrev pub RunRefuses : Shape → MakeFault → Type 0
RunRefuses shape why = MakeRefused shape (Some shape.rows) why

-- ---- a sender with its seat, and what a seat shows
abbrev pub number_of : SenderSeat Held → ℕ
number_of s = process.me s.core

abbrev pub batch_of : SenderSeat Held → Pending
batch_of s = process.queue s.core

-- of how many senders it is one
abbrev pub senders_of : SenderSeat Held → ℕ
senders_of s = (process.table_layout s.core).senders

abbrev pub Shown : Type 0
Shown = View Held

-- ---- what is left

-- a table of this plan of which the rule holds, and on which some seat shows this, was left with
-- this log, of which all words stand, and with this at home
abbrev pub IsLeftBy : Plan → Shown → List ℕ → Option Page → Type 0
IsLeftBy plan seen log home = IsLeft process (automaton plan) seen log 0 home

-- its log and its page are those of a table of this plan of which the rule holds, and on which some
-- seat shows this
pub record IsLeftBehind (plan : Plan) (z : Outcome) : Type 0 where
  pub seen : Shown
  pub left : IsLeftBy plan seen z.log (Some z.page)

-- and the seat is one of which this is true
abbrev pub IsEndedBy : Plan → (Shown → Type 0) → Outcome → Type 0
IsEndedBy plan Ends z = (behind : IsLeftBehind plan z) × Ends behind.seen

-- ---- the seat by which a run's bus is ended
-- the seat shows what it did, but for the words of the log that it knows, which are more, and for
-- so many loads of the length more
pub record HasLearnt (times : ℕ) (old new : Shown) : Type 0 where
  pub known : List ℕ
  pub now : new
      ≡ with_receiver_view old (record (receiver_view_in old) {
        known = known;
        loads = (receiver_view_in old).loads ++ replicate times length_at;
      })
  pub grows : IsPrefix (known_in old) known

-- it is the first receiver's after one load for each sender, and knows a log of a bus of so many
-- senders that has of each just the numbers below this one at its front
pub record IsToldByAll {D : Type 0} (sender : D → SenderSeat Held) (senders messages : ℕ)
    (send_workers : List D) (seats : List Shown) (seen : Shown) : Type 0 where
  pub first : Shown
  pub first_is : slice_get seats 0 ≡ Some first
  pub learnt : HasLearnt (length send_workers) first seen
  pub told : All (λ d. HasTold senders (number_of (sender d)) messages (known_in seen)) send_workers
