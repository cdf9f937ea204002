-- What a receiver takes and is told, and what two that meet tell one another.
use Rattle.std.specs.Prelude.{◌≡◌, ℕ, Bool, true, false, List, Option, Some, None}
use Rattle.atomic_table.specs.Seated.{TableId}
use Rattle.bus_batch.specs.declared.messages.Item.{Item}
use Rattle.bus_deliverylog.specs.declared.receiving.RecvTurn.{RecvTurn}
use Rattle.bus_deliverylog.specs.declared.receiving.RecvTurn.TheVariants as turn
use Rattle.bus_world.specs.Headline.{Action}
use Rattle.bus_pageslot.specs.ReceiverViews.{Agree}
use Rattle.bus_pageslot.specs.Listening.{Hears}
use Rattle.bus_automaton.specs.Processes.{Process}
use Rattle.bus_pageslot.specs.Rule.{Sat, receiver_view_in, known_in}
use Rattle.bus_pageslot.specs.Seats.{ReceiverSeat}
use Rattle.bus_pageslot.specs.Steps.{Learns, KnowsSent}
use Rattle.bus_receiver.specs.declared.receivers.Found.{Found}
use Rattle.bus_receiver.specs.declared.receivers.Found.TheVariants as found
use Rattle.bus_receiver.specs.declared.receivers.Next.{Next}
use Rattle.bus_receiver.specs.declared.receivers.Next.TheVariants as next

-- the bus that it is of
abbrev pub bus_of : {C : Type 0} → ReceiverSeat C → TableId
bus_of r = r.table_id

-- ---- turns, one after another; one that stores its place in its passed place answers Going, and
-- so finds nothing
-- a frame's head, an item, a leave mark or the end
abbrev pub is_found : RecvTurn → Bool
is_found turn.Going = false
is_found turn.Empty = false
is_found (turn.Head tenure owner) = true
is_found (turn.Item item) = true
is_found (turn.Leave sender) = true
is_found turn.End = true

-- turns that found nothing led from one seat to another
pub data HearsOn {C : Type 0} (first : Sat C) : Sat C → Type 0 where
  Here : HearsOn first first
  More : (old : Sat C) (answer : RecvTurn) (new : Sat C) → HearsOn first old → Hears old answer new
      → is_found answer ≡ false → HearsOn first new

-- turns up to the first that found a head, an item, a leave mark or the end
pub record Takes {C : Type 0} (first : Sat C) (answer : RecvTurn) (new : Sat C) : Type 0 where
  pub old : Sat C
  pub before : HearsOn first old
  pub hears : Hears old answer new
  pub found : is_found answer ≡ true

-- ---- items and the end alone
-- an item or the end
abbrev pub is_given : RecvTurn → Bool
is_given turn.Going = false
is_given turn.Empty = false
is_given (turn.Head tenure owner) = false
is_given (turn.Item item) = true
is_given (turn.Leave sender) = false
is_given turn.End = true

-- turns that found neither led from one seat to another
pub data PassesOn {C : Type 0} (first : Sat C) : Sat C → Type 0 where
  Stays : PassesOn first first
  Passes : (old : Sat C) (answer : RecvTurn) (new : Sat C) → PassesOn first old
      → Hears old answer new → is_given answer ≡ false → PassesOn first new

-- turns up to the first that found an item or the end, which answered so
pub record PassesTo {C : Type 0} (first : Sat C) (answer : RecvTurn) (new : Sat C) : Type 0 where
  pub old : Sat C
  pub before : PassesOn first old
  pub hears : Hears old answer new
  pub given : is_given answer ≡ true

-- Turns that found neither, and between them a function that is asked whether to go on; Tells f
-- told f' where a call of f may tell that, and leaves f'. For each turn that answered Empty, and
-- for no other, there is a call of it that told to go on; each call found it as the call before had
-- left it. When it was made is not said.
pub data AsksOn {C F : Type 0} (Tells : F → Bool → F → Type 0) (first : Sat C) (given : F) : Sat C
    → F → Type 0 where
  Begins : AsksOn Tells first given first given
  Goes : (old : Sat C) (f : F) (answer : RecvTurn) (new : Sat C) → AsksOn Tells first given old f
      → Hears old answer new → is_given answer ≡ false → (answer ≡ turn.Empty → ⊥)
      → AsksOn Tells first given new f
  Asks : (old : Sat C) (f : F) (new : Sat C) (f' : F) → AsksOn Tells first given old f
      → Hears old turn.Empty new → Tells f true f' → AsksOn Tells first given new f'

-- the answer of the last turn: an item, the end, or that there is nothing more
abbrev pub last_of : Next → RecvTurn
last_of (next.Item item) = turn.Item item
last_of next.End = turn.End
last_of next.Stopped = turn.Empty

-- the same of a call that writes the item in its place
abbrev pub next_of : Found → Item → Next
next_of found.Item written = next.Item written
next_of found.End written = next.End
next_of found.Stopped written = next.Stopped

-- what stands in the place then: where no item was written, what stood there before
abbrev pub LeavesPlace : Found → Item → Item → Type 0
LeavesPlace found.Item before after = Unit {0}
LeavesPlace found.End before after = after ≡ before
LeavesPlace found.Stopped before after = after ≡ before

-- such turns, and a last one, which answered so; after an Empty the function was asked and told to
-- stop
pub record PassesWhile {C F : Type 0} (Tells : F → Bool → F → Type 0) (first : Sat C) (given : F)
    (found : Next) (new : Sat C) : Type 0 where
  pub old : Sat C
  pub asked : F
  pub before : AsksOn Tells first given old asked
  pub hears : Hears old (last_of found) new
  pub told : found ≡ next.Stopped → (left : F) × Tells asked false left

abbrev pub item_or_end : Option Item → RecvTurn
item_or_end (Some item) = turn.Item item
item_or_end None = turn.End

-- the answer of a call that says whether it has written an item in its place
abbrev pub written_or_end : Bool → Item → RecvTurn
written_or_end true written = turn.Item written
written_or_end false written = turn.End

-- ---- what it learns of others
-- it was told by this sender, which has done these actions, and knows the log at least up to each
-- length that the sender has stored
pub record IsTold {C : Type 0} (P : Process C) (c : C) (actions : List Action) (stored : ℕ)
    (old new : Sat C) : Type 0 where
  pub got : ℕ
  pub learns : Learns old got new
  pub sent : KnowsSent P c actions stored (known_in new.0)

-- Two receivers know the same words, as many as were loaded. What the one behind was answered
-- begins what the other was answered.
pub record HaveMet {C : Type 0} (mine theirs mine' theirs' : Sat C) : Type 0 where
  pub got : ℕ
  pub first : Learns mine got mine'
  pub second : Learns theirs got theirs'
  pub same : known_in theirs'.0 ≡ known_in mine'.0
  pub agree : Agree (receiver_view_in mine.0) (receiver_view_in theirs.0)
