-- A sender that goes through what is left of a tenure that it has begun, and begins no other.
use Rattle.std.specs.Prelude.{◌≡◌, ◌≢◌, ◌⊎◌, ℕ, ◌+◌, ◌-◌, ◌<◌, Bool, true, false, Option}
use Rattle.std.specs.Prelude.{Some, None, IsSome, if◌then◌else◌}
use Rattle.bus_presence.specs.Reclaimers.{Reclaiming}
use Rattle.bus_presence.specs.declared.pins.Pin.{Pin}
use Rattle.bus_presence.specs.declared.pins.Pin.TheVariants.{Away, Announcing, Validating, Pinned}
use Rattle.bus_presence.specs.declared.pins.Pin.TheVariants.{Unpinning, Invalidated}
use Rattle.bus_tenure.specs.Core.{Core, Election, row_at, frame_len}
use Rattle.bus_tenure.specs.declared.phases.Phase.{Phase}
use Rattle.bus_tenure.specs.declared.phases.Phase.TheVariants.{Resting, Electing, Taken, Holding}
use Rattle.bus_tenure.specs.declared.phases.Phase.TheVariants.{Giving}
use Rattle.bus_tenure.specs.declared.turns.Turn.{Turn}
use Rattle.bus_tenure.specs.declared.turns.Turn.TheVariants as turn
use Rattle.bus_tenure.specs.Classes.{is_last}
use Rattle.bus_tenure.specs.Seen.{is_holding}
use Rattle.bus_core.specs.Seen.{tenure_begun}
use Rattle.bus_core.specs.Senders.{Sender}
use Rattle.bus_core.specs.declared.reuses.Reuse.{Reuse}
use Rattle.bus_automaton.specs.Processes.{Process}
use Rattle.bus_pageslot.specs.Seats.{SenderSeat}
use Rattle.bus_pageslot.specs.Turns.{Tellings, Turned}

-- ---- how many turns are left of a tenure, at most; one that answers Behind is not counted
-- of a holder: the words of its frame that are not stored yet, the length, and the stage with which
-- it gives the page back
abbrev pub turns_to_return : {E : Type 0} → Core E → (stored : ℕ) → (published : Bool) → ℕ
turns_to_return c stored published = if published then 1 else frame_len c - stored + 2

-- of one that makes a row ready: a load for each presence, and a store for each word
abbrev pub turns_to_clear : Option Reclaiming → ℕ
turns_to_clear None = 0
turns_to_clear (Some s) = (s.senders - s.scanned) + (s.width - s.cleared)

-- of one whose frame finds no room: a load for each passed place, if there are any
abbrev pub turns_to_pass : {E : Type 0} → Core E → Option Reuse → ℕ
turns_to_pass c None = 0
turns_to_pass c (Some r) = c.layout.passers - r.passed.loaded

-- what comes to a tenure where rows are used again: the store that clears its presence, those that
-- make the next row ready, and the loads of passed places
abbrev pub turns_of_reuse : {E : Type 0} → Core E → ℕ
turns_of_reuse c = 1 + (c.layout.senders + c.layout.width) + c.layout.passers

abbrev pub turns_with_reuse : {E : Type 0} → Core E → Option Reuse → ℕ
turns_with_reuse c None = 0
turns_with_reuse c (Some r) = turns_of_reuse c

-- of what it does in its tenure: of an election, that, and the whole of what an owner does
abbrev pub turns_in : {E : Type 0} → Election E → Core E → Option Reuse → Phase E → ℕ
turns_in X c r Resting = 0
turns_in X c r (Electing t e) = X.turns_left e + turns_with_reuse c r + turns_to_return c 0 false
turns_in X c r (Taken t) = turns_to_return c 0 false + turns_to_pass c r
turns_in X c r (Holding t page stored published) =
    turns_to_return c stored published + turns_to_pass c r
turns_in X c r (Giving t reason) = 1

-- of a tenure that it has begun and not entered yet: that of a new election
abbrev pub turns_to_enter : {E : Type 0} → Election E → Core E → (tenure : ℕ) → ℕ
turns_to_enter X c t =
    X.turns_left (X.started c.layout.senders c.me c.layout.rounds (row_at c.layout t))
    + turns_of_reuse c + turns_to_return c 0 false

-- of its pin: it stores its presence, looks at the stage again, clears its presence
abbrev pub turns_of_pin : {E : Type 0} → Election E → Core E → Pin → ℕ
turns_of_pin X c Away = 0
turns_of_pin X c (Announcing t) = 2 + turns_to_enter X c t
turns_of_pin X c (Validating t) = 1 + turns_to_enter X c t
turns_of_pin X c (Pinned t) = 0
turns_of_pin X c (Unpinning t) = 1
turns_of_pin X c (Invalidated t) = 1

abbrev pub turns_beside : {E : Type 0} → Election E → Core E → Option Reuse → ℕ
turns_beside X c None = 0
turns_beside X c (Some r) = turns_of_pin X c r.pin + turns_to_clear r.reclaimer

-- of all that it has begun
abbrev pub turns_to_finish : {E : Type 0} → Election E → Sender E → ℕ
turns_to_finish X v = turns_beside X v.core v.reuse + turns_in X v.core v.reuse v.core.phase

-- ---- answers
-- another sender's pin is in the way
abbrev pub is_behind : Turn → Bool
is_behind turn.Idle = false
is_behind turn.Waiting = false
is_behind turn.Going = false
is_behind (turn.Lost tenure owner) = false
is_behind (turn.Own tenure) = false
is_behind (turn.Delivered tenure first last) = false
is_behind (turn.Left tenure) = false
is_behind turn.Full = false
is_behind turn.Closed = false
is_behind turn.Spent = false
is_behind (turn.Behind tenure sender) = true

-- its batch stands in the order: its messages, or its leave mark
abbrev pub is_sent : Turn → Bool
is_sent turn.Idle = false
is_sent turn.Waiting = false
is_sent turn.Going = false
is_sent (turn.Lost tenure owner) = false
is_sent (turn.Own tenure) = false
is_sent (turn.Delivered tenure first last) = true
is_sent (turn.Left tenure) = true
is_sent turn.Full = false
is_sent turn.Closed = false
is_sent turn.Spent = false
is_sent (turn.Behind tenure sender) = false

-- how a tenure can end for a sender: it came too late for it, or lost it, or gave its page back
abbrev pub ends_tenure : Turn → Bool
ends_tenure turn.Idle = false
ends_tenure turn.Waiting = true
ends_tenure turn.Going = false
ends_tenure (turn.Lost tenure owner) = true
ends_tenure (turn.Own tenure) = false
ends_tenure (turn.Delivered tenure first last) = true
ends_tenure (turn.Left tenure) = true
ends_tenure turn.Full = true
ends_tenure turn.Closed = true
ends_tenure turn.Spent = false
ends_tenure (turn.Behind tenure sender) = false

-- ---- one turn
-- it goes on in the tenure that it has begun, and holds the page where another sender's pin is in
-- the way; or the tenure has ended for it
pub record StaysIn {E : Type 0} (old : Sender E) (answer : Turn) (new : Sender E) : Type 0 where
  pub same : tenure_begun new ≡ tenure_begun old
  pub begun : IsSome (tenure_begun new)
  pub goes : is_last answer ≡ false
  pub holds : is_behind answer ≡ true → is_holding new.core.phase ≡ true

pub record Ends {E : Type 0} (answer : Turn) (new : Sender E) : Type 0 where
  pub none : tenure_begun new ≡ None
  pub ends : ends_tenure answer ≡ true

abbrev pub StaysOrEnds : {E : Type 0} → Sender E → Turn → Sender E → Type 0
StaysOrEnds old answer new = StaysIn old answer new ⊎ Ends answer new

-- ---- what was done
-- So many turns led from one sender to another, all of one tenure: before each that was the tenure
-- which it had begun, and after each too. So none of them looked for a tenure. None was a last one,
-- and none answered Behind.
pub data GoesThrough {E : Type 0} (P : Process (Sender E)) (T : Tellings (Sender E)) (tenure : ℕ)
    (first : SenderSeat (Sender E)) : ℕ → SenderSeat (Sender E) → Type 0 where
  Begun : tenure_begun first.core ≡ Some tenure → GoesThrough P T tenure first 0 first
  Through : (count : ℕ) (old : SenderSeat (Sender E)) (word : ℕ) (answer : Turn)
      (new : SenderSeat (Sender E)) → GoesThrough P T tenure first count old
      → Turned P T old word answer new → is_last answer ≡ false → is_behind answer ≡ false
      → tenure_begun new.core ≡ Some tenure → GoesThrough P T tenure first (count + 1) new

-- it has begun no tenure: no election of it runs, it holds no page, and where rows are used again
-- it pins none
pub record HasFinished {E : Type 0} (P : Process (Sender E)) (s : SenderSeat (Sender E)) :
    Type 0 where
  pub none : tenure_begun s.core ≡ None
  pub no_election : P.turns_left s.core ≡ 0
  pub no_page : P.holds s.core ≡ false

-- another sender's pin is in the way, and it holds the page of the same tenure; or that has ended
abbrev pub FinishesAs : {E : Type 0} → Process (Sender E) → (tenure : ℕ) → Turn
    → SenderSeat (Sender E) → Type 0
FinishesAs P tenure answer new =
    ((is_behind answer ≡ true) × (P.holds new.core ≡ true)
    × (tenure_begun new.core ≡ Some tenure))
    ⊎ ((ends_tenure answer ≡ true) × HasFinished P new)

-- such turns of one tenure and one more of it, which answered so: no more of them than were left
pub record Finishes {E : Type 0} (X : Election E) (P : Process (Sender E))
    (T : Tellings (Sender E)) (first : SenderSeat (Sender E)) (answer : Turn)
    (new : SenderSeat (Sender E)) : Type 0 where
  pub tenure : ℕ
  pub count : ℕ
  pub old : SenderSeat (Sender E)
  pub word : ℕ
  pub before : GoesThrough P T tenure first count old
  pub turned : Turned P T old word answer new
  pub finished : FinishesAs P tenure answer new
  pub few : count < turns_to_finish X first.core

-- ---- what these refuse
pub record FinishingRefuses {E : Type 0} (X : Election E) (P : Process (Sender E))
    (T : Tellings (Sender E)) (first new : SenderSeat (Sender E)) : Type 0 where
  -- turns of two tenures, and turns of one that has begun none
  pub another : (t u tenure count : ℕ) → tenure_begun first.core ≡ Some t
      → tenure_begun new.core ≡ Some u → t ≢ u → ¬ GoesThrough P T tenure first count new
  pub none : (tenure count : ℕ) → tenure_begun first.core ≡ None
      → ¬ GoesThrough P T tenure first count new
  -- an answer with which the tenure goes on, though no other sender is in the way; or the page is
  -- kept then
  pub unended : (answer : Turn) → is_behind answer ≡ false → ends_tenure answer ≡ false
      → ¬ Finishes X P T first answer new
  pub kept : (answer : Turn) → is_behind answer ≡ false → P.holds new.core ≡ true
      → ¬ Finishes X P T first answer new
  -- it is in another tenure at the end
  pub elsewhere : (answer : Turn) (t u : ℕ) → tenure_begun first.core ≡ Some t
      → tenure_begun new.core ≡ Some u → t ≢ u → ¬ Finishes X P T first answer new
