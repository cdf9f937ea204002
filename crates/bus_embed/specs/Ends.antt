-- What the end of a bus leaves, as numbers.
use Rattle.std.specs.Prelude.{◌≡◌, ◌≢◌, ℕ, ◌+◌, ◌<◌, ◌≤◌, ◌⊎◌, true, false, List, length}
use Rattle.std.specs.Prelude.{slice_get, slice_index, slice_set, Some, None, Result, Ok, Err}
use Rattle.bus_register.specs.declared.limits.TheConstants.{MOST_SENDERS}
use Rattle.bus_register.specs.declared.registers.SenderNo.{SenderNo}
use Rattle.bus_batch.specs.Frames.{Order, Spells, has_gone}
use Rattle.bus_deliverylog.specs.Orders.{of_sender}
use Rattle.bus_handles.specs.Handles.{SeatOfBus}
use Rattle.bus_handles.specs.Pages.{HasParted}
use Rattle.bus_handles.specs.declared.answers.BusNotEnded.{BusNotEnded}
use Rattle.bus_handles.specs.declared.answers.BusNotEnded.TheVariants as why
use Rattle.bus_pageslot.specs.Endings.{IsLeft}
use Rattle.bus_pageslot.specs.Outcomes.{Outcome}
use Rattle.bus_pageslot.specs.Seats.{SenderSeat}
use Rattle.bus_embed.specs.declared.codes.TheConstants as code
use Rattle.bus_embed.specs.declared.buses.Left.{Left}
use Rattle.bus_embed.specs.Answers.{end_code, over}
use Rattle.bus_automaton.specs.ThreeWordBuses.{Held, process, automaton}

-- So many items the sender has in the whole order: as many as there are numbers from its first one
-- up to its next one. (`IsLeft`, in `Leaves` below, says these of all that was published.) That is
-- no fewer than it has in the order that the log spells, and as many where all words stand.
pub record CountsItems (z : Outcome) (s count : ℕ) : Type 0 where
  pub sum : slice_index z.page.next s ≡ slice_index z.bases s + count
  pub stand : (order : Order) (owners : List (ℕ × SenderNo))
      → Spells z.senders z.log order owners → length (of_sender s order) ≤ count
  pub all : z.floor ≡ 0 → (order : Order) (owners : List (ℕ × SenderNo))
      → Spells z.senders z.log order owners → count ≡ length (of_sender s order)

-- What the page says; from which place on the words of the log stand; and how many items each
-- sender has. Who has left in the order that the log spells is told, and nobody else where all
-- words stand. The log spells one order alone.
pub record IsLeftBy (z : Outcome) (left : Left) : Type 0 where
  pub order : Order
  pub owners : List (ℕ × SenderNo)
  pub spells : Spells z.senders z.log order owners
  pub bases : (s : ℕ) → s < MOST_SENDERS → slice_index left.bases s ≡ slice_index z.bases s
  pub next : left.next ≡ z.page.next
  pub sums : (s : ℕ) → s < MOST_SENDERS
      → slice_index left.next s ≡ slice_index left.bases s + slice_index left.counts s
  pub counts : (s : ℕ) → s < MOST_SENDERS → CountsItems z s (slice_index left.counts s)
  pub floor : left.floor ≡ z.floor
  pub words : left.words ≡ left.floor + length z.log
  pub tenures : left.tenures ≡ z.page.tenures
  pub ended : left.ended ≡ z.page.ended
  pub gone : left.gone ≡ z.page.left
  pub have_left : (s : ℕ) → s < MOST_SENDERS → has_gone s order ≡ true
      → slice_get left.gone s ≡ Some true
  pub all_left : z.floor ≡ 0 → (s : ℕ) → s < MOST_SENDERS
      → slice_get left.gone s ≡ Some (has_gone s order)

-- The bus was ended, and its log's first words are written, as many as there is room for. Or it was
-- not, and nothing is written.
abbrev pub Leaves : SeatOfBus Held → List ℕ → Left → Result Outcome BusNotEnded → List ℕ → Left
    → Type 0
Leaves r log left (Ok z) log' left' =
    IsLeft process (automaton r.bus.plan) r.me.0 z.log z.floor (Some z.page)
    × (z.senders ≡ r.bus.plan.shape.senders) × (z.bases ≡ r.bus.plan.bases)
    × (log' ≡ over z.log log) × IsLeftBy z left'
Leaves r log left (Err why.InUse) log' left' = (log' ≡ log) × (left' ≡ left)
Leaves r log left (Err why.PageOut) log' left' =
    ((words : List ℕ) × (floor : ℕ) × IsLeft process (automaton r.bus.plan) r.me.0 words floor None)
    × (log' ≡ log) × (left' ≡ left)

pub record EndAnswered (r : SeatOfBus Held) (log : List ℕ) (left : Left) (answer : ℕ)
    (log' : List ℕ) (left' : Left) : Type 0 where
  pub given : Result Outcome BusNotEnded
  pub leaves : Leaves r log left given log' left'
  pub code : answer ≡ end_code given

-- ---- the page of a sitting whose order has ended, by its senders
-- By this sender's own count the bus has so many senders: each would go on with its first number,
-- and the order has not ended. Or it has another number of them, and nothing was written.
pub record BeginsPage (s : SenderSeat Held) (senders answer : ℕ) (left left' : Left) : Type 0 where
  pub answers : (answer ≡ code.OK) ⊎ ((answer ≡ code.UNANSWERED) × (left' ≡ left))
  pub counted : answer ≡ code.OK → (process.table_layout s.core).senders ≡ senders
  pub refused : answer ≡ code.UNANSWERED → (process.table_layout s.core).senders ≢ senders
  pub next : answer ≡ code.OK → left'.next ≡ left'.bases
  pub ended : answer ≡ code.OK → left'.ended ≡ false

-- The sender of this number sends nothing more. Written was the number of the first message that
-- waits with it, or else of the next one, and perhaps that the order has ended, and nothing else.
-- Or it may send still, or is not the one of this number, and nothing was written.
pub record NotesSender (s : SenderSeat Held) (number answer : ℕ) (left left' : Left) : Type 0 where
  pub answers : (answer ≡ code.OK) ⊎ ((answer ≡ code.UNANSWERED) × (left' ≡ left))
  pub parted : answer ≡ code.OK → HasParted process number s
  pub next : answer ≡ code.OK → left'.next ≡ slice_set left.next number (process.queue s.core).first
  pub rest : answer ≡ code.OK → left' ≡ record left { next = left'.next; ended = left'.ended }
  pub ended : answer ≡ code.OK → left.ended ≡ true → left'.ended ≡ true
  pub within : answer ≡ code.OK → number < MOST_SENDERS
  pub refused : answer ≡ code.UNANSWERED → number < MOST_SENDERS → HasParted process number s → ⊥
