-- What receivers noted, against the order of items that a bus left behind.
use Rattle.std.specs.Prelude.{◌≡◌, ◌≢◌, ℕ, ◌<◌, true, false, List, length, sum, take, All}
use Rattle.std.specs.Prelude.{slice_index, slice_get, Some}
use Rattle.std.specs.Int.{w64, to_be_bytes}
use Rattle.bus_register.specs.declared.limits.TheConstants.{LOG_MESSAGES, MOST_SENDERS}
use Rattle.bus_register.specs.declared.limits.TheConstants.{MOST_LOG_WORDS}
use Rattle.bus_register.specs.declared.registers.SenderNo.{SenderNo}
use Rattle.bus_batch.specs.declared.messages.Item.{Item}
use Rattle.bus_batch.specs.Frames.{Order, Spells, items_in, has_gone}
use Rattle.bus_deliverylog.specs.Orders.{of_sender}
use Rattle.bus_world.specs.declared.shapes.Shape.{Shape}
use Rattle.bus_pageslot.specs.Outcomes.{Outcome}
use Rattle.bus_receiver.specs.Hearing.{Hearing}
use Rattle.bus_run.specs.declared.limits.TheConstants.{ROUNDS, ROWS}
use Rattle.bus_run.specs.declared.audits.AuditFault.{AuditFault}
use Rattle.bus_run.specs.declared.audits.AuditFault.TheVariants.{Count, NotEnded, Left}

-- The words that were left spell an order. They spell one alone.
abbrev pub IsSpelled : Outcome → Type 0
IsSpelled z = (order : Order) × (owners : List (ℕ × SenderNo)) × Spells z.senders z.log order owners

-- it is true of the order that the words spell
abbrev pub OfOrder : Outcome → (Order → Type 0) → Type 0
OfOrder z P =
    (order : Order) (owners : List (ℕ × SenderNo)) → Spells z.senders z.log order owners → P order

-- all items of each sender below this one were counted, and none but those
abbrev pub CountsBelow : ℕ → Order → Hearing → Type 0
CountsBelow many order h = (s : ℕ) → s < many → slice_index h.counts s ≡ length (of_sender s order)

-- of all senders whose items were not counted this is the lowest
abbrev pub Miscounts : Order → Hearing → ℕ → Type 0
Miscounts order h sender =
    CountsBelow sender order h × (slice_index h.counts sender ≢ length (of_sender sender order))

-- all items were counted, and the end was given
abbrev pub IsFair : Order → Hearing → Type 0
IsFair order h = CountsBelow MOST_SENDERS order h × (h.ended ≡ true)

-- its total is the sum of what it counted of each sender of a bus
abbrev pub IsSummed : Hearing → Type 0
IsSummed h = (length h.counts ≡ MOST_SENDERS) × (sum h.counts ≡ h.items)

-- its total is that of the items of the order
abbrev pub CountsAll : Order → Hearing → Type 0
CountsAll order h = h.items ≡ length (items_in order.entries)

-- none of the senders below this one has left
abbrev pub StayBelow : ℕ → Order → Type 0
StayBelow many order = (s : ℕ) → s < many → has_gone s order ≡ false

-- no sender has left
abbrev pub AllStay : Order → Type 0
AllStay order = StayBelow MOST_SENDERS order

-- of all senders that have left this is the lowest
abbrev pub IsFirstLeaver : Order → ℕ → Type 0
IsFirstLeaver order sender = StayBelow sender order × (has_gone sender order ≡ true)

-- the receivers before the one that is named are fair, and it is not; or all are, and a sender has
-- left
abbrev pub IsFirstFault : Order → List Hearing → AuditFault → Type 0
IsFirstFault order heards (Count receiver sender) =
    All (IsFair order) (take receiver heards) × (h : Hearing) × (slice_get heards receiver ≡ Some h)
    × (sender < MOST_SENDERS) × Miscounts order h sender
IsFirstFault order heards (NotEnded receiver) =
    All (IsFair order) (take receiver heards) × (h : Hearing) × (slice_get heards receiver ≡ Some h)
    × CountsBelow MOST_SENDERS order h × (h.ended ≡ false)
IsFirstFault order heards (Left sender) =
    All (IsFair order) heards × (sender < MOST_SENDERS) × IsFirstLeaver order sender

-- so many items of each of so many senders
abbrev pub SendsEach : ℕ → ℕ → Order → Type 0
SendsEach senders messages order = (s : ℕ) → s < senders → length (of_sender s order) ≡ messages

-- the items of each of so many senders carry the numbers from 0 on, in order, each in 8 bytes, the
-- highest first
abbrev pub CarriesNumbers : ℕ → Order → Type 0
CarriesNumbers senders order =
    (s k : ℕ) (item : Item) → s < senders → slice_get (of_sender s order) k ≡ Some item
    → item.message ≡ to_be_bytes w64 k

-- the order has ended
abbrev pub IsClosed : Order → Type 0
IsClosed order = order.ended ≡ true

-- the shape of a run's bus
abbrev pub shape_of_run : ℕ → ℕ → Shape
shape_of_run senders receivers = record {
  senders = senders;
  receivers = receivers;
  rounds = ROUNDS;
  rows = ROWS;
  log_words = MOST_LOG_WORDS;
  batch = LOG_MESSAGES;
}
