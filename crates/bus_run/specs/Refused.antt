-- What is no audit that was passed, no run that ended well, and no sender that has sent all.
use Rattle.std.specs.Prelude.{◌≡◌, ℕ, ◌+◌, ◌<◌, ◌≤◌, true, false, Some, List, [], ◌∷◌, All, length}
use Rattle.std.specs.Prelude.{slice_index, slice_get}
use Rattle.std.specs.Int.{w64, to_be_bytes}
use Rattle.bus_register.specs.declared.limits.TheConstants.{MOST_SENDERS}
use Rattle.bus_register.specs.declared.registers.SenderNo.{SenderNo}
use Rattle.bus_batch.specs.declared.messages.Item.{Item}
use Rattle.bus_batch.specs.Frames.{Order, Spells, has_gone, items_in}
use Rattle.bus_deliverylog.specs.Orders.{of_sender}
use Rattle.bus_tenure.specs.declared.turns.Turn.{Turn}
use Rattle.bus_world.specs.Headline.{puts}
use Rattle.bus_world.specs.declared.shapes.Shape.{Shape}
use Rattle.bus_pageslot.specs.Outcomes.{Outcome}
use Rattle.bus_pageslot.specs.Seats.{SenderSeat, actions_of}
use Rattle.bus_receiver.specs.Hearing.{Hearing}
use Rattle.bus_run.specs.Audit.{OfOrder, IsFair, AllStay, IsFirstFault}
use Rattle.bus_automaton.specs.ThreeWordBuses.{Held, process}
use Rattle.bus_run.specs.Left.{batch_of}
use Rattle.bus_run.specs.Reports.{IsRunReport}
use Rattle.bus_run.specs.Sending.{ClosesOn}
use Rattle.bus_run.specs.Stops.{HasSent}
use Rattle.bus_run.specs.Told.{HasTold}
use Rattle.bus_run.specs.declared.audits.AuditFault.TheVariants.{NotEnded}

-- the number 0 as a message
abbrev pub zeros : List ℕ
zeros = to_be_bytes w64 0

-- Of what a bus left behind, whose words spell this order: an audit that passes ..
pub record AuditRefuses (left : Outcome) (order : Order) (h : Hearing) : Type 0 where
  -- .. a note that has an item of a sender too few, or one too many
  pub too_few : (s : ℕ) → s < MOST_SENDERS → slice_index h.counts s + 1 ≡ length (of_sender s order)
      → ¬ OfOrder left (λ o. All (IsFair o) (h ∷ []))
  pub too_many : (s : ℕ) → s < MOST_SENDERS
      → slice_index h.counts s ≡ length (of_sender s order) + 1
      → ¬ OfOrder left (λ o. All (IsFair o) (h ∷ []))
  -- .. one that has no end, ..
  pub unended : h.ended ≡ false → ¬ OfOrder left (λ o. All (IsFair o) (h ∷ []))
  -- .. or an order that a sender has left
  pub has_left : (s : ℕ) → s < MOST_SENDERS → has_gone s order ≡ true → ¬ OfOrder left AllStay
  -- or one that blames a receiver which noted the end
  pub blames_an_end : h.ended ≡ true → ¬ OfOrder left (λ o. IsFirstFault o (h ∷ []) (NotEnded 0))

-- Of runs in which each sender was to send so many messages, one that ended well with ..
pub record RunRefuses (shape : Shape) (messages : ℕ) (left : Outcome) : Type 0 where
  -- .. nothing in its log, ..
  pub nothing_sent : (heards : List Hearing) → 0 < shape.senders → 0 < messages → left.log ≡ []
      → ¬ IsRunReport shape messages left heards
  -- .. one message of a sender too few, ..
  pub one_unsent : (heards : List Hearing) (order : Order) (owners : List (ℕ × SenderNo)) (s : ℕ)
      → Spells left.senders left.log order owners → s < shape.senders
      → length (of_sender s order) + 1 ≡ messages → ¬ IsRunReport shape messages left heards
  -- .. a zero in place of the number that was due, ..
  pub zero_sent :
      (heards : List Hearing) (order : Order) (owners : List (ℕ × SenderNo)) (s : ℕ) (item : Item)
      → Spells left.senders left.log order owners → s < shape.senders
      → slice_get (of_sender s order) 1 ≡ Some item → item.message ≡ zeros
      → ¬ IsRunReport shape messages left heards
  -- .. an order that has not ended, ..
  pub unclosed : (heards : List Hearing) (order : Order) (owners : List (ℕ × SenderNo))
      → Spells left.senders left.log order owners → order.ended ≡ false
      → ¬ IsRunReport shape messages left heards
  -- .. or a receiver that was given an item less
  pub one_unheard : (h : Hearing) (order : Order) (owners : List (ℕ × SenderNo))
      → Spells left.senders left.log order owners → h.items + 1 ≡ length (items_in order.entries)
      → ¬ IsRunReport shape messages left (h ∷ [])

-- A sender has not sent all that ..
pub record SenderRefuses (s : SenderSeat Held) : Type 0 where
  -- .. put nothing, where messages were asked for, ..
  pub nothing_put : (messages : ℕ) → 0 < messages → puts (actions_of process s) ≡ []
      → ¬ HasSent messages s
  -- .. put a zero twice, ..
  pub zeros_put : (messages : ℕ) → puts (actions_of process s) ≡ zeros ∷ zeros ∷ []
      → ¬ HasSent messages s
  -- .. or has a message that waits; nor does it close then
  pub one_waits : (messages : ℕ) → 0 < length (batch_of s).messages → ¬ HasSent messages s
  pub closes_before : (answer : Turn) (new : SenderSeat Held) → 0 < length (batch_of s).messages
      → ¬ ClosesOn s answer new

-- Nobody has told a message by a log of no words, or of which the bus has no such sender.
pub record TellingRefuses (senders s many : ℕ) : Type 0 where
  pub untold : ¬ HasTold senders s (many + 1) []
  pub stranger : (words : List ℕ) → senders ≤ s → ¬ HasTold senders s (many + 1) words
