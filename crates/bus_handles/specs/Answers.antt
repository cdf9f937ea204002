-- The last answers of a sender that are given as a Result.
use Rattle.std.specs.Prelude.{◌≡◌, true}
use Rattle.bus_tenure.specs.Classes.{is_refusal}
use Rattle.bus_tenure.specs.declared.turns.Turn.{Turn}
use Rattle.bus_tenure.specs.declared.turns.Turn.TheVariants as turn
use Rattle.bus_automaton.specs.Processes.{Process}
use Rattle.bus_pageslot.specs.Seats.{SenderSeat}
use Rattle.bus_pageslot.specs.Sendings.{KeptAfter}
use Rattle.bus_handles.specs.declared.answers.Delivered.{Delivered}
use Rattle.bus_handles.specs.declared.answers.NotDelivered.{NotDelivered}
use Rattle.bus_handles.specs.declared.answers.NotDelivered.TheVariants as why

-- the answer of the sender where messages were delivered
abbrev pub delivered_turn : Delivered → Turn
delivered_turn done = turn.Delivered done.tenure done.first done.last

-- This answer of the sender is why none was. No answer says of a batch that it is longer than the
-- log: that is told before any turn.
abbrev pub IsWhy : Turn → NotDelivered → Type 0
IsWhy answer why.Idle = answer ≡ turn.Idle
IsWhy answer (why.Left tenure) = answer ≡ turn.Left tenure
IsWhy answer why.Full = answer ≡ turn.Full
IsWhy answer why.Closed = answer ≡ turn.Closed
IsWhy answer why.Spent = answer ≡ turn.Spent
IsWhy answer why.NeverFits = ⊥

-- It sends so, up to a last answer, and that is why nothing was delivered. Where the answer
-- refuses, the same messages wait as before.
pub record DeliversNone {C : Type 0} (P : Process C) (Sends : Turn → Type 0) (old : SenderSeat C)
    (why : NotDelivered) (new : SenderSeat C) : Type 0 where
  pub answer : Turn
  pub is_why : IsWhy answer why
  pub sends : Sends answer
  pub keeps : is_refusal answer ≡ true → KeptAfter P old answer new
