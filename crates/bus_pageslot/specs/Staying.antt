-- Who a sender stays, by turns, puts and marks.
use Rattle.std.specs.Prelude.{◌≡◌}
use Rattle.bus_automaton.specs.Processes.{Process}
use Rattle.bus_pageslot.specs.Seats.{SenderSeat, first_number_of}

-- it has the same number, and its messages are counted from the same number on
pub record IsSameSender {C : Type 0} (P : Process C) (old new : SenderSeat C) : Type 0 where
  pub me : P.me new.core ≡ P.me old.core
  pub first : first_number_of P new ≡ first_number_of P old
