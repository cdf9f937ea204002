-- A close that is taken, and then sent.
use Rattle.std.proofs.Common.{◌≡◌, Result, Ok, Err, OnOk, IfErr, sym, subst}
use Rattle.bus_tenure.specs.declared.turns.Turn.{Turn}
use Rattle.bus_tenure.specs.declared.turns.Turn.TheVariants as turn
use Rattle.bus_automaton.specs.Processes.{Process}
use Rattle.bus_pageslot.specs.Seats.{SenderSeat}
use Rattle.bus_pageslot.specs.Turns.{Tellings, Sends}
use Rattle.bus_pageslot.specs.Sendings.{Closes, ClosesAndSends}
use Rattle.bus_handles.specs.Closings.{NotEndedFor}
use Rattle.bus_handles.specs.declared.answers.OrderNotEnded.{OrderNotEnded}
use Rattle.bus_handles.specs.declared.answers.OrderNotEnded.TheVariants as why

-- where it was answered Closed
pub ends : {C A : Type 0} (P : Process C) (T : Tellings C) (old closed new : SenderSeat C)
    (answer : Turn) (r : Result A OrderNotEnded) → Closes P old closed → Sends P T closed answer new
    → OnOk r (answer ≡ turn.Closed) → OnOk r (ClosesAndSends P T old turn.Closed new)
ends P T old closed new answer (Ok x) closes sends is =
    record {
      closed = closed;
      closes = closes;
      sends = subst (λ t. Sends P T closed t new) is sends;
    }
ends P T old closed new answer (Err e) closes sends is = is

-- where it was answered otherwise
pub ends_not : {C A : Type 0} (P : Process C) (T : Tellings C) (old closed new : SenderSeat C)
    (answer : Turn) (r : Result A OrderNotEnded) → Closes P old closed → Sends P T closed answer new
    → IfErr r (λ e. (e ≡ why.Turn answer) × (answer ≡ turn.Closed → ⊥))
    → IfErr r (λ e. NotEndedFor P T old e new)
ends_not P T old closed new answer (Ok x) closes sends is = is
ends_not P T old closed new answer (Err e) closes sends is =
    subst (λ e. NotEndedFor P T old e new) (sym is.0) (
      record { closed = closed; closes = closes; sends = sends },
      is.1,
    )
