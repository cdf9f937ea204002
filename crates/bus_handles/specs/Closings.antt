-- Why an order has not ended by a close that was sent off at once.
use Rattle.std.specs.Prelude.{◌≡◌}
use Rattle.bus_batch.specs.Batches.{IsCloseFault}
use Rattle.bus_tenure.specs.declared.turns.Turn.TheVariants as turn
use Rattle.bus_automaton.specs.Processes.{Process}
use Rattle.bus_pageslot.specs.Seats.{SenderSeat}
use Rattle.bus_pageslot.specs.Sendings.{ClosesAndSends}
use Rattle.bus_pageslot.specs.Turns.{Tellings}
use Rattle.bus_handles.specs.declared.answers.OrderNotEnded.{OrderNotEnded}
use Rattle.bus_handles.specs.declared.answers.OrderNotEnded.TheVariants as why

-- The close was refused for this cause, and the sender stayed as it was; or it was taken, and
-- sending it was answered otherwise than that the order has ended.
abbrev pub NotEndedFor : {C : Type 0} → Process C → Tellings C → SenderSeat C → OrderNotEnded
    → SenderSeat C → Type 0
NotEndedFor P T old (why.Close fault) new =
    IsCloseFault (P.queue old.core) fault × (new.core ≡ old.core) × (new.seat ≡ old.seat)
NotEndedFor P T old (why.Turn answer) new =
    ClosesAndSends P T old answer new × (answer ≡ turn.Closed → ⊥)
