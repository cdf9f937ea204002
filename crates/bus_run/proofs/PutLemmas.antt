-- What a sender has put, and one message more.
use Rattle.std.proofs.Common.{◌≡◌, ℕ, List, [], ap}
use Rattle.std.specs.Prelude.{All}
use Rattle.std.proofs.lemmas.Option.{slice_get-get_or}
use Rattle.atomic_table.specs.Seated.{TableId}
use Rattle.bus_world.specs.Headline.{puts}
use Rattle.bus_pageslot.specs.Buses.{AreNewSeats}
use Rattle.bus_automaton.specs.Processes.{Process, Automaton}
use Rattle.bus_pageslot.specs.Seats.{SenderSeat, actions_of}
use Rattle.bus_automaton.specs.SenderTrails.{SenderTrail}

-- new senders have put nothing
pub none_put : {C : Type 0} (P : Process C) (A : Automaton C) (table : TableId) (many : ℕ)
    (senders : List (SenderSeat C)) → AreNewSeats P A table many senders
    → All (λ s. puts (actions_of P s) ≡ []) senders
none_put P A table many senders h k d l = ap (λ (t : SenderTrail). puts t.actions)
    (h.each k _ (slice_get-get_or senders k d l)).sender_trail
