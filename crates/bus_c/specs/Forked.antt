-- What a handle holds once a receiver has forked.
use Rattle.std.specs.Prelude.{◌≡◌, ℕ, ◌⊎◌, Option, None, Result, Ok, Err}
use Rattle.bus_automaton.specs.ThreeWordBuses.{Held}
use Rattle.bus_handles.specs.Handles.{SeatOfBus}
use Rattle.bus_embed.specs.Calls.{Forks}
use Rattle.bus_embed.specs.declared.codes.TheConstants as code
use Rattle.bus_c.specs.declared.seats.ReceiverSeat.{ReceiverSeat}
use Rattle.bus_c.specs.Opened.{hears}

-- a handle holds this receiver, or is as it was, as memory was refused
abbrev pub IsHeld : SeatOfBus Held → ℕ → Option ReceiverSeat → Option ReceiverSeat → Type 0
IsHeld made answer held held' =
    ((answer ≡ code.OK) × (held' ≡ hears made)) ⊎ ((answer ≡ code.NO_MEMORY) × (held' ≡ held))

-- of an empty handle: it holds the receiver that was made, or is empty
abbrev pub HoldsForked : Result (SeatOfBus Held) ℕ → ℕ → Option ReceiverSeat → Type 0
HoldsForked (Ok made) answer joined = IsHeld made answer None joined
HoldsForked (Err fault) answer joined = (answer ≡ fault) × (joined ≡ None)

-- A receiver forked, and an empty handle holds what it made. Where memory for the handle was
-- refused, that was dropped.
pub record ForkAnswered (old : SeatOfBus Held) (answer : ℕ) (joined : Option ReceiverSeat)
    (new : SeatOfBus Held) : Type 0 where
  pub given : Result (SeatOfBus Held) ℕ
  pub forks : Forks old given new
  pub holds : HoldsForked given answer joined
