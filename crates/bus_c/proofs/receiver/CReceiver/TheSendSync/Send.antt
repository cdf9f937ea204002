-- A handle may cross threads, since what its pointer leads to may.
use Prim.Native.Nat.{ℕ, zero, suc}
use mir.Raw.{raw}
use base.Shift.{Keyless}
use denote.Memory.{lone}
use denote.RawPtr.{Ptr}
use denote.Struct.Struct.{exits_of}
use denote.Struct.Owning.{shape, fields, to}
use denote.Param.Send.{IsSend, AllSend, owning_send, struct_send, sendable}
use Rattle.std.proofs.Crossing as heap
use Rattle.std.specs.Prelude.{Option}
use Rattle.std.specs.Global.{Global}
use Rattle.std_alloc.proofs.SendSync.{quiet, lies}
use Rattle.std.proofs.alloc.Global.TheSendSync as handle
use Rattle.bus_c.specs.Held.{receiver_held}
use Rattle.bus_c.specs.contracts.seats.ReceiverSeat as Seat
use Rattle.bus_c.proofs.seats.ReceiverSeat.TheSendSync.{the_send as seat}
use Rattle.bus_c.specs.contracts.receiver.CReceiver.{the_row, the_type}

held : (a : Global) (n : ℕ) (p : Ptr) (s : Option Seat.the_row.Denot)
    → Keyless (receiver_held a n p s)
held a zero p s = tt
held a (suc n) p s =
    λ x. (tt, (lies Seat.the_row seat p x, heap.frees.frees a (raw (lone Seat.the_row.mir)) p))

pub send : IsSend the_row
send =
    let all : AllSend (fields the_type) = (
      search sendable,
      (handle.the_field_send, (search sendable, tt)),
    ) in
    owning_send the_type all (λ d. held d.alloc d.live d.at d.held)
    (λ k. quiet (to the_type) (exits_of k (fields the_type))
    ((struct_send (shape the_type) all).leaving k))
