-- What a handle owns: nothing, or what a `Box` of its seat owns.
use Prim.Native.Nat.{ℕ, zero, suc}
use base.Fml.{Fml, fsep, feq, fex}
use denote.RawPtr.{Ptr}
use Rattle.std.specs.Prelude.{Option, Some, None}
use Rattle.std.specs.Box.Ownership.{box_owns}
use Rattle.std.specs.Global.{Global}
use Rattle.std.specs.contracts.impls.GlobalAllocator.TheImpl.{ghosts}
use Rattle.bus_c.specs.contracts.seats.SenderSeat as sender
use Rattle.bus_c.specs.contracts.seats.ReceiverSeat as receiver

abbrev pub sender_held : Global → ℕ → Ptr → Option sender.the_row.Denot → Fml
sender_held alloc zero p held = feq (Option sender.the_row.Denot) held None
sender_held alloc (suc n) p held = fex sender.the_row.Denot
    (λ x. fsep (feq (Option sender.the_row.Denot) held (Some x))
    (box_owns (ghosts.dealloc_token alloc) sender.the_row p x))

abbrev pub receiver_held : Global → ℕ → Ptr → Option receiver.the_row.Denot → Fml
receiver_held alloc zero p held = feq (Option receiver.the_row.Denot) held None
receiver_held alloc (suc n) p held = fex receiver.the_row.Denot
    (λ x. fsep (feq (Option receiver.the_row.Denot) held (Some x))
    (box_owns (ghosts.dealloc_token alloc) receiver.the_row p x))
