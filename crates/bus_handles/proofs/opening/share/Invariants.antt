use Rattle.std.proofs.Common.{◌≡◌, ◌++◌, All}
use Rattle.std.specs.Arc.{arc_value}
use Rattle.bus_handles.specs.Handles.{seats_of}
use Rattle.bus_handles.proofs.opening.share.Given as goal

abbrev pub invariant-loop-sender : goal.invariant-loop-sender
invariant-loop-sender g l =
    (arc_value l.bus ≡ l.fn.bus)
    × (l.sending.items ++ l.sender-iterator.rest.items ≡ l.fn.senders.items)

abbrev pub invariant-loop-tap : goal.invariant-loop-tap
invariant-loop-tap g l =
    (arc_value l.bus ≡ l.fn.bus) × (l.sending.items ≡ l.fn.senders.items)
    × (seats_of l.receiving.items ++ l.tap-iterator.rest.items ≡ l.fn.taps.items)
    × All (λ r. r.bus ≡ l.fn.bus) l.receiving.items
