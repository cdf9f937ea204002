use Rattle.std.proofs.Common.{ℕ, ◌<◌, slice_index}
use Rattle.bus_machine.proofs.shapes.are_low.Given as goal

abbrev pub invariant-loop-sender : goal.invariant-loop-sender
invariant-loop-sender l = (s : ℕ) → s < l.sender → slice_index l.next s < l.below
