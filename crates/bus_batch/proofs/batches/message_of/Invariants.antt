use Rattle.std.proofs.Common.{◌≡◌, ◌*◌, min, take}
use Rattle.std.specs.Int.{w64, to_be_bytes}
use Rattle.std.specs.List.{flat_map}
use Rattle.bus_batch.proofs.batches.message_of.Given as goal

abbrev pub invariant-loop-i : goal.invariant-loop-i
invariant-loop-i l =
    l.message ≡ take (min l.len (8 * l.i)) (flat_map (to_be_bytes w64) l.words)
