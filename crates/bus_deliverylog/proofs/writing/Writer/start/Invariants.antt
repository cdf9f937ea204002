use Rattle.std.proofs.Common.{◌≡◌, take}
use Rattle.bus_batch.specs.Batches.{frame_of}
use Rattle.bus_batch.specs.Frames.{frame_words}
use Rattle.bus_deliverylog.proofs.writing.Writer.start.Given as goal

abbrev pub invariant-loop-i : goal.invariant-loop-i
invariant-loop-i l = l.frame.items ≡ take l.i (frame_words (frame_of l.batch l.tenure))
