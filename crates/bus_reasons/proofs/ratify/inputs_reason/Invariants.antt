use Rattle.std.proofs.Common.{length}
use Rattle.bus_reasons.proofs.ratify.inputs_reason.Given as goal

abbrev pub decreases-loop-word : goal.decreases-loop-word
decreases-loop-word l = length l.words
