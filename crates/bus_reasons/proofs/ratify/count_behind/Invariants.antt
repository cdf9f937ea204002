use Rattle.std.proofs.Common.{length}
use Rattle.bus_reasons.proofs.ratify.count_behind.Given as goal

abbrev pub decreases-loop-words : goal.decreases-loop-words
decreases-loop-words l = length l.words
