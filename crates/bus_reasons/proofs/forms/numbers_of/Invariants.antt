use Rattle.std.proofs.Common.{length}
use Rattle.bus_reasons.proofs.forms.numbers_of.Given as goal

abbrev pub decreases-loop-word : goal.decreases-loop-word
decreases-loop-word l = length l.words
