use Rattle.std.proofs.Common.{length}
use Rattle.bus_reasons.proofs.refusals.line_at.Given as goal

abbrev pub decreases-loop-line : goal.decreases-loop-line
decreases-loop-line l = length l.lines
