use Rattle.bus_run.specs.Audit.{OfOrder, CountsBelow}
use Rattle.bus_run.proofs.audits.first_miscount.Given as goal

abbrev pub invariant-loop-number : goal.invariant-loop-number
invariant-loop-number l = OfOrder l.ended (λ order. CountsBelow l.number order l.heard)
