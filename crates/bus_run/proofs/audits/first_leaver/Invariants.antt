use Rattle.bus_run.specs.Audit.{OfOrder, StayBelow}
use Rattle.bus_run.proofs.audits.first_leaver.Given as goal

abbrev pub invariant-loop-number : goal.invariant-loop-number
invariant-loop-number l = OfOrder l.ended (λ order. StayBelow l.number order)
