use Rattle.std.proofs.Common.{All, take}
use Rattle.bus_run.specs.Audit.{OfOrder, IsFair}
use Rattle.bus_run.proofs.audits.audit.Given as goal

abbrev pub invariant-loop-place : goal.invariant-loop-place
invariant-loop-place l = OfOrder l.ended (λ order. All (IsFair order) (take l.place l.heards))
