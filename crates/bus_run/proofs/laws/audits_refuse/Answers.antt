use Rattle.bus_run.proofs.Refusing.{audit_refuses}
use Rattle.bus_run.proofs.laws.audits_refuse.Goals as goal

pub returns : goal.returns
returns c = audit_refuses
