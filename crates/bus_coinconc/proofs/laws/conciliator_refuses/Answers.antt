use Rattle.bus_coinconc.proofs.ConciliatorRefusals.{refuses_trails}
use Rattle.bus_coinconc.proofs.laws.conciliator_refuses.Goals as goal

pub returns : goal.returns
returns c = refuses_trails
