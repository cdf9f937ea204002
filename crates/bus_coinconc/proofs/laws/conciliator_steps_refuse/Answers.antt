use Rattle.bus_coinconc.proofs.ConciliatorRefusals.{refuses_steps}
use Rattle.bus_coinconc.proofs.laws.conciliator_steps_refuse.Goals as goal

pub returns : goal.returns
returns c = refuses_steps
