use Rattle.bus_coinconc.proofs.ConciliatorLaws.{conciliator_laws}
use Rattle.bus_coinconc.proofs.laws.conciliator_is_lawful.Goals as goal

pub returns : goal.returns
returns c = conciliator_laws
