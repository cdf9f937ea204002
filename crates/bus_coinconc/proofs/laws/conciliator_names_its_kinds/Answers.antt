use Rattle.bus_coinconc.proofs.OwnKinds.{conciliator_own_kinds}
use Rattle.bus_coinconc.proofs.laws.conciliator_names_its_kinds.Goals as goal

pub returns : goal.returns
returns c = conciliator_own_kinds
