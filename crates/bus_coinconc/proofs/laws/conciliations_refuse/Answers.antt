use Rattle.bus_coinconc.proofs.ConciliatorRefusals.{other_value, disagrees, unbrought}
use Rattle.bus_coinconc.proofs.laws.conciliations_refuse.Goals as goal

pub returns-clause-other_value : goal.returns-clause-other_value
returns-clause-other_value c = other_value

pub returns-clause-disagrees : goal.returns-clause-disagrees
returns-clause-disagrees c = disagrees

pub returns-clause-unbrought : goal.returns-clause-unbrought
returns-clause-unbrought c = unbrought
