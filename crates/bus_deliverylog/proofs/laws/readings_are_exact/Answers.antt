use Rattle.bus_deliverylog.proofs.FaultLaws.{whole_not_torn, whole_not_bad, torn_not_bad, one_first}
use Rattle.bus_deliverylog.proofs.laws.readings_are_exact.Goals as goal

pub returns-clause-whole : goal.returns-clause-whole
returns-clause-whole c = whole_not_torn

pub returns-clause-good : goal.returns-clause-good
returns-clause-good c = whole_not_bad

pub returns-clause-torn : goal.returns-clause-torn
returns-clause-torn c = torn_not_bad

pub returns-clause-first : goal.returns-clause-first
returns-clause-first c = one_first
