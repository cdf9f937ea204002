use Rattle.bus_coinconc.proofs.ConciliatorAnswers.{conciliator_goes_on}
use Rattle.bus_coinconc.proofs.laws.conciliator_goes_on_until_answered.Goals as goal

pub returns : goal.returns
returns c = conciliator_goes_on
