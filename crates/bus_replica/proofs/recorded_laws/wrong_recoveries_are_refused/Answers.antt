use Rattle.bus_replica.proofs.RefusedRecoveries.{recoveries_refuse}
use Rattle.bus_replica.proofs.recorded_laws.wrong_recoveries_are_refused.Goals as goal

pub returns : goal.returns
returns c = recoveries_refuse
