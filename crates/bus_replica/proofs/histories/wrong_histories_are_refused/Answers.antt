use Rattle.bus_replica.proofs.RefusedHistories.{accepted, refused}
use Rattle.bus_replica.proofs.histories.wrong_histories_are_refused.Goals as goal

pub returns : goal.returns
returns c = record { refuses = refused; accepts = accepted }
