use Rattle.bus_run.proofs.Refusing.{sender_refuses, telling_refuses}
use Rattle.bus_run.proofs.laws.senders_refuse.Goals as goal

pub returns-clause-sending : goal.returns-clause-sending
returns-clause-sending c = sender_refuses

pub returns-clause-telling : goal.returns-clause-telling
returns-clause-telling c = telling_refuses
