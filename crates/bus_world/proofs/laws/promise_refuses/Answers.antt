use Rattle.bus_world.proofs.Refused.{refuses}
use Rattle.bus_world.proofs.laws.promise_refuses.Goals as goal

pub returns : goal.returns
returns c = refuses
