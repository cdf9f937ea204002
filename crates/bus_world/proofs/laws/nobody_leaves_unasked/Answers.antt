use Rattle.bus_world.proofs.Refused.{items_alone}
use Rattle.bus_world.proofs.laws.nobody_leaves_unasked.Goals as goal

pub returns : goal.returns
returns c = items_alone
