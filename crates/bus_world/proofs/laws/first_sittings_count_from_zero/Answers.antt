use Rattle.bus_world.proofs.Refused.{from_zero}
use Rattle.bus_world.proofs.laws.first_sittings_count_from_zero.Goals as goal

pub returns : goal.returns
returns c = from_zero
