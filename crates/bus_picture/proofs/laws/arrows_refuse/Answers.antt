use Rattle.bus_picture.proofs.Refused.{refuses}
use Rattle.bus_picture.proofs.laws.arrows_refuse.Goals as goal

pub returns : goal.returns
returns c = refuses
