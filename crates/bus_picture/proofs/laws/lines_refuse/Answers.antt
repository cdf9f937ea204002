use Rattle.bus_picture.proofs.Refused.{left_out}
use Rattle.bus_picture.proofs.laws.lines_refuse.Goals as goal

pub returns : goal.returns
returns c = left_out
