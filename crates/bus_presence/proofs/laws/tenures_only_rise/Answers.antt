use Rattle.bus_presence.proofs.RowLaws.{tenures_rise}
use Rattle.bus_presence.proofs.laws.tenures_only_rise.Goals as goal

pub returns : goal.returns
returns c = tenures_rise
