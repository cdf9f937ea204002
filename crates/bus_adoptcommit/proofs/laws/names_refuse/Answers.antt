use Rattle.bus_adoptcommit.proofs.Names.{refuses_names}
use Rattle.bus_adoptcommit.proofs.laws.names_refuse.Goals as goal

pub returns : goal.returns
returns c = refuses_names
