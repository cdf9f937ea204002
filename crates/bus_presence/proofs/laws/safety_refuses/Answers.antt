use Rattle.bus_presence.proofs.ReclamationLaws.{safety_refused}
use Rattle.bus_presence.proofs.laws.safety_refuses.Goals as goal

pub returns : goal.returns
returns c = safety_refused
