use Rattle.bus_receiver.proofs.ForkRefusals.{forks_refuse}
use Rattle.bus_receiver.proofs.laws.forks_refuse.Goals as goal

pub returns : goal.returns
returns g c x e any = forks_refuse _ x e any
