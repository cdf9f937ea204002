use Rattle.bus_machine.proofs.Refused.RefusalLaws.{losses_refused}
use Rattle.bus_machine.proofs.laws.losses_refuse.Goals as goal

pub returns : goal.returns
returns g c machine = losses_refused machine
