use Rattle.bus_machine.proofs.Refused.ForkLaws.{fork_refused}
use Rattle.bus_machine.proofs.laws.fork_refuses.Goals as goal

pub returns : goal.returns
returns g c = fork_refused
