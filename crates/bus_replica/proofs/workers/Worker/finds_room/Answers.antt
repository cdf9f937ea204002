use Rattle.bus_automaton.specs.ThreeWordBuses.{process}
use Rattle.bus_replica.specs.Causes.{tells}
use Rattle.bus_replica.proofs.SendingLaws.{stay}
use Rattle.bus_replica.proofs.workers.Worker.finds_room.Goals as goal

pub returns-then-not-self-clause-puts : goal.returns-then-not-self-clause-puts
returns-then-not-self-clause-puts g c = stay process tells c.args.self.now.sender
