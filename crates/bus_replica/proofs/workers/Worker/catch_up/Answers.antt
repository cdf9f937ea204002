use Rattle.bus_automaton.specs.ThreeWordBuses.{process}
use Rattle.bus_replica.specs.Causes.{tells}
use Rattle.bus_replica.proofs.SendingLaws.{told_stays}
use Rattle.bus_replica.proofs.workers.Worker.catch_up.Goals as goal

pub returns-clause-puts : goal.returns-clause-puts
returns-clause-puts g c =
    rw (← c.self.view_is)
    (told_stays process tells c.self.inside.sender c.catch_up.new.sender
    c.catch_up.ensures.sender.0 c.catch_up.ensures.sender.1 c.catch_up.ensures.bus.1)
