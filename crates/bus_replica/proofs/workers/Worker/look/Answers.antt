use Rattle.bus_automaton.specs.ThreeWordBuses.{automaton, process}
use Rattle.bus_replica.specs.Causes.{tells}
use Rattle.bus_replica.proofs.SendingLaws.{look_stays}
use Rattle.bus_replica.proofs.workers.Worker.look.Goals as goal

pub returns-clause-puts : goal.returns-clause-puts
returns-clause-puts g c =
    rw (← c.self.view_is)
    (look_stays process tells automaton c.self.inside.sender c.has_room.new.self c.has_room.result
    c.has_room.ensures.looked c.has_room.ensures.table)
