use Rattle.bus_automaton.specs.ThreeWordBuses.{election, process}
use Rattle.bus_replica.specs.Causes.{tells}
use Rattle.bus_replica.proofs.SendingLaws.{finished_stays}
use Rattle.bus_replica.proofs.workers.Worker.end_tenure.Goals as goal

pub returns-clause-puts : goal.returns-clause-puts
returns-clause-puts g c =
    rw (← c.self.view_is)
    (finished_stays election process tells c.self.inside.sender c.finish.result c.finish.new.self
    c.finish.ensures.puts c.finish.ensures.none c.finish.ensures.finishes
    c.senders_stay_who_they_are.ensures.finishes)
