use Rattle.bus_automaton.specs.ThreeWordBuses.{automaton, process}
use Rattle.bus_replica.proofs.TimeLaws.{items_on}
use Rattle.bus_replica.proofs.laws.latest_is_latest.Goals as goal

pub returns : goal.returns
returns c = λ plan. items_on process (automaton plan)
