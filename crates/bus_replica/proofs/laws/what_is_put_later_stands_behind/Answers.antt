use Rattle.bus_automaton.specs.ThreeWordBuses.{process}
use Rattle.bus_replica.proofs.LaterLaws.{stands_behind}
use Rattle.bus_replica.proofs.laws.what_is_put_later_stands_behind.Goals as goal

pub returns : goal.returns
returns c = stands_behind process
