use Rattle.bus_automaton.specs.ThreeWordBuses.{process}
use Rattle.bus_replica.proofs.EndLaws.{equal_ends}
use Rattle.bus_replica.proofs.laws.finished_replicas_are_equal.Goals as goal

pub returns : goal.returns
returns c = equal_ends process
