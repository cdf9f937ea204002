use Rattle.bus_automaton.specs.ThreeWordBuses.{process}
use Rattle.bus_replica.specs.Causes.{tells}
use Rattle.bus_replica.specs.Replicas.{LeadTo}
use Rattle.bus_replica.proofs.OwnLaws.{own_operation}
use Rattle.bus_replica.proofs.laws.own_operation_is_what_was_put.Goals as goal

pub returns : goal.returns
returns g c =
    λ x base log s h i j v old seat core trail notes state number bytes answer replayed.
    own_operation (LeadTo g.S.State.is_first g.S.State.applies replayed) g.S.State.applies
    process tells x base log s h i j v old seat core trail notes state number bytes answer
