use Rattle.bus_automaton.specs.ThreeWordBuses.{process}
use Rattle.bus_replica.specs.Replicas.{LeadTo}
use Rattle.bus_replica.proofs.OrderLaws.{follows}
use Rattle.bus_replica.proofs.laws.replicas_follow_one_order.Goals as goal

pub returns : goal.returns
returns g c = λ x base log s h j v state replayed.
    follows (LeadTo g.S.State.is_first g.S.State.applies replayed) g.S.State.applies
    process x base log s h j v state
