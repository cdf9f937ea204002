use Rattle.bus_automaton.specs.ThreeWordBuses.{automaton, process}
use Rattle.bus_replica.specs.Causes.{tells}
use Rattle.bus_replica.specs.Replicas.{LeadTo}
use Rattle.bus_replica.proofs.TableLaws.{table_histories}
use Rattle.bus_replica.proofs.RecordedLaws.{led_functions}
use Rattle.bus_replica.proofs.histories.replicas_have_linearizable_histories.Goals as goal

pub returns : goal.returns
returns g c = λ plan replayed first moments last calls F.
    table_histories (LeadTo g.S.State.is_first g.S.State.applies replayed) g.S.State.applies process
    tells (automaton plan) c.threads_may_go_by.ensures.process
    (c.threads_may_go_by.ensures.automaton plan)
    (λ m. c.seats_keep_promises.ensures plan m.table m.rule) first moments last calls
    (led_functions g.S.State.is_first g.S.State.applies replayed F)
