use Rattle.bus_replica.specs.Replicas.{LeadTo}
use Rattle.bus_replica.proofs.HistoryLaws.{linearizable}
use Rattle.bus_replica.proofs.RecordedLaws.{led_functions}
use Rattle.bus_replica.proofs.histories.histories_are_linearizable.Goals as goal

pub returns : goal.returns
returns g c = λ replayed first orders last calls F.
    linearizable (LeadTo g.S.State.is_first g.S.State.applies replayed) g.S.State.applies first
    orders last calls (led_functions g.S.State.is_first g.S.State.applies replayed F)
