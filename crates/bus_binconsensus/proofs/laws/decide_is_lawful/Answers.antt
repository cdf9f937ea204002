use Rattle.std.proofs.Common.{refl}
use Rattle.bus_coinconc.specs.Conciliation.{Conciles}
use Rattle.bus_coinconc.specs.Conciliator.{conciliator_op, conciliator_fed}
use Rattle.bus_coinconc.proofs.ConciliatorLaws.{conciliator_laws}
use Rattle.bus_coinconc.specs.ConciliatorProtocol.{conciliator_protocol}
use Rattle.bus_binconsensus.proofs.DecideIsLawful.{decide_law}
use Rattle.bus_binconsensus.proofs.laws.decide_is_lawful.Goals as goal

pub returns : goal.returns
returns g c =
    decide_law g.Q.Machine.op g.Q.Machine.fed g.Q.Ratifier.protocol g.met.Q.Ratifier.laws
    g.met.Q.Ratifier.wordless
    conciliator_op conciliator_fed conciliator_protocol Conciles conciliator_laws
    (λ ins outs o. o.valid) (λ n. refl)
