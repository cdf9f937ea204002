use Rattle.bus_coinconc.specs.Conciliator.{conciliator_op, conciliator_fed}
use Rattle.bus_coinconc.specs.ConciliatorProtocol.{conciliator_protocol}
use Rattle.bus_binconsensus.specs.Objects.{decide_op, decide_fed}
use Rattle.bus_binconsensus.specs.Decisions.{decisions}
use Rattle.bus_ownerbits.specs.Election.{election_op, election_fed}
use Rattle.bus_ownerbits.specs.Electors.{elections}
use Rattle.bus_ownerbits.specs.OneOwner.{OneOwner}
use Rattle.bus_presence.proofs.RowLaws.{tenures_apart}
use Rattle.bus_presence.proofs.laws.elections_are_apart.Goals as goal

pub returns : goal.returns
returns g c rounds x two few wide h T L played =
    let P = g.Q.Ratifier.protocol in
    let op = election_op (decide_op g.Q.Machine.op conciliator_op) in
    let fed = election_fed (decisions P)
    (decide_fed P conciliator_protocol g.Q.Machine.fed conciliator_fed) in
    tenures_apart op fed (elections P rounds) OneOwner
    (c.election_is_lawful.ensures.lawful.laws rounds) x two few wide h T L played
