use Rattle.bus_coinconc.specs.ConciliatorProtocol.{conciliator_protocol}
use Rattle.bus_binconsensus.proofs.Shortcuts.{refuses_shortcuts}
use Rattle.bus_binconsensus.proofs.laws.decision_refuses.Goals as goal

pub returns : goal.returns
returns g c = refuses_shortcuts g.Q.Ratifier.protocol conciliator_protocol
