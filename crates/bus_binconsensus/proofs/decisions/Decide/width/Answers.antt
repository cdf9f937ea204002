use Rattle.std.proofs.Common.{ap, sym, ◌∙◌, ◌+◌, ◌*◌, ◌-◌}
use Rattle.bus_coinconc.specs.ConciliatorProtocol.{conciliator_protocol}
use Rattle.bus_binconsensus.proofs.RoundLaws.{width_of_rounds}
use Rattle.bus_binconsensus.proofs.decisions.Decide.width.Goals as goal

pub returns-clause-protocol : goal.returns-clause-protocol
returns-clause-protocol g c =
    ap (λ z. c.args.rounds * z + (c.args.rounds - 1) * c.width-2.result + 1) c.width.ensures
    ∙ ap (λ z. c.args.rounds * g.Q.Ratifier.protocol.width c.args.n + (c.args.rounds - 1) * z + 1)
    c.width-2.ensures
    ∙ sym (width_of_rounds g.Q.Ratifier.protocol conciliator_protocol c.args.n c.args.rounds)
