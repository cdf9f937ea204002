use Rattle.std.proofs.Common.{arith, sym, ◌∙◌}
use Rattle.bus_coinconc.specs.ConciliatorProtocol.{conciliator_protocol}
use Rattle.bus_binconsensus.specs.Objects.{decide_protocol}
use Rattle.bus_ownerbits.proofs.Owners.{byte_small, spelled_small, owner_some, owner_none}
use Rattle.bus_ownerbits.proofs.elections.Election.owner.Goals as goal

pub overflow_cast-result : goal.overflow_cast-result
overflow_cast-result g c =
    let e = c.from.ensures in
    let b = byte_small c.in-Some.bit in
    let s = spelled_small c.self.inside.spelled c.self.inside.left c.self.invariant.spells in
    omega arith

pub returns-in-Some : goal.returns-in-Some
returns-in-Some g c =
    owner_some (decide_protocol g.Q.Ratifier.protocol conciliator_protocol) _ _ c.self.view_is
    c.in-Propose.decision c.in-Propose.is
    c.in-Some.bit c.from.result (sym (c.decided.ensures c.self.inside.rounds) ∙ c.in-Some.is)
    c.from.ensures

pub returns-in-None : goal.returns-in-None
returns-in-None g c =
    owner_none (decide_protocol g.Q.Ratifier.protocol conciliator_protocol) _ _ c.self.view_is
    c.in-Propose.decision c.in-Propose.is
    (sym (c.decided.ensures c.self.inside.rounds) ∙ c.in-None.is)
