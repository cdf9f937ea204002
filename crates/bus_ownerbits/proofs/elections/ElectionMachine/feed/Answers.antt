use Rattle.std.proofs.Common.{sym, ◌∙◌}
use Rattle.bus_coinconc.specs.Conciliator.{conciliator_fed}
use Rattle.bus_coinconc.specs.ConciliatorProtocol.{conciliator_protocol}
use Rattle.bus_binconsensus.specs.Objects.{decide_fed, decide_protocol}
use Rattle.bus_ownerbits.proofs.Owners.{fed_none, fed_more}
use Rattle.bus_ownerbits.proofs.elections.ElectionMachine.feed.Goals as goal

pub returns-then-self-gt1 : goal.returns-then-self-gt1
returns-then-self-gt1 g c =
    fed_more (decide_protocol g.Q.Ratifier.protocol conciliator_protocol) _ _ c.self.view_is
    c.in-Propose.decision c.in-Propose.is
    (decide_fed g.Q.Ratifier.protocol conciliator_protocol g.Q.Machine.fed conciliator_fed)
    c.args.got c.args.word c.saturating_sub-self-inside.result c.feed.new.self c.feed.ensures
    c.saturating_sub-self-inside.ensures
    c.in-Some.bit c.take_bit.new.self c.seek.new.self
    (sym (c.decided.ensures c.self.inside.rounds) ∙ c.in-Some.is) c.if-self-gt1.true
    c.take_bit.ensures c.seek.ensures

pub returns-in_default : goal.returns-in_default
returns-in_default g c =
    fed_none (decide_protocol g.Q.Ratifier.protocol conciliator_protocol) _ _ c.self.view_is
    c.in-Propose.decision c.in-Propose.is
    (decide_fed g.Q.Ratifier.protocol conciliator_protocol g.Q.Machine.fed conciliator_fed)
    c.args.got c.args.word c.saturating_sub-self-inside.result c.feed.new.self c.feed.ensures
    c.saturating_sub-self-inside.ensures
    (sym (c.decided.ensures c.self.inside.rounds) ∙ c.in_default.is)
