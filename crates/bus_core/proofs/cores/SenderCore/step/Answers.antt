use Rattle.std.proofs.Common.{sym, ◌∙◌, ap}
use Rattle.bus_tenure.specs.Doings.{doing_of}
use Rattle.bus_tenure.specs.Elections.{Elector, election_with}
use Rattle.bus_tenure.specs.Situations.{situation_of}
use Rattle.bus_core.specs.Doings.{asks_first}
use Rattle.bus_core.specs.Senders.{Sender}
use Rattle.bus_core.proofs.Situated.{home_seen}
use Rattle.bus_core.proofs.cores.SenderCore.step.Goals as goal

pub returns-else-asks_passed : goal.returns-else-asks_passed
returns-else-asks_passed g c =
    let X =
    election_with g.Q.Machine.kind_of g.Q.Machine.op g.Q.Machine.fed g.Q.Ratifier.protocol in
    let v = c.args.self.now in
    let r = c.in-Some.reuse in
    c.home_step.ensures
    ∙ home_seen X v r
    (ap (λ (y : Sender (Elector g.row.Q.Denot)). y.reuse) (sym c.self.view_is) ∙ c.in-Some.is)
    c.in-Away.is
    (ap (asks_first v.core.layout.passers r.passed)
    (sym (c.doing-doing.ensures
    ∙ ap (λ (y : Sender (Elector g.row.Q.Denot)). doing_of (situation_of X y.core)) c.self.view_is))
    ∙ sym c.asks_passed.ensures ∙ c.if-asks_passed.false)
