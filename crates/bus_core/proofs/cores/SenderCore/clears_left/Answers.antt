use Rattle.std.proofs.Common.{◌≤◌, arith, sym, ◌∙◌, ap, subst}
use Rattle.std.specs.Prelude.{◌^◌}
use Rattle.bus_tenure.specs.Elections.{Elector, election_with, elections}
use Rattle.bus_core.specs.Plain.{IsPlain, StoresPlain, StoresRow, clears_from}
use Rattle.bus_core.specs.Senders.{Sender, situation, words_all}
use Rattle.bus_core.proofs.Reusing.Laws.{elections_keep}
use Rattle.bus_core.proofs.Rows.{clears_are, row_clears, row_within}
use Rattle.bus_core.proofs.cores.SenderCore.clears_left.Goals as goal

pub returns-clause-exact : goal.returns-clause-exact
returns-clause-exact g c =
    let P = g.Q.Ratifier.protocol in
    let X = election_with g.Q.Machine.kind_of g.Q.Machine.op g.Q.Machine.fed P in
    let law = elections_keep g.Q.Machine.kind_of g.Q.Machine.op g.Q.Machine.fed P
    g.met.Q.Ratifier.laws g.met.Q.Ratifier.wordless in
    let i = c.self.inside in
    let v : Sender (Elector g.row.Q.Denot) = record { core = i.turns; reuse = i.reuse } in
    clears_are X (λ x. (elections P x.rounds).width x.senders)
    (λ x me. (elections P x.rounds).Belongs x.senders me) law v c.self.invariant
    (c.has_published.ensures.0 c.if-not-has_published.false) c.clears_of.result c.clears_of.ensures
    (subst (IsPlain X) (sym c.self.view_is) c.requires)
    ∙ ap (λ y. clears_from (situation X y)) c.self.view_is

pub returns-clause-row : goal.returns-clause-row
returns-clause-row g c at value stores =
    let P = g.Q.Ratifier.protocol in
    let X = election_with g.Q.Machine.kind_of g.Q.Machine.op g.Q.Machine.fed P in
    let law = elections_keep g.Q.Machine.kind_of g.Q.Machine.op g.Q.Machine.fed P
    g.met.Q.Ratifier.laws g.met.Q.Ratifier.wordless in
    let i = c.self.inside in
    let v : Sender (Elector g.row.Q.Denot) = record { core = i.turns; reuse = i.reuse } in
    subst (λ y. StoresRow X y at (λ n. 0) c.clears_of.result) c.self.view_is
    (row_clears X (λ x. (elections P x.rounds).width x.senders)
    (λ x me. (elections P x.rounds).Belongs x.senders me) law v c.self.invariant
    (c.has_published.ensures.0 c.if-not-has_published.false) c.clears_of.result c.clears_of.ensures
    (subst (IsPlain X) (sym c.self.view_is) c.requires) at value
    (subst (λ y. StoresPlain X y at value) (sym c.self.view_is) stores))

pub returns-clause-room : goal.returns-clause-room
returns-clause-room g c at value stores =
    let P = g.Q.Ratifier.protocol in
    let X = election_with g.Q.Machine.kind_of g.Q.Machine.op g.Q.Machine.fed P in
    let law = elections_keep g.Q.Machine.kind_of g.Q.Machine.op g.Q.Machine.fed P
    g.met.Q.Ratifier.laws g.met.Q.Ratifier.wordless in
    let i = c.self.inside in
    let v : Sender (Elector g.row.Q.Denot) = record { core = i.turns; reuse = i.reuse } in
    let within = row_within X (λ x. (elections P x.rounds).width x.senders)
    (λ x me. (elections P x.rounds).Belongs x.senders me) law v c.self.invariant
    (c.has_published.ensures.0 c.if-not-has_published.false) c.clears_of.result c.clears_of.ensures
    (subst (IsPlain X) (sym c.self.view_is) c.requires) at value
    (subst (λ y. StoresPlain X y at value) (sym c.self.view_is) stores) in
    let few : words_all v ≤ 2 ^ 63 =
    subst (λ y. words_all y ≤ 2 ^ 63) (sym c.self.view_is) c.is_small.ensures in
    omega (arith, within, few)
