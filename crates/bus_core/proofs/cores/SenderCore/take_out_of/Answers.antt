use Rattle.std.proofs.Common.{sym, ◌∙◌, ap, subst, Some}
use Rattle.bus_tenure.specs.Elections.{Elector, election_with, elections}
use Rattle.bus_core.specs.Doings.{ending_of, step_of}
use Rattle.bus_core.specs.Keeping.{page_out}
use Rattle.bus_core.specs.Senders.{Sender, situation}
use Rattle.bus_core.specs.Table.{line}
use Rattle.bus_core.proofs.Kept.{keeps_out, Keeps}
use Rattle.bus_core.proofs.Stepped.{none_out, some_out, handed_step}
use Rattle.bus_core.proofs.Reusing.Laws.{elections_keep}
use Rattle.bus_core.proofs.cores.SenderCore.take_out_of.Goals as goal

pub returns-in-None-clause-page : goal.returns-in-None-clause-page
returns-in-None-clause-page g c =
    let X =
    election_with g.Q.Machine.kind_of g.Q.Machine.op g.Q.Machine.fed g.Q.Ratifier.protocol in
    let w = c.args.self.now in
    sym (none_out X w (situation X w)
    (ap ending_of c.requires ∙ sym c.ending_of.ensures ∙ c.in-None.is)).0

pub returns-in-None-clause-state : goal.returns-in-None-clause-state
returns-in-None-clause-state g c =
    let X =
    election_with g.Q.Machine.kind_of g.Q.Machine.op g.Q.Machine.fed g.Q.Ratifier.protocol in
    let w = c.args.self.now in
    ap (λ y. record w { core = y })
    (sym (none_out X w (situation X w)
    (ap ending_of c.requires ∙ sym c.ending_of.ensures ∙ c.in-None.is)).1)

pub returns-in-Some-clause-page : goal.returns-in-Some-clause-page
returns-in-Some-clause-page g c =
    let X =
    election_with g.Q.Machine.kind_of g.Q.Machine.op g.Q.Machine.fed g.Q.Ratifier.protocol in
    let i = c.self.inside in
    let v : Sender (Elector g.row.Q.Denot) = record { core = i.turns; reuse = i.reuse } in
    let e = some_out X v c.in-Some.field-0 (ap (λ y. ending_of (step_of (situation X y)))
    c.self.view_is ∙ ap ending_of c.requires ∙ sym c.ending_of.ensures ∙ c.in-Some.is) in
    ap Some (c.hand.ensures.page e.0 e.2) ∙ sym (ap (λ z. page_out (line X v z).move) e.1)
    ∙ ap (λ y. page_out (line X y (situation X y)).move) c.self.view_is

pub invariant_of-self : goal.invariant_of-self
invariant_of-self g c =
    let P = g.Q.Ratifier.protocol in
    let X = election_with g.Q.Machine.kind_of g.Q.Machine.op g.Q.Machine.fed P in
    let law = elections_keep g.Q.Machine.kind_of g.Q.Machine.op g.Q.Machine.fed P
    g.met.Q.Ratifier.laws g.met.Q.Ratifier.wordless in
    let i = c.self.inside in
    let v : Sender (Elector g.row.Q.Denot) = record { core = i.turns; reuse = i.reuse } in
    let e = some_out X v c.in-Some.field-0 (ap (λ y. ending_of (step_of (situation X y)))
    c.self.view_is ∙ ap ending_of c.requires ∙ sym c.ending_of.ensures ∙ c.in-Some.is) in
    subst (λ y. Keeps X (λ x. (elections P x.rounds).width x.senders)
    (λ x me. (elections P x.rounds).Belongs x.senders me) law
    (record { core = y; reuse = i.reuse })) (sym c.hand.ensures.state)
    (keeps_out X (λ x. (elections P x.rounds).width x.senders)
    (λ x me. (elections P x.rounds).Belongs x.senders me) law v c.self.invariant
    c.in-Some.field-0.tenure e.0 c.in-Some.field-0.reason e.2 e.1)

pub returns-in-Some-clause-due : goal.returns-in-Some-clause-due
returns-in-Some-clause-due g c =
    let X =
    election_with g.Q.Machine.kind_of g.Q.Machine.op g.Q.Machine.fed g.Q.Ratifier.protocol in
    let i = c.self.inside in
    let v : Sender (Elector g.row.Q.Denot) = record { core = i.turns; reuse = i.reuse } in
    let e = some_out X v c.in-Some.field-0 (ap (λ y. ending_of (step_of (situation X y)))
    c.self.view_is ∙ ap ending_of c.requires ∙ sym c.ending_of.ensures ∙ c.in-Some.is) in
    ap (λ y. step_of (situation X (record { core = y; reuse = i.reuse }))) c.hand.ensures.state
    ∙ handed_step X v c.in-Some.field-0.tenure e.0 c.in-Some.field-0.reason e.1 e.2
