use Rattle.std.proofs.Common.{sym, ◌∙◌, ap, subst, IsSome}
use Rattle.bus_tenure.specs.Elections.{election_with, elections}
use Rattle.bus_core.specs.Loading.{KeepsFloor}
use Rattle.bus_core.specs.Table.{line_now}
use Rattle.bus_core.specs.Telling.{FeedTells}
use Rattle.bus_core.proofs.Kept.{keeps_line, Keeps}
use Rattle.bus_core.proofs.Reusing.Laws.{elections_keep}
use Rattle.bus_core.proofs.cores.SenderCore.feed_of.Goals as goal

pub feed_parts-requires-clause-due : goal.feed_parts-requires-clause-due
feed_parts-requires-clause-due g c =
    let X =
    election_with g.Q.Machine.kind_of g.Q.Machine.op g.Q.Machine.fed g.Q.Ratifier.protocol in
    subst (λ y. IsSome ((line_now X y).op c.args.word)) (sym c.self.view_is) c.requires.due

pub invariant_of-self : goal.invariant_of-self
invariant_of-self g c =
    let P = g.Q.Ratifier.protocol in
    let X = election_with g.Q.Machine.kind_of g.Q.Machine.op g.Q.Machine.fed P in
    let law = elections_keep g.Q.Machine.kind_of g.Q.Machine.op g.Q.Machine.fed P
    g.met.Q.Ratifier.laws g.met.Q.Ratifier.wordless in
    let due =
    subst (λ y. IsSome ((line_now X y).op c.args.word)) (sym c.self.view_is) c.requires.due in
    subst (Keeps X (λ x. (elections P x.rounds).width x.senders)
    (λ x me. (elections P x.rounds).Belongs x.senders me) law) (sym c.feed_parts.ensures.state)
    (keeps_line X (λ x. (elections P x.rounds).width x.senders)
    (λ x me. (elections P x.rounds).Belongs x.senders me) law _ c.args.got c.args.word
    c.self.invariant due)

pub returns-clause-state : goal.returns-clause-state
returns-clause-state g c =
    let X =
    election_with g.Q.Machine.kind_of g.Q.Machine.op g.Q.Machine.fed g.Q.Ratifier.protocol in
    c.feed_parts.ensures.state ∙ ap (λ y. (line_now X y).fed c.args.got c.args.word) c.self.view_is

pub returns-clause-answer : goal.returns-clause-answer
returns-clause-answer g c =
    let X =
    election_with g.Q.Machine.kind_of g.Q.Machine.op g.Q.Machine.fed g.Q.Ratifier.protocol in
    c.feed_parts.ensures.answer
    ∙ ap (λ y. (line_now X y).answer c.args.got c.args.word) c.self.view_is

pub returns-clause-tells : goal.returns-clause-tells
returns-clause-tells g c =
    let X =
    election_with g.Q.Machine.kind_of g.Q.Machine.op g.Q.Machine.fed g.Q.Ratifier.protocol in
    subst (FeedTells X c.args.self.now c.args.got c.args.word)
    (sym (c.feed_parts.ensures.answer
    ∙ ap (λ y. (line_now X y).answer c.args.got c.args.word) c.self.view_is)) c.tells.ensures

pub returns-clause-floor : goal.returns-clause-floor
returns-clause-floor g c =
    let X =
    election_with g.Q.Machine.kind_of g.Q.Machine.op g.Q.Machine.fed g.Q.Ratifier.protocol in
    subst (KeepsFloor X c.args.self.now c.args.got) (sym (c.feed_parts.ensures.state
    ∙ ap (λ y. (line_now X y).fed c.args.got c.args.word) c.self.view_is)) c.keeps_floor.ensures

pub returns-clause-full : goal.returns-clause-full
returns-clause-full g c full =
    let X =
    election_with g.Q.Machine.kind_of g.Q.Machine.op g.Q.Machine.fed g.Q.Ratifier.protocol in
    c.loads_first.ensures (sym (c.feed_parts.ensures.answer
    ∙ ap (λ y. (line_now X y).answer c.args.got c.args.word) c.self.view_is) ∙ full)
