use Rattle.std.proofs.Common.{sym, ◌∙◌, ap, subst, is_some, unwrap_or}
use Rattle.bus_tenure.specs.Elections.{election_with, elections}
use Rattle.bus_tenure.specs.declared.turns.Turn.TheVariants as turn
use Rattle.bus_core.specs.Telling.{FeedTells}
use Rattle.bus_core.proofs.ElectionRows.{state_is, answer_is, goes_answer, goes_state, chosen_is}
use Rattle.bus_core.proofs.ElectionRows.{row_is}
use Rattle.bus_core.proofs.Kept.{keeps_line, Keeps}
use Rattle.bus_core.proofs.Reusing.Laws.{elections_keep}
use Rattle.bus_core.proofs.cores.SenderCore.elect_on.Goals as goal

pub invariant_of-self : goal.invariant_of-self
invariant_of-self g c =
    let P = g.Q.Ratifier.protocol in
    let X = election_with g.Q.Machine.kind_of g.Q.Machine.op g.Q.Machine.fed P in
    let law = elections_keep g.Q.Machine.kind_of g.Q.Machine.op g.Q.Machine.fed P
    g.met.Q.Ratifier.laws g.met.Q.Ratifier.wordless in
    let answer =
    sym (ap (λ y. unwrap_or y turn.Going) c.in_default.is) ∙ c.elect_on.ensures.answer in
    let state = goes_state X c.self.inside.turns c.self.inside.reuse c.args.got c.args.word
    c.args.tenure _ c.self.view_is c.requires.elects answer _ _ c.self.invariant c.elect_on.new.self
    c.elect_on.ensures.state in
    subst (Keeps X (λ x. (elections P x.rounds).width x.senders)
    (λ x me. (elections P x.rounds).Belongs x.senders me) law) (sym state)
    (keeps_line X (λ x. (elections P x.rounds).width x.senders)
    (λ x me. (elections P x.rounds).Belongs x.senders me) law _ c.args.got c.args.word
    (subst (Keeps X (λ x. (elections P x.rounds).width x.senders)
    (λ x me. (elections P x.rounds).Belongs x.senders me) law) c.self.view_is c.self.invariant)
    c.requires.due)

pub returns-in_default-clause-state : goal.returns-in_default-clause-state
returns-in_default-clause-state g c =
    let X =
    election_with g.Q.Machine.kind_of g.Q.Machine.op g.Q.Machine.fed g.Q.Ratifier.protocol in
    let answer =
    sym (ap (λ y. unwrap_or y turn.Going) c.in_default.is) ∙ c.elect_on.ensures.answer in
    goes_state X c.self.inside.turns c.self.inside.reuse c.args.got c.args.word c.args.tenure _
    c.self.view_is c.requires.elects answer _ _ c.self.invariant c.elect_on.new.self
    c.elect_on.ensures.state

pub returns-in_default-clause-tells : goal.returns-in_default-clause-tells
returns-in_default-clause-tells g c =
    let X =
    election_with g.Q.Machine.kind_of g.Q.Machine.op g.Q.Machine.fed g.Q.Ratifier.protocol in
    let answer =
    sym (ap (λ y. unwrap_or y turn.Going) c.in_default.is) ∙ c.elect_on.ensures.answer in
    subst (FeedTells X c.args.self.now c.args.got c.args.word)
    (sym (goes_answer X c.self.inside.turns c.self.inside.reuse c.args.got c.args.word c.args.tenure
    _ c.self.view_is c.requires.elects answer)) c.tells.ensures

pub returns-in_default-clause-row : goal.returns-in_default-clause-row
returns-in_default-clause-row g c t =
    let X =
    election_with g.Q.Machine.kind_of g.Q.Machine.op g.Q.Machine.fed g.Q.Ratifier.protocol in
    let answer =
    sym (ap (λ y. unwrap_or y turn.Going) c.in_default.is) ∙ c.elect_on.ensures.answer in
    row_is X c.self.inside.turns c.self.inside.reuse c.args.got c.args.word c.args.tenure _
    c.self.view_is c.requires.elects _
    (goes_state X c.self.inside.turns c.self.inside.reuse c.args.got c.args.word c.args.tenure _
    c.self.view_is c.requires.elects answer _ _ c.self.invariant c.elect_on.new.self
    c.elect_on.ensures.state) t

pub invariant_of-self-2 : goal.invariant_of-self-2
invariant_of-self-2 g c =
    let P = g.Q.Ratifier.protocol in
    let X = election_with g.Q.Machine.kind_of g.Q.Machine.op g.Q.Machine.fed P in
    let law = elections_keep g.Q.Machine.kind_of g.Q.Machine.op g.Q.Machine.fed P
    g.met.Q.Ratifier.laws g.met.Q.Ratifier.wordless in
    let answer =
    sym (ap (λ y. unwrap_or y turn.Going) c.in-Some.is) ∙ c.elect_on.ensures.answer in
    let state = state_is X c.self.inside.turns c.self.inside.reuse c.args.got c.args.word
    c.args.tenure _ c.self.view_is c.requires.elects c.elect_on.new.self c.in-Some.turn
    c.elected.new.reuse c.elect_on.ensures.state answer c.elected.ensures.state in
    subst (Keeps X (λ x. (elections P x.rounds).width x.senders)
    (λ x me. (elections P x.rounds).Belongs x.senders me) law) (sym state)
    (keeps_line X (λ x. (elections P x.rounds).width x.senders)
    (λ x me. (elections P x.rounds).Belongs x.senders me) law _ c.args.got c.args.word
    (subst (Keeps X (λ x. (elections P x.rounds).width x.senders)
    (λ x me. (elections P x.rounds).Belongs x.senders me) law) c.self.view_is c.self.invariant)
    c.requires.due)

pub returns-clause-state : goal.returns-clause-state
returns-clause-state g c =
    let X =
    election_with g.Q.Machine.kind_of g.Q.Machine.op g.Q.Machine.fed g.Q.Ratifier.protocol in
    let answer =
    sym (ap (λ y. unwrap_or y turn.Going) c.in-Some.is) ∙ c.elect_on.ensures.answer in
    state_is X c.self.inside.turns c.self.inside.reuse c.args.got c.args.word c.args.tenure _
    c.self.view_is c.requires.elects c.elect_on.new.self c.in-Some.turn c.elected.new.reuse
    c.elect_on.ensures.state answer c.elected.ensures.state

pub returns-clause-answer : goal.returns-clause-answer
returns-clause-answer g c =
    let X =
    election_with g.Q.Machine.kind_of g.Q.Machine.op g.Q.Machine.fed g.Q.Ratifier.protocol in
    let answer =
    sym (ap (λ y. unwrap_or y turn.Going) c.in-Some.is) ∙ c.elect_on.ensures.answer in
    c.elected.ensures.answer
    ∙ answer_is X c.self.inside.turns c.self.inside.reuse c.args.got c.args.word c.args.tenure _
    c.self.view_is c.requires.elects c.in-Some.turn answer

pub returns-clause-tells : goal.returns-clause-tells
returns-clause-tells g c =
    let X =
    election_with g.Q.Machine.kind_of g.Q.Machine.op g.Q.Machine.fed g.Q.Ratifier.protocol in
    let answer =
    sym (ap (λ y. unwrap_or y turn.Going) c.in-Some.is) ∙ c.elect_on.ensures.answer in
    subst (FeedTells X c.args.self.now c.args.got c.args.word)
    (sym (c.elected.ensures.answer
    ∙ answer_is X c.self.inside.turns c.self.inside.reuse c.args.got c.args.word c.args.tenure _
    c.self.view_is c.requires.elects c.in-Some.turn answer)) c.tells.ensures

pub returns-clause-ended : goal.returns-clause-ended
returns-clause-ended g c =
    let X =
    election_with g.Q.Machine.kind_of g.Q.Machine.op g.Q.Machine.fed g.Q.Ratifier.protocol in
    sym (ap is_some c.in-Some.is) ∙ c.elect_on.ensures.ended
    ∙ ap is_some (chosen_is X c.self.inside.turns c.self.inside.reuse c.args.got c.args.word
    c.args.tenure _ c.self.view_is c.requires.elects)

pub returns-clause-row : goal.returns-clause-row
returns-clause-row g c t =
    let X =
    election_with g.Q.Machine.kind_of g.Q.Machine.op g.Q.Machine.fed g.Q.Ratifier.protocol in
    let answer =
    sym (ap (λ y. unwrap_or y turn.Going) c.in-Some.is) ∙ c.elect_on.ensures.answer in
    row_is X c.self.inside.turns c.self.inside.reuse c.args.got c.args.word c.args.tenure _
    c.self.view_is c.requires.elects _
    (state_is X c.self.inside.turns c.self.inside.reuse c.args.got c.args.word c.args.tenure _
    c.self.view_is c.requires.elects c.elect_on.new.self c.in-Some.turn c.elected.new.reuse
    c.elect_on.ensures.state answer c.elected.ensures.state) t
