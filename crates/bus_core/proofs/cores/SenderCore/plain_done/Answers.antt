use Rattle.std.proofs.Common.{sym, ◌∙◌, ap, subst}
use Rattle.std.proofs.lemmas.Bool.{true≢false}
use Rattle.bus_tenure.specs.Elections.{Elector, election_with, elections}
use Rattle.bus_tenure.specs.Seen.{HoldsPublished}
use Rattle.bus_core.specs.Plain.{IsPlain, StoresPlain}
use Rattle.bus_core.specs.Keeping.{sender}
use Rattle.bus_core.specs.Senders.{Sender}
use Rattle.bus_core.specs.Table.{line_now}
use Rattle.bus_core.proofs.Kept.{keeps_line, Keeps}
use Rattle.bus_core.proofs.Plain.{plain_clearing, plain_cleared, plain_is_word, plain_worded}
use Rattle.bus_core.proofs.Plain.{plain_unpublished, plain_due, clear_behind, word_before}
use Rattle.bus_core.proofs.Plain.{word_some, word_behind}
use Rattle.bus_core.proofs.Reusing.Laws.{elections_keep}
use Rattle.bus_core.proofs.cores.SenderCore.plain_done.Goals as goal

pub clear-requires : goal.clear-requires
clear-requires g c s e =
    let X =
    election_with g.Q.Machine.kind_of g.Q.Machine.op g.Q.Machine.fed g.Q.Ratifier.protocol in
    let i = c.self.inside in
    let v : Sender (Elector g.row.Q.Denot) = record { core = i.turns; reuse = i.reuse } in
    plain_clearing X v (subst (IsPlain X) (sym c.self.view_is) c.requires.plain)
    (c.has_published.ensures.0 c.if-has_published.true) s e

pub returns-then-has_published-clause-state : goal.returns-then-has_published-clause-state
returns-then-has_published-clause-state g c got word =
    let X =
    election_with g.Q.Machine.kind_of g.Q.Machine.op g.Q.Machine.fed g.Q.Ratifier.protocol in
    let i = c.self.inside in
    let v : Sender (Elector g.row.Q.Denot) = record { core = i.turns; reuse = i.reuse } in
    plain_cleared X v (subst (IsPlain X) (sym c.self.view_is) c.requires.plain)
    (c.has_published.ensures.0 c.if-has_published.true) c.clear.new.reuse c.clear.ensures got word
    ∙ ap (λ y. (line_now X y).fed got word) c.self.view_is

pub invariant_of-self : goal.invariant_of-self
invariant_of-self g c =
    let P = g.Q.Ratifier.protocol in
    let X = election_with g.Q.Machine.kind_of g.Q.Machine.op g.Q.Machine.fed P in
    let law = elections_keep g.Q.Machine.kind_of g.Q.Machine.op g.Q.Machine.fed P
    g.met.Q.Ratifier.laws g.met.Q.Ratifier.wordless in
    let i = c.self.inside in
    let v : Sender (Elector g.row.Q.Denot) = record { core = i.turns; reuse = i.reuse } in
    let plain = subst (IsPlain X) (sym c.self.view_is) c.requires.plain in
    subst (Keeps X (λ x. (elections P x.rounds).width x.senders)
    (λ x me. (elections P x.rounds).Belongs x.senders me) law)
    (sym (plain_cleared X v plain (c.has_published.ensures.0 c.if-has_published.true)
    c.clear.new.reuse c.clear.ensures 0 0))
    (keeps_line X (λ x. (elections P x.rounds).width x.senders)
    (λ x me. (elections P x.rounds).Belongs x.senders me) law v 0 0 c.self.invariant
    (plain_due X v plain 0))

pub next_word-requires : goal.next_word-requires
next_word-requires g c =
    let X =
    election_with g.Q.Machine.kind_of g.Q.Machine.op g.Q.Machine.fed g.Q.Ratifier.protocol in
    let i = c.self.inside in
    let v : Sender (Elector g.row.Q.Denot) = record { core = i.turns; reuse = i.reuse } in
    let none : HoldsPublished i.turns.phase → ⊥ =
    λ h. true≢false (sym (c.has_published.ensures.1 h) ∙ c.if-has_published.false) in
    plain_is_word X v (subst (IsPlain X) (sym c.self.view_is) c.requires.plain) none

pub returns-then-has_published-clause-stores : goal.returns-then-has_published-clause-stores
returns-then-has_published-clause-stores g c is =
    let P = g.Q.Ratifier.protocol in
    let X = election_with g.Q.Machine.kind_of g.Q.Machine.op g.Q.Machine.fed P in
    let law = elections_keep g.Q.Machine.kind_of g.Q.Machine.op g.Q.Machine.fed P
    g.met.Q.Ratifier.laws g.met.Q.Ratifier.wordless in
    let i = c.self.inside in
    let v : Sender (Elector g.row.Q.Denot) = record { core = i.turns; reuse = i.reuse } in
    let plain = subst (IsPlain X) (sym c.self.view_is) c.requires.plain in
    let published = c.has_published.ensures.0 c.if-has_published.true in
    let kept = subst (Keeps X (λ x. (elections P x.rounds).width x.senders)
    (λ x me. (elections P x.rounds).Belongs x.senders me) law)
    (sym (plain_cleared X v plain published c.clear.new.reuse c.clear.ensures 0 0))
    (keeps_line X (λ x. (elections P x.rounds).width x.senders)
    (λ x me. (elections P x.rounds).Belongs x.senders me) law v 0 0 c.self.invariant
    (plain_due X v plain 0)) in
    let s = c.clears.ensures.clears is in
    subst (StoresPlain X (sender i.turns c.clear.new.reuse) c.clears.new.at) (sym s.4)
    (clear_behind X v _ _ plain published c.clear.new.reuse c.clear.ensures kept s.0 s.1 s.2 _ s.3)

pub returns-clause-stores : goal.returns-clause-stores
returns-clause-stores g c is =
    let X =
    election_with g.Q.Machine.kind_of g.Q.Machine.op g.Q.Machine.fed g.Q.Ratifier.protocol in
    let i = c.self.inside in
    let v : Sender (Elector g.row.Q.Denot) = record { core = i.turns; reuse = i.reuse } in
    let none : HoldsPublished i.turns.phase → ⊥ =
    λ h. true≢false (sym (c.has_published.ensures.1 h) ∙ c.if-has_published.false) in
    let stores =
    subst (λ y. StoresPlain X y c.args.at.now c.args.value.now) (sym c.self.view_is) c.requires in
    word_behind X v stores.plain none c.next_word.new.self c.next_word.new.value
    c.next_word.new.place (c.next_word.ensures.next c.if-not-next_word.false)
    (c.next_word.ensures.place c.if-not-next_word.false) c.log_word_behind.result
    c.log_word_behind.ensures

pub log_word_behind-requires-clause-some : goal.log_word_behind-requires-clause-some
log_word_behind-requires-clause-some g c =
    let X =
    election_with g.Q.Machine.kind_of g.Q.Machine.op g.Q.Machine.fed g.Q.Ratifier.protocol in
    let i = c.self.inside in
    let v : Sender (Elector g.row.Q.Denot) = record { core = i.turns; reuse = i.reuse } in
    let none : HoldsPublished i.turns.phase → ⊥ =
    λ h. true≢false (sym (c.has_published.ensures.1 h) ∙ c.if-has_published.false) in
    let stores =
    subst (λ y. StoresPlain X y c.args.at.now c.args.value.now) (sym c.self.view_is) c.requires in
    word_some X v stores.plain none c.next_word.new.self c.next_word.new.value
    (c.next_word.ensures.next c.if-not-next_word.false)

pub log_word_behind-requires-clause-behind : goal.log_word_behind-requires-clause-behind
log_word_behind-requires-clause-behind g c =
    let X =
    election_with g.Q.Machine.kind_of g.Q.Machine.op g.Q.Machine.fed g.Q.Ratifier.protocol in
    let i = c.self.inside in
    let v : Sender (Elector g.row.Q.Denot) = record { core = i.turns; reuse = i.reuse } in
    let none : HoldsPublished i.turns.phase → ⊥ =
    λ h. true≢false (sym (c.has_published.ensures.1 h) ∙ c.if-has_published.false) in
    let stores =
    subst (λ y. StoresPlain X y c.args.at.now c.args.value.now) (sym c.self.view_is) c.requires in
    word_before X v stores.plain none c.args.at.now c.args.value.now stores.step
    c.next_word.new.self c.next_word.ensures.state c.next_word.new.place
    (c.next_word.ensures.place c.if-not-next_word.false)

pub returns-then-not-next_word-clause-state : goal.returns-then-not-next_word-clause-state
returns-then-not-next_word-clause-state g c got word =
    let X =
    election_with g.Q.Machine.kind_of g.Q.Machine.op g.Q.Machine.fed g.Q.Ratifier.protocol in
    let i = c.self.inside in
    let v : Sender (Elector g.row.Q.Denot) = record { core = i.turns; reuse = i.reuse } in
    let none : HoldsPublished i.turns.phase → ⊥ =
    λ h. true≢false (sym (c.has_published.ensures.1 h) ∙ c.if-has_published.false) in
    plain_worded X v (subst (IsPlain X) (sym c.self.view_is) c.requires.plain) none
    c.next_word.new.self c.next_word.ensures.state got word
    ∙ ap (λ y. (line_now X y).fed got word) c.self.view_is

pub returns-then-not-next_word-clause-exact : goal.returns-then-not-next_word-clause-exact
returns-then-not-next_word-clause-exact g c next =
    let X =
    election_with g.Q.Machine.kind_of g.Q.Machine.op g.Q.Machine.fed g.Q.Ratifier.protocol in
    let i = c.self.inside in
    let v : Sender (Elector g.row.Q.Denot) = record { core = i.turns; reuse = i.reuse } in
    let none : HoldsPublished i.turns.phase → ⊥ =
    λ h. true≢false (sym (c.has_published.ensures.1 h) ∙ c.if-has_published.false) in
    let still = plain_unpublished X v (subst (IsPlain X) (sym c.self.view_is) c.requires.plain) none
    c.next_word.new.self c.next_word.ensures.state in
    absurd
    (true≢false
    (sym
    (c.next_word.ensures.exact (plain_is_word X (sender c.next_word.new.self i.reuse) next still))
    ∙ c.if-not-next_word.true))

pub invariant_of-self-then-not-next_word : goal.invariant_of-self-then-not-next_word
invariant_of-self-then-not-next_word g c =
    let P = g.Q.Ratifier.protocol in
    let X = election_with g.Q.Machine.kind_of g.Q.Machine.op g.Q.Machine.fed P in
    let law = elections_keep g.Q.Machine.kind_of g.Q.Machine.op g.Q.Machine.fed P
    g.met.Q.Ratifier.laws g.met.Q.Ratifier.wordless in
    let i = c.self.inside in
    let v : Sender (Elector g.row.Q.Denot) = record { core = i.turns; reuse = i.reuse } in
    let plain = subst (IsPlain X) (sym c.self.view_is) c.requires.plain in
    let none : HoldsPublished i.turns.phase → ⊥ =
    λ h. true≢false (sym (c.has_published.ensures.1 h) ∙ c.if-has_published.false) in
    subst (Keeps X (λ x. (elections P x.rounds).width x.senders)
    (λ x me. (elections P x.rounds).Belongs x.senders me) law)
    (sym (plain_worded X v plain none c.next_word.new.self c.next_word.ensures.state 0 0))
    (keeps_line X (λ x. (elections P x.rounds).width x.senders)
    (λ x me. (elections P x.rounds).Belongs x.senders me) law v 0 0 c.self.invariant
    (plain_due X v plain 0))

pub returns-clause-state : goal.returns-clause-state
returns-clause-state g c got word =
    let X =
    election_with g.Q.Machine.kind_of g.Q.Machine.op g.Q.Machine.fed g.Q.Ratifier.protocol in
    let i = c.self.inside in
    let v : Sender (Elector g.row.Q.Denot) = record { core = i.turns; reuse = i.reuse } in
    let none : HoldsPublished i.turns.phase → ⊥ =
    λ h. true≢false (sym (c.has_published.ensures.1 h) ∙ c.if-has_published.false) in
    plain_worded X v (subst (IsPlain X) (sym c.self.view_is) c.requires.plain) none
    c.next_word.new.self c.next_word.ensures.state got word
    ∙ ap (λ y. (line_now X y).fed got word) c.self.view_is

pub invariant_of-self-2 : goal.invariant_of-self-2
invariant_of-self-2 g c =
    let P = g.Q.Ratifier.protocol in
    let X = election_with g.Q.Machine.kind_of g.Q.Machine.op g.Q.Machine.fed P in
    let law = elections_keep g.Q.Machine.kind_of g.Q.Machine.op g.Q.Machine.fed P
    g.met.Q.Ratifier.laws g.met.Q.Ratifier.wordless in
    let i = c.self.inside in
    let v : Sender (Elector g.row.Q.Denot) = record { core = i.turns; reuse = i.reuse } in
    let plain = subst (IsPlain X) (sym c.self.view_is) c.requires.plain in
    let none : HoldsPublished i.turns.phase → ⊥ =
    λ h. true≢false (sym (c.has_published.ensures.1 h) ∙ c.if-has_published.false) in
    subst (Keeps X (λ x. (elections P x.rounds).width x.senders)
    (λ x me. (elections P x.rounds).Belongs x.senders me) law)
    (sym (plain_worded X v plain none c.next_word.new.self c.next_word.ensures.state 0 0))
    (keeps_line X (λ x. (elections P x.rounds).width x.senders)
    (λ x me. (elections P x.rounds).Belongs x.senders me) law v 0 0 c.self.invariant
    (plain_due X v plain 0))
