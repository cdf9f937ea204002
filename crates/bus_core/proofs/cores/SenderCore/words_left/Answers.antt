use Rattle.std.proofs.Common.{◌≡◌, ◌+◌, ◌-◌, get_or, length, take, arith, sym, ◌∙◌, ap, subst}
use Rattle.std.proofs.lemmas.Bool.{true≢false}
use Rattle.bus_tenure.specs.Doings.{doing_of, words_of_messages, left_behind}
use Rattle.bus_tenure.specs.Elections.{Elector, election_with, elections}
use Rattle.bus_tenure.specs.Seen.{HoldsPublished}
use Rattle.bus_tenure.specs.Situations.{StoresWord}
use Rattle.bus_core.specs.Plain.{StoresPlain, StoresWords, StoresRow}
use Rattle.bus_core.specs.Senders.{Sender, Does, situation, log_start, words_all}
use Rattle.bus_core.proofs.FrameRows.{asked_words, asked_row}
use Rattle.bus_core.proofs.Plain.{plain_is_word}
use Rattle.bus_core.proofs.Reusing.Laws.{elections_keep}
use Rattle.bus_core.proofs.Situated.{own_is}
use Rattle.bus_core.proofs.cores.SenderCore.words_left.Goals as goal

pub words_left-requires : goal.words_left-requires
words_left-requires g c =
    let P = g.Q.Ratifier.protocol in
    let X = election_with g.Q.Machine.kind_of g.Q.Machine.op g.Q.Machine.fed P in
    let law = elections_keep g.Q.Machine.kind_of g.Q.Machine.op g.Q.Machine.fed P
    g.met.Q.Ratifier.laws g.met.Q.Ratifier.wordless in
    let i = c.self.inside in
    let v : Sender (Elector g.row.Q.Denot) = record { core = i.turns; reuse = i.reuse } in
    let none : HoldsPublished i.turns.phase → ⊥ =
    λ h. true≢false (sym (c.has_published.ensures.1 h) ∙ c.if-has_published.false) in
    let value = c.requires.0 in
    let stores = subst (λ y. StoresPlain X y c.args.at value) (sym c.self.view_is) c.requires.1 in
    plain_is_word X v stores.plain none

pub returns-clause-exact : goal.returns-clause-exact
returns-clause-exact g c t page stored at =
    let P = g.Q.Ratifier.protocol in
    let X = election_with g.Q.Machine.kind_of g.Q.Machine.op g.Q.Machine.fed P in
    let law = elections_keep g.Q.Machine.kind_of g.Q.Machine.op g.Q.Machine.fed P
    g.met.Q.Ratifier.laws g.met.Q.Ratifier.wordless in
    let i = c.self.inside in
    let v : Sender (Elector g.row.Q.Denot) = record { core = i.turns; reuse = i.reuse } in
    let none : HoldsPublished i.turns.phase → ⊥ =
    λ h. true≢false (sym (c.has_published.ensures.1 h) ∙ c.if-has_published.false) in
    let value = c.requires.0 in
    let stores = subst (λ y. StoresPlain X y c.args.at value) (sym c.self.view_is) c.requires.1 in
    let from = c.log_start.ensures.at
    ∙ ap (λ (y : Sender (Elector g.row.Q.Denot)). log_start y.core.layout y.reuse)
    (sym c.self.view_is) in
    let is = c.capacity.ensures.is in
    let below = stores.below in
    let log : words_all v ≡ c.args.at + (c.log_start.result + c.capacity.result - c.args.at) =
    omega (arith, from, is, below) in
    let room : c.log_start.result + c.capacity.result - c.args.at ≡ words_all v - c.args.at =
    omega (arith, log) in
    let here : situation X v ≡ Does (StoresWord t page stored) =
    ap (situation X) c.self.view_is ∙ at
    in
    c.at_most-2.ensures.first
    ∙ ap (take c.args.most)
    (c.at_most.ensures.first
    ∙ ap (λ n. take n c.words_left.result.now) room
    ∙ ap (take (words_all v - c.args.at))
    (c.words_left.ensures.exact t page.words stored
    (ap doing_of (own_is X v (StoresWord t page stored) here))))
    ∙ ap (λ (y : Sender (Elector g.row.Q.Denot)).
    take c.args.most (take (words_all y - c.args.at)
    (left_behind stored (words_of_messages y.core))))
    c.self.view_is

pub returns-clause-some : goal.returns-clause-some
returns-clause-some g c some =
    let P = g.Q.Ratifier.protocol in
    let X = election_with g.Q.Machine.kind_of g.Q.Machine.op g.Q.Machine.fed P in
    let law = elections_keep g.Q.Machine.kind_of g.Q.Machine.op g.Q.Machine.fed P
    g.met.Q.Ratifier.laws g.met.Q.Ratifier.wordless in
    let i = c.self.inside in
    let v : Sender (Elector g.row.Q.Denot) = record { core = i.turns; reuse = i.reuse } in
    let none : HoldsPublished i.turns.phase → ⊥ =
    λ h. true≢false (sym (c.has_published.ensures.1 h) ∙ c.if-has_published.false) in
    let value = c.requires.0 in
    let stores = subst (λ y. StoresPlain X y c.args.at value) (sym c.self.view_is) c.requires.1 in
    let from = c.log_start.ensures.at
    ∙ ap (λ (y : Sender (Elector g.row.Q.Denot)). log_start y.core.layout y.reuse)
    (sym c.self.view_is) in
    let is = c.capacity.ensures.is in
    let below = stores.below in
    let log : words_all v ≡ c.args.at + (c.log_start.result + c.capacity.result - c.args.at) =
    omega (arith, from, is, below) in
    subst (λ y. StoresWords X y (length c.at_most-2.result.now)) c.self.view_is
    (asked_words X (λ x. (elections P x.rounds).width x.senders)
    (λ x me. (elections P x.rounds).Belongs x.senders me) law v c.self.invariant none c.args.at
    value stores c.words_left.result.now c.at_most.result.now c.at_most-2.result.now
    (c.log_start.result + c.capacity.result - c.args.at) c.args.most c.words_left.ensures.next
    c.words_left.ensures.room log c.at_most.ensures.first c.at_most.ensures.few
    c.at_most-2.ensures.first c.at_most-2.ensures.short)

pub returns-clause-row : goal.returns-clause-row
returns-clause-row g c =
    let P = g.Q.Ratifier.protocol in
    let X = election_with g.Q.Machine.kind_of g.Q.Machine.op g.Q.Machine.fed P in
    let law = elections_keep g.Q.Machine.kind_of g.Q.Machine.op g.Q.Machine.fed P
    g.met.Q.Ratifier.laws g.met.Q.Ratifier.wordless in
    let i = c.self.inside in
    let v : Sender (Elector g.row.Q.Denot) = record { core = i.turns; reuse = i.reuse } in
    let none : HoldsPublished i.turns.phase → ⊥ =
    λ h. true≢false (sym (c.has_published.ensures.1 h) ∙ c.if-has_published.false) in
    let value = c.requires.0 in
    let stores = subst (λ y. StoresPlain X y c.args.at value) (sym c.self.view_is) c.requires.1 in
    let from = c.log_start.ensures.at
    ∙ ap (λ (y : Sender (Elector g.row.Q.Denot)). log_start y.core.layout y.reuse)
    (sym c.self.view_is) in
    let is = c.capacity.ensures.is in
    let below = stores.below in
    let log : words_all v ≡ c.args.at + (c.log_start.result + c.capacity.result - c.args.at) =
    omega (arith, from, is, below) in
    let asked = c.at_most-2.result.now in
    subst (λ y. StoresRow X y c.args.at (λ n. get_or asked n 0) (length asked)) c.self.view_is
    (asked_row X (λ x. (elections P x.rounds).width x.senders)
    (λ x me. (elections P x.rounds).Belongs x.senders me) law v c.self.invariant none c.args.at
    value stores c.words_left.result.now c.at_most.result.now c.at_most-2.result.now
    (c.log_start.result + c.capacity.result - c.args.at) c.args.most c.words_left.ensures.next
    c.words_left.ensures.room log c.at_most.ensures.first c.at_most.ensures.few
    c.at_most-2.ensures.first c.at_most-2.ensures.short)
