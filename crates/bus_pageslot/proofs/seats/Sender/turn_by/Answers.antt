use Rattle.std.proofs.Common.{◌≡◌, ◌<◌, inl, inr, Some, None, IfSome, refl, sym, ◌∙◌, ap, subst}
use Rattle.bus_automaton.specs.Buses.{process_with}
use Rattle.bus_core.specs.Doings.{step_of}
use Rattle.bus_core.specs.Senders.{situation, words_all}
use Rattle.bus_core.specs.Telling.{FeedTells, RestTells}
use Rattle.bus_register.specs.Words.{register}
use Rattle.bus_tenure.specs.Elections.{election_with}
use Rattle.bus_pageslot.specs.Rule.{stored_in}
use Rattle.bus_pageslot.specs.Seats.{TookAndTold}
use Rattle.bus_pageslot.specs.Steps.{stored_by}
use Rattle.bus_pageslot.proofs.Ruled.Processes.{words_are, rest_is_told}
use Rattle.bus_pageslot.proofs.seats.Sender.turn_by.Goals as goal

pub returns-in_default-clause-rests : goal.returns-in_default-clause-rests
unfolding process_with
returns-in_default-clause-rests g c none =
    let P = process_with g.Q.Machine.kind_of g.Q.Machine.op g.Q.Machine.fed g.Q.Ratifier.protocol in
    let core = c.self.inside.core in
    let due : P.op core c.args.word ≡ None = sym c.next_of.ensures.step ∙ c.in_default.is in
    let tells : RestTells core c.rest_of.result = rest_is_told g.Q.Machine.kind_of g.Q.Machine.op
    g.Q.Machine.fed g.Q.Ratifier.protocol core c.rest_of.result
    (elim c.rest_of.ensures.tells [ inl x ↦ inl x.0 | inr r ↦ inr r ])
    (λ going. c.threads_may_go_by.ensures.rests core c.args.word c.self.invariant.0.laid due
    (sym c.rest_of.ensures.answer ∙ going)) in (
      refl,
      c.rest_of.ensures.answer ∙ ap (λ s. P.rest s.core) c.self.view_is,
      subst (λ s. RestTells s.core c.rest_of.result) c.self.view_is tells,
    )

pub returns-in_default-clause-steps : goal.returns-in_default-clause-steps
unfolding process_with
returns-in_default-clause-steps g c op due =
    let P = process_with g.Q.Machine.kind_of g.Q.Machine.op g.Q.Machine.fed g.Q.Ratifier.protocol in
    absurd (
    let bad : None ≡ Some op =
    sym c.in_default.is ∙ c.next_of.ensures.step ∙ ap (λ s. P.op s.core c.args.word) c.self.view_is
    ∙ due in
    cc
    )

pub walk-requires-clause-due : goal.walk-requires-clause-due
unfolding process_with
walk-requires-clause-due g c = sym c.next_of.ensures.step ∙ c.in-Some.is

pub walk-requires-clause-below : goal.walk-requires-clause-below
walk-requires-clause-below g c =
    let core = c.self.inside.core in
    subst (λ n. register c.in-Some.op < n)
    (words_are g.Q.Machine.kind_of g.Q.Machine.op g.Q.Machine.fed g.Q.Ratifier.protocol core)
    (subst (λ r. IfSome r (λ o. register o < words_all core)) c.in-Some.is c.next_of.ensures.below)

pub invariant_of-self : goal.invariant_of-self
unfolding process_with
invariant_of-self g c = (
  c.walk.ensures.shows,
  c.length_after-self-inside.ensures ∙ ap (stored_by (Some c.in-Some.op)) c.self.invariant.1
      ∙ ap (λ o. stored_by o (stored_in c.self.inside.seat.me.0))
      (sym (sym c.next_of.ensures.step ∙ c.in-Some.is))
      ∙ sym (ap (λ n. n.stored) c.walk.ensures.took.took.notes),
)

pub returns-clause-rests : goal.returns-clause-rests
unfolding process_with
returns-clause-rests g c none =
    let P = process_with g.Q.Machine.kind_of g.Q.Machine.op g.Q.Machine.fed g.Q.Ratifier.protocol in
    absurd (
    let bad : None ≡ Some c.in-Some.op =
    sym none ∙ ap (λ s. P.op s.core c.args.word) (sym c.self.view_is) ∙ sym c.next_of.ensures.step
    ∙ c.in-Some.is in
    cc
    )

pub returns-clause-steps : goal.returns-clause-steps
returns-clause-steps g c op due =
    let P = process_with g.Q.Machine.kind_of g.Q.Machine.op g.Q.Machine.fed g.Q.Ratifier.protocol in
    let X =
    election_with g.Q.Machine.kind_of g.Q.Machine.op g.Q.Machine.fed g.Q.Ratifier.protocol in
    subst (λ z. TookAndTold P (FeedTells X) z c.args.word c.walk.result
    (record { core = c.walk.new.core; seat = c.walk.new.seat }))
    c.self.view_is c.walk.ensures.took

pub next_of-requires : goal.next_of-requires
next_of-requires g c =
    let X =
    election_with g.Q.Machine.kind_of g.Q.Machine.op g.Q.Machine.fed g.Q.Ratifier.protocol in
    subst (λ s. step_of (situation X s.core) ≡ c.args.next) (sym c.self.view_is) c.requires.next

pub rest_of-requires : goal.rest_of-requires
rest_of-requires g c =
    let X =
    election_with g.Q.Machine.kind_of g.Q.Machine.op g.Q.Machine.fed g.Q.Ratifier.protocol in
    subst (λ s. step_of (situation X s.core) ≡ c.args.next) (sym c.self.view_is) c.requires.next

pub walk-requires-clause-next : goal.walk-requires-clause-next
walk-requires-clause-next g c =
    let X =
    election_with g.Q.Machine.kind_of g.Q.Machine.op g.Q.Machine.fed g.Q.Ratifier.protocol in
    subst (λ s. step_of (situation X s.core) ≡ c.args.next) (sym c.self.view_is) c.requires.next
