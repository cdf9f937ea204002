use Rattle.std.proofs.Common.{ℕ, List, refl, ◌∙◌, subst, rules}
use Rattle.bus_deliverylog.specs.declared.receiving.RecvTurn.TheVariants as turn
use Rattle.bus_pageslot.specs.Listening.{Hears}
use Rattle.bus_replica.specs.Replicas.{LeadTo, replayed_by}
use Rattle.bus_replica.proofs.FoldLaws.{stands_last}
use Rattle.bus_replica.proofs.LeavingLaws.{hearing_along, hearing_more, hearing_stays}
use Rattle.bus_replica.proofs.LeavingLaws.{hearing_leaves, told_item, told_going, told_plain}
use Rattle.bus_replica.proofs.LeavingLaws.{told_empty, told_end}
use Rattle.bus_replica.proofs.hearers.Hearer.turn.Goals as goal

pub invariant_of-self : goal.invariant_of-self
invariant_of-self g c =
    let h = c.in-Item.ensures.hears.heard in
    hearing_more
    (LeadTo g.S.State.is_first g.S.State.applies (replayed_by c.self.inside.replayed.value))
    g.S.State.applies h.old c.signed_turns.new.self.me
    c.self.inside.state c.self.inside.left
    (hearing_along
    (LeadTo g.S.State.is_first g.S.State.applies (replayed_by c.self.inside.replayed.value))
    g.S.State.applies c.self.inside.receiver.me h.old
    c.self.inside.state c.self.inside.left c.self.invariant h.going)
    c.apply-answer.new.self c.signed_turns.new.item c.apply-answer.result
    (subst (λ a. Hears h.old a c.signed_turns.new.self.me)
    (told_item h.answer c.args.item.now c.signed_turns.new.item h.writes) h.hears)
    (subst (λ (z : List ℕ). g.S.State.applies c.self.inside.state
    c.signed_turns.new.item.sender.0 z c.apply-answer.result c.apply-answer.new.self)
    c.as_slice.ensures.same c.apply-answer.ensures)

pub returns-in-Item-clause-stands : goal.returns-in-Item-clause-stands
returns-in-Item-clause-stands g c =
    let h = c.in-Item.ensures.hears.heard in
    stands_last
    (LeadTo g.S.State.is_first g.S.State.applies (replayed_by c.self.inside.replayed.value))
    g.S.State.applies h.old c.signed_turns.new.self.me
    c.self.inside.state c.apply-answer.new.self c.signed_turns.new.item c.apply-answer.result
    (hearing_along
    (LeadTo g.S.State.is_first g.S.State.applies (replayed_by c.self.inside.replayed.value))
    g.S.State.applies c.self.inside.receiver.me h.old
    c.self.inside.state c.self.inside.left c.self.invariant h.going).fold
    (subst (λ a. Hears h.old a c.signed_turns.new.self.me)
    (told_item h.answer c.args.item.now c.signed_turns.new.item h.writes) h.hears)
    (subst (λ (z : List ℕ). g.S.State.applies c.self.inside.state
    c.signed_turns.new.item.sender.0 z c.apply-answer.result c.apply-answer.new.self)
    c.as_slice.ensures.same c.apply-answer.ensures)

pub invariant_of-self-in-Leave : goal.invariant_of-self-in-Leave
invariant_of-self-in-Leave g c =
    let h = c.in-Going.ensures.hears.heard in
    hearing_leaves
    (LeadTo g.S.State.is_first g.S.State.applies (replayed_by c.self.inside.replayed.value))
    g.S.State.applies h.old c.signed_turns.new.self.me
    c.self.inside.state c.self.inside.left
    (hearing_along
    (LeadTo g.S.State.is_first g.S.State.applies (replayed_by c.self.inside.replayed.value))
    g.S.State.applies c.self.inside.receiver.me h.old
    c.self.inside.state c.self.inside.left c.self.invariant h.going)
    c.in-Leave.sender c.from.result c.from.ensures (search rules)
    (subst (λ a. Hears h.old a c.signed_turns.new.self.me)
    (told_going h.answer c.signed_turns.new.sign h.writes.told_is
    c.in-Going.ensures.hears.signs ∙ c.in-Leave.is) h.hears)

pub invariant_of-self-in_default : goal.invariant_of-self-in_default
invariant_of-self-in_default g c =
    let h = c.in-Going.ensures.hears.heard in
    hearing_stays
    (LeadTo g.S.State.is_first g.S.State.applies (replayed_by c.self.inside.replayed.value))
    g.S.State.applies h.old c.signed_turns.new.self.me
    c.self.inside.state c.self.inside.left
    (hearing_along
    (LeadTo g.S.State.is_first g.S.State.applies (replayed_by c.self.inside.replayed.value))
    g.S.State.applies c.self.inside.receiver.me h.old
    c.self.inside.state c.self.inside.left c.self.invariant h.going)
    h.answer
    (told_plain h.answer c.signed_turns.new.sign h.writes.told_is
    c.in-Going.ensures.hears.signs c.in_default.not-Leave)
    h.hears

pub invariant_of-self-in-Empty : goal.invariant_of-self-in-Empty
invariant_of-self-in-Empty g c =
    let h = c.in-Empty.ensures.hears.heard in
    hearing_stays
    (LeadTo g.S.State.is_first g.S.State.applies (replayed_by c.self.inside.replayed.value))
    g.S.State.applies h.old c.signed_turns.new.self.me
    c.self.inside.state c.self.inside.left
    (hearing_along
    (LeadTo g.S.State.is_first g.S.State.applies (replayed_by c.self.inside.replayed.value))
    g.S.State.applies c.self.inside.receiver.me h.old
    c.self.inside.state c.self.inside.left c.self.invariant h.going)
    turn.Empty refl
    (subst (λ a. Hears h.old a c.signed_turns.new.self.me)
    (told_empty h.answer h.writes.told_is) h.hears)

pub invariant_of-self-in-End : goal.invariant_of-self-in-End
invariant_of-self-in-End g c =
    let h = c.in-End.ensures.hears.heard in
    hearing_stays
    (LeadTo g.S.State.is_first g.S.State.applies (replayed_by c.self.inside.replayed.value))
    g.S.State.applies h.old c.signed_turns.new.self.me
    c.self.inside.state c.self.inside.left
    (hearing_along
    (LeadTo g.S.State.is_first g.S.State.applies (replayed_by c.self.inside.replayed.value))
    g.S.State.applies c.self.inside.receiver.me h.old
    c.self.inside.state c.self.inside.left c.self.invariant h.going)
    turn.End refl
    (subst (λ a. Hears h.old a c.signed_turns.new.self.me)
    (told_end h.answer h.writes.told_is) h.hears)
