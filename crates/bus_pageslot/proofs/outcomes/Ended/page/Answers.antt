use Rattle.std.proofs.Common.{◌≡◌, ◌+◌, ◌<◌, ◌≤◌, Some, arith, ◌∙◌, length, slice_get, slice_index}
use Rattle.std.proofs.Common.{ap, sym, subst}
use Rattle.bus_batch.specs.Frames.{Spells, has_gone}
use Rattle.bus_deliverylog.specs.Orders.{of_sender}
use Rattle.bus_pageslot.specs.Outcomes.{Outcome}
use Rattle.bus_pageslot.proofs.outcomes.Ended.page.Goals as goal

pub returns-clause-words : goal.returns-clause-words
returns-clause-words c =
    ap (λ p. p.words) c.get.ensures ∙ c.self.invariant.words
    ∙ ap (λ (z : Outcome). z.floor + length z.log) c.self.view_is

pub returns-clause-floor : goal.returns-clause-floor
returns-clause-floor c = subst (λ (z : Outcome). c.get.result.now.floor ≤ z.floor) c.self.view_is
    (subst (λ p. p.floor ≤ c.self.inside.floor) (sym c.get.ensures) c.self.invariant.floor)

pub returns-clause-flat : goal.returns-clause-flat
returns-clause-flat c first =
    let none = ap (λ (z : Outcome). z.floor) c.self.view_is ∙ first in
    let low = subst (λ p. p.floor ≤ c.self.inside.floor) (sym c.get.ensures)
    c.self.invariant.floor in
    omega arith

pub returns-clause-ended : goal.returns-clause-ended
returns-clause-ended c first order owners spells =
    let own = subst (λ z. Spells z.senders z.log order owners) (sym c.self.view_is) spells in
    let whole = c.self.invariant.whole (ap (λ (z : Outcome). z.floor) c.self.view_is ∙ first) in
    ap (λ p. p.ended) c.get.ensures ∙ whole.ended
    ∙ ap (λ z. z.ended) (c.spells_one.ensures _ _ c.self.invariant.order order
    c.self.invariant.owners owners c.self.invariant.spells own).0

pub returns-clause-left : goal.returns-clause-left
returns-clause-left c first sender order owners below spells =
    let own = subst (λ z. Spells z.senders z.log order owners) (sym c.self.view_is) spells in
    let whole = c.self.invariant.whole (ap (λ (z : Outcome). z.floor) c.self.view_is ∙ first) in
    let same =
    (c.spells_one.ensures _ _ c.self.invariant.order order c.self.invariant.owners owners
    c.self.invariant.spells own).0 in
    ap (λ p. slice_get p.left sender) c.get.ensures
    ∙ whole.left sender below ∙ ap (λ z. Some (has_gone sender z)) same

pub returns-clause-next : goal.returns-clause-next
returns-clause-next c first sender order owners below spells =
    let own = subst (λ z. Spells z.senders z.log order owners) (sym c.self.view_is) spells in
    let whole = c.self.invariant.whole (ap (λ (z : Outcome). z.floor) c.self.view_is ∙ first) in
    let same =
    (c.spells_one.ensures _ _ c.self.invariant.order order c.self.invariant.owners owners
    c.self.invariant.spells own).0 in
    ap (λ p. slice_index p.next sender) c.get.ensures
    ∙ whole.next sender below
    ∙ ap (λ z. slice_index c.self.inside.bases sender + length (of_sender sender z)) same
    ∙ ap (λ (z : Outcome). slice_index z.bases sender + length (of_sender sender order))
    c.self.view_is

pub returns-clause-has_ended : goal.returns-clause-has_ended
returns-clause-has_ended c order owners spells ended =
    let own = subst (λ z. Spells z.senders z.log order owners) (sym c.self.view_is) spells in
    let same =
    (c.spells_one.ensures _ _ c.self.invariant.order order c.self.invariant.owners owners
    c.self.invariant.spells own).0 in
    ap (λ p. p.ended) c.get.ensures
    ∙ c.self.invariant.rest.ended (ap (λ z. z.ended) same ∙ ended)

pub returns-clause-has_left : goal.returns-clause-has_left
returns-clause-has_left c sender order owners below spells gone =
    let own = subst (λ z. Spells z.senders z.log order owners) (sym c.self.view_is) spells in
    let same =
    (c.spells_one.ensures _ _ c.self.invariant.order order c.self.invariant.owners owners
    c.self.invariant.spells own).0 in
    ap (λ p. slice_get p.left sender) c.get.ensures
    ∙ c.self.invariant.rest.left sender below (ap (has_gone sender) same ∙ gone)

pub returns-clause-last : goal.returns-clause-last
returns-clause-last c sender order owners place item below spells at =
    let own = subst (λ z. Spells z.senders z.log order owners) (sym c.self.view_is) spells in
    let same =
    (c.spells_one.ensures _ _ c.self.invariant.order order c.self.invariant.owners owners
    c.self.invariant.spells own).0 in
    subst
    (λ z. item.number + length (of_sender sender z)
    ≡ slice_index c.get.result.now.next sender + place)
    same
    (c.self.invariant.rest.numbered sender place item below
    (subst (λ z. slice_get (of_sender sender z) place ≡ Some item) (sym same) at)
    ∙ ap (λ p. slice_index p.next sender + place) (sym c.get.ensures))

pub returns-clause-tenures : goal.returns-clause-tenures
returns-clause-tenures c order owners place tenure owner spells at =
    let own = subst (λ z. Spells z.senders z.log order owners) (sym c.self.view_is) spells in
    let same =
    (c.spells_one.ensures _ _ c.self.invariant.order order c.self.invariant.owners owners
    c.self.invariant.spells own).1 in
    subst (λ p. tenure < p.tenures) (sym c.get.ensures)
    (c.self.invariant.tenures place tenure owner (ap (λ l. slice_get l place) same ∙ at))
