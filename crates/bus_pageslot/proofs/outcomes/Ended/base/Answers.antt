use Rattle.std.proofs.Common.{◌≡◌, ◌+◌, ◌≤◌, Some, ◌∙◌, slice_get, slice_index}
use Rattle.std.proofs.Common.{slice_index_or, arith, sym, ap, subst}
use Rattle.bus_batch.specs.Frames.{Spells}
use Rattle.bus_deliverylog.specs.Orders.{of_sender}
use Rattle.bus_pageslot.specs.Outcomes.{Outcome}
use Rattle.bus_pageslot.proofs.outcomes.Ended.base.Goals as goal

pub returns-clause-before : goal.returns-clause-before
returns-clause-before c =
    let counts = c.self.invariant.rest.counts c.args.sender.0 c.requires in
    let low : slice_index_or c.self.inside.bases c.args.sender.0 0
    ≤ slice_index c.self.inside.page.next c.args.sender.0 = omega arith in
    subst (λ n. slice_index_or c.self.inside.bases n 0
    ≤ slice_index c.args.self.now.page.next c.args.sender.0) (sym c.from.ensures)
    (subst (λ (z : Outcome). slice_index_or c.self.inside.bases c.args.sender.0 0
    ≤ slice_index z.page.next c.args.sender.0) c.self.view_is low)

pub returns-clause-numbered : goal.returns-clause-numbered
returns-clause-numbered c first order owners place item spells at =
    let own = subst (λ z. Spells z.senders z.log order owners) (sym c.self.view_is) spells in
    let whole = c.self.invariant.whole (ap (λ (z : Outcome). z.floor) c.self.view_is ∙ first) in
    let same =
    (c.spells_one.ensures _ _ c.self.invariant.order order c.self.invariant.owners owners
    c.self.invariant.spells own).0 in
    let last = c.self.invariant.rest.numbered c.args.sender.0 place item c.requires
    (subst (λ z. slice_get (of_sender c.args.sender.0 z) place ≡ Some item) (sym same) at) in
    let next = whole.next c.args.sender.0 c.requires in
    let number : item.number ≡ slice_index_or c.self.inside.bases c.args.sender.0 0 + place =
    omega arith in
    number ∙ ap (λ n. slice_index_or c.self.inside.bases n 0 + place) (sym c.from.ensures)
