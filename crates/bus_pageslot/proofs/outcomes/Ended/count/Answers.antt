use Rattle.std.proofs.Common.{◌≡◌, ℕ, ◌+◌, ◌-◌, ◌≤◌, arith, ◌∙◌, length, slice_index}
use Rattle.std.proofs.Common.{slice_index_or, sym, ap, subst}
use Rattle.bus_batch.specs.Frames.{Spells}
use Rattle.bus_deliverylog.specs.Orders.{of_sender}
use Rattle.bus_pageslot.specs.Outcomes.{Outcome}
use Rattle.bus_pageslot.proofs.outcomes.Ended.count.Goals as goal

-- the difference of two numbers of which the one is the other and so many more
left_over : (next base n : ℕ) → next ≡ base + n → next - base ≡ n
left_over next base n e = omega arith

most_left : (next base n : ℕ) → base + n ≤ next → n ≤ next - base
most_left next base n low = omega arith

put_back : (next base : ℕ) → base ≤ next → next ≡ base + (next - base)
put_back next base low = omega arith

pub returns-clause-count : goal.returns-clause-count
returns-clause-count c =
    let s = c.args.sender.0 in
    let next = slice_index_or c.self.inside.page.next s 0 in
    let base = slice_index_or c.self.inside.bases s 0 in
    let counts = c.self.invariant.rest.counts s c.requires in
    let low : base ≤ next = omega arith in
    let is : next - base
    ≡ slice_index_or c.get.result.now.next c.from-place.result 0
    - slice_index_or c.self.inside.bases c.from-place.result 0 =
    ap (λ p. slice_index_or p.next s 0 - slice_index_or c.self.inside.bases s 0) (sym c.get.ensures)
    ∙ ap (λ n. slice_index_or c.get.result.now.next n 0 - slice_index_or c.self.inside.bases n 0)
    (sym c.from-place.ensures) in
    ap (λ (z : Outcome). slice_index z.page.next s) (sym c.self.view_is)
    ∙ put_back next base low ∙ ap (λ n. base + n) is
    ∙ ap
    (λ (z : Outcome). slice_index z.bases s
    + (slice_index_or c.get.result.now.next c.from-place.result 0
    - slice_index_or c.self.inside.bases c.from-place.result 0))
    c.self.view_is

pub returns-clause-counts : goal.returns-clause-counts
returns-clause-counts c first order owners spells =
    let own = subst (λ z. Spells z.senders z.log order owners) (sym c.self.view_is) spells in
    let whole = c.self.invariant.whole (ap (λ (z : Outcome). z.floor) c.self.view_is ∙ first) in
    let same =
    (c.spells_one.ensures _ _ c.self.invariant.order order c.self.invariant.owners owners
    c.self.invariant.spells own).0 in
    ap (λ n. slice_index_or c.get.result.now.next n 0 - slice_index_or c.self.inside.bases n 0)
    c.from-place.ensures
    ∙ ap (λ p.
    slice_index_or p.next c.args.sender.0 0 - slice_index_or c.self.inside.bases c.args.sender.0 0)
    c.get.ensures
    ∙ left_over _ _ _ (whole.next c.args.sender.0 c.requires)
    ∙ ap (λ z. length (of_sender c.args.sender.0 z)) same

pub returns-clause-stands : goal.returns-clause-stands
returns-clause-stands c order owners spells =
    let own = subst (λ z. Spells z.senders z.log order owners) (sym c.self.view_is) spells in
    let same =
    (c.spells_one.ensures _ _ c.self.invariant.order order c.self.invariant.owners owners
    c.self.invariant.spells own).0 in
    let s = c.args.sender.0 in
    subst (λ z. length (of_sender s z)
    ≤ slice_index_or c.get.result.now.next c.from-place.result 0
    - slice_index_or c.self.inside.bases c.from-place.result 0) same
    (subst (λ n. length (of_sender s c.self.invariant.order)
    ≤ slice_index_or c.get.result.now.next n 0 - slice_index_or c.self.inside.bases n 0)
    (sym c.from-place.ensures)
    (subst (λ p. length (of_sender s c.self.invariant.order)
    ≤ slice_index_or p.next s 0 - slice_index_or c.self.inside.bases s 0) (sym c.get.ensures)
    (most_left _ _ _ (c.self.invariant.rest.counts s c.requires))))
