use Rattle.std.proofs.Common.{◌≡◌, ◌+◌, ◌*◌, slice_index, arith, sym, ◌∙◌, ap}
use Rattle.std.specs.Slots.{slots_items}
use Rattle.bus_core.specs.declared.limits.TheConstants.{PASSED_APART}
use Rattle.bus_tenure.specs.Situations.{lesser}
use Rattle.bus_world.specs.Log.{least_passed}
use Rattle.bus_pageslot.proofs.Said.Endings.{word_at}
use Rattle.bus_pageslot.proofs.Sends.Looking.{floor_some, one_more}
use Rattle.bus_pageslot.proofs.outcomes.floor_left.Goals as goal

pub loop-r-preserved : goal.loop-r-preserved
loop-r-preserved c =
    let ws = slots_items c.args.closed.now.words in
    let at = c.args.places.passed in
    let r = c.loop-r.r in (
      omega arith,
      c.lesser-least.ensures
          ∙ ap (λ w. lesser w c.loop-r.least)
          (sym (word_at ws (at + PASSED_APART * r) c.word-passed.result c.word-passed.ensures))
          ∙ ap (lesser (slice_index ws (at + PASSED_APART * r))) c.loop-r.invariant.1
          ∙ one_more (slice_index ws) at r c.args.length,
    )

pub returns : goal.returns
returns c =
    let most = c.loop-r.invariant.0 in
    let least = c.loop-r-test.false in
    let words = slice_index (slots_items c.args.closed.now.words) in
    c.loop-r.invariant.1
    ∙ ap (λ n. least_passed words c.args.places.passed n c.args.length)
    (let all : c.loop-r.r ≡ c.args.places.passers = omega arith in all)
    ∙ floor_some words c.args.places.passed c.args.places.passers c.args.length
    c.if-places-eq0.false
