use Rattle.std.proofs.Common.{◌≡◌, ◌+◌, ◌-◌, ◌%◌, ◌++◌, [], ◌∷◌, slice_index, arith, sym, ◌∙◌, ap}
use Rattle.std.specs.Slots.{slots_items}
use Rattle.bus_world.specs.Log.{words_in_ring}
use Rattle.bus_pageslot.proofs.Said.Endings.{word_at, read-next}
use Rattle.bus_pageslot.proofs.outcomes.words_left.Goals as goal

pub loop-place-preserved : goal.loop-place-preserved
loop-place-preserved c =
    let words = slice_index (slots_items c.args.closed.now.words) in
    let log = c.args.places.log in
    let many = c.args.places.log_words in
    let floor = c.args.floor in
    let place = c.loop-place.place in
    let past = c.loop-place.invariant.past in
    let here = let e : place ≡ floor + (place - floor) = omega arith in e in
    let next = let e : place - floor + 1 ≡ place + 1 - floor = omega arith in e in
    let found = word_at (slots_items c.args.closed.now.words) (log + c.cell.result) c.word.result
    c.word.ensures in
    record {
      past = omega arith;
      below = omega arith;
      items =
          c.push_reserved.ensures.items
          ∙ ap (λ l. l ++ c.word.result ∷ []) c.loop-place.invariant.items
          ∙ read-next words log many floor (place - floor) c.word.result
          (ap (λ n. words (log + n % many)) (sym here)
          ∙ ap (λ n. words (log + n)) (sym c.cell.ensures) ∙ found)
          ∙ ap (words_in_ring words log many floor) next;
      len =
          c.push_reserved.ensures.len ∙ ap (λ n. n + 1) c.loop-place.invariant.len ∙ next;
      roomy =
          let a = c.push_reserved.ensures.capacity in
          let b = c.loop-place.invariant.roomy in omega arith;
    }
