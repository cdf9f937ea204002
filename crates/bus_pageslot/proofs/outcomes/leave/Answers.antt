use Rattle.std.proofs.Common.{ℕ, Some, List, refl, arith, sym, ◌∙◌, ap, subst}
use Rattle.std.proofs.lemmas.Option.{same_Some}
use Rattle.std.specs.Prelude.{IsSome}
use Rattle.std.specs.Slots.{slots_items, slots_counts}
use Rattle.bus_ownerbits.specs.Sizes.{election_bound}
use Rattle.bus_automaton.specs.Buses.{process_with, automaton_with}
use Rattle.bus_pageslot.specs.Endings.{IsLeft}
use Rattle.bus_pageslot.specs.Outcomes.{IsOutcome}
use Rattle.bus_pageslot.proofs.Said.AboveFrames.{rises_above, stays_below}
use Rattle.bus_pageslot.proofs.Said.Endings.{word_at, wide, rising, fits, left_out, left_home}
use Rattle.bus_pageslot.proofs.Said.Endings.{outcome_of}
use Rattle.bus_pageslot.proofs.Said.Endings.{floor_at, read_at}
use Rattle.bus_pageslot.proofs.outcomes.leave.Goals as goal

pub word-stage-requires : goal.word-stage-requires
word-stage-requires g c =
    let P = process_with g.Q.Machine.kind_of g.Q.Machine.op g.Q.Machine.fed g.Q.Ratifier.protocol in
    let A = automaton_with g.Q.Machine.kind_of g.Q.Machine.op g.Q.Machine.fed g.Q.Ratifier.protocol
    c.args.words.plan in
    let L = c.threads_may_go_by.ensures.automaton c.args.words.plan in
    let n = c.requires.tap in
    let seat = c.args.seat in
    let ws = slots_items c.close-closed.result.words in
    let xs = slots_items c.close-closed.result.slots in
    let f = c.close-closed.ensures.last in
    let is = ap (λ m. m.0) n.2 in
    let size =
    (slots_counts c.close-closed.result.words).0
    ∙ wide P A L seat.id seat.me.0 n.0 n.1 is ws xs f in (
      let room = L.room in let behind = L.behind in omega arith,
      λ k low high. c.close-closed.ensures.full.0 k low high,
    )

pub floor_left-floor-requires-clause-few : goal.floor_left-floor-requires-clause-few
floor_left-floor-requires-clause-few g c =
    let P = process_with g.Q.Machine.kind_of g.Q.Machine.op g.Q.Machine.fed g.Q.Ratifier.protocol in
    let A = automaton_with g.Q.Machine.kind_of g.Q.Machine.op g.Q.Machine.fed g.Q.Ratifier.protocol
    c.args.words.plan in
    let L = c.threads_may_go_by.ensures.automaton c.args.words.plan in
    let n = c.requires.tap in
    let seat = c.args.seat in
    let ws = slots_items c.close-closed.result.words in
    let xs = slots_items c.close-closed.result.slots in
    let f = c.close-closed.ensures.last in
    let is = ap (λ m. m.0) n.2 in
    let size =
    (slots_counts c.close-closed.result.words).0
    ∙ wide P A L seat.id seat.me.0 n.0 n.1 is ws xs f in
    let few = c.requires.few in omega arith

pub floor_left-floor-requires-clause-within : goal.floor_left-floor-requires-clause-within
floor_left-floor-requires-clause-within g c =
    let P = process_with g.Q.Machine.kind_of g.Q.Machine.op g.Q.Machine.fed g.Q.Ratifier.protocol in
    let A = automaton_with g.Q.Machine.kind_of g.Q.Machine.op g.Q.Machine.fed g.Q.Ratifier.protocol
    c.args.words.plan in
    let L = c.threads_may_go_by.ensures.automaton c.args.words.plan in
    let n = c.requires.tap in
    let seat = c.args.seat in
    let ws = slots_items c.close-closed.result.words in
    let xs = slots_items c.close-closed.result.slots in
    let f = c.close-closed.ensures.last in
    let is = ap (λ m. m.0) n.2 in
    let size =
    (slots_counts c.close-closed.result.words).0
    ∙ wide P A L seat.id seat.me.0 n.0 n.1 is ws xs f in
    λ r low.
    let there = c.requires.places in
    let at = there.passed in
    let many = there.passers in
    let room = L.room in
    let here = L.passed_room r (omega arith) in omega arith

pub words_left-log-requires-clause-few : goal.words_left-log-requires-clause-few
words_left-log-requires-clause-few g c =
    let P = process_with g.Q.Machine.kind_of g.Q.Machine.op g.Q.Machine.fed g.Q.Ratifier.protocol in
    let A = automaton_with g.Q.Machine.kind_of g.Q.Machine.op g.Q.Machine.fed g.Q.Ratifier.protocol
    c.args.words.plan in
    let L = c.threads_may_go_by.ensures.automaton c.args.words.plan in
    let n = c.requires.tap in
    let seat = c.args.seat in
    let ws = slots_items c.close-closed.result.words in
    let xs = slots_items c.close-closed.result.slots in
    let f = c.close-closed.ensures.last in
    let is = ap (λ m. m.0) n.2 in
    let size =
    (slots_counts c.close-closed.result.words).0
    ∙ wide P A L seat.id seat.me.0 n.0 n.1 is ws xs f in
    let few = c.requires.few in omega arith

pub words_left-log-requires-clause-within : goal.words_left-log-requires-clause-within
words_left-log-requires-clause-within g c =
    let P = process_with g.Q.Machine.kind_of g.Q.Machine.op g.Q.Machine.fed g.Q.Ratifier.protocol in
    let A = automaton_with g.Q.Machine.kind_of g.Q.Machine.op g.Q.Machine.fed g.Q.Ratifier.protocol
    c.args.words.plan in
    let L = c.threads_may_go_by.ensures.automaton c.args.words.plan in
    let n = c.requires.tap in
    let seat = c.args.seat in
    let ws = slots_items c.close-closed.result.words in
    let xs = slots_items c.close-closed.result.slots in
    let f = c.close-closed.ensures.last in
    let is = ap (λ m. m.0) n.2 in
    let size =
    (slots_counts c.close-closed.result.words).0
    ∙ wide P A L seat.id seat.me.0 n.0 n.1 is ws xs f in
    let there = c.requires.places in
    let at = there.log in
    let many = there.log_words in
    let room = L.room in omega arith

pub words_left-log-requires-clause-low : goal.words_left-log-requires-clause-low
words_left-log-requires-clause-low g c =
    let P = process_with g.Q.Machine.kind_of g.Q.Machine.op g.Q.Machine.fed g.Q.Ratifier.protocol in
    let A = automaton_with g.Q.Machine.kind_of g.Q.Machine.op g.Q.Machine.fed g.Q.Ratifier.protocol
    c.args.words.plan in
    let L = c.threads_may_go_by.ensures.automaton c.args.words.plan in
    let n = c.requires.tap in
    let seat = c.args.seat in
    let ws = slots_items c.close-closed.result.words in
    let xs = slots_items c.close-closed.result.slots in
    let f = c.close-closed.ensures.last in
    let is = ap (λ m. m.0) n.2 in
    let length_is = word_at ws 0 c.word-length.result c.word-length.ensures in
    let floor_is =
    c.floor_left-floor.ensures
    ∙ floor_at A.table_layout c.args.places c.requires.places ws c.word-length.result length_is in
    let low = rising P A L seat.id seat.me.0 n.0 n.1 is ws xs f in omega arith

pub words_left-log-requires-clause-roomy : goal.words_left-log-requires-clause-roomy
words_left-log-requires-clause-roomy g c =
    let P = process_with g.Q.Machine.kind_of g.Q.Machine.op g.Q.Machine.fed g.Q.Ratifier.protocol in
    let A = automaton_with g.Q.Machine.kind_of g.Q.Machine.op g.Q.Machine.fed g.Q.Ratifier.protocol
    c.args.words.plan in
    let L = c.threads_may_go_by.ensures.automaton c.args.words.plan in
    let n = c.requires.tap in
    let seat = c.args.seat in
    let ws = slots_items c.close-closed.result.words in
    let xs = slots_items c.close-closed.result.slots in
    let f = c.close-closed.ensures.last in
    let is = ap (λ m. m.0) n.2 in
    let length_is = word_at ws 0 c.word-length.result c.word-length.ensures in
    let floor_is =
    c.floor_left-floor.ensures
    ∙ floor_at A.table_layout c.args.places c.requires.places ws c.word-length.result length_is in
    let there = c.requires.places in
    let many = there.log_words in
    let roomy = c.requires.roomy in
    let few = fits P A L seat.id seat.me.0 n.0 n.1 is ws xs f
    (c.what_stands_fits.ensures c.args.words.plan f.0 f.1.0) in omega arith

pub returns-then-stage-eq1-clause-out : goal.returns-then-stage-eq1-clause-out
returns-then-stage-eq1-clause-out g c =
    let P = process_with g.Q.Machine.kind_of g.Q.Machine.op g.Q.Machine.fed g.Q.Ratifier.protocol in
    let A = automaton_with g.Q.Machine.kind_of g.Q.Machine.op g.Q.Machine.fed g.Q.Ratifier.protocol
    c.args.words.plan in
    let L = c.threads_may_go_by.ensures.automaton c.args.words.plan in
    let n = c.requires.tap in
    let seat = c.args.seat in
    let ws = slots_items c.close-closed.result.words in
    let xs = slots_items c.close-closed.result.slots in
    let f = c.close-closed.ensures.last in
    let is = ap (λ m. m.0) n.2 in
    left_out P A L seat.id seat.me.0 n.0 n.1 is ws xs f n.3 c.word-stage.result
    (word_at ws 1 c.word-stage.result c.word-stage.ensures) c.if-stage-eq1.true

pub unwrap-requires : goal.unwrap-requires
unwrap-requires g c =
    let P = process_with g.Q.Machine.kind_of g.Q.Machine.op g.Q.Machine.fed g.Q.Ratifier.protocol in
    let A = automaton_with g.Q.Machine.kind_of g.Q.Machine.op g.Q.Machine.fed g.Q.Ratifier.protocol
    c.args.words.plan in
    let L = c.threads_may_go_by.ensures.automaton c.args.words.plan in
    let n = c.requires.tap in
    let seat = c.args.seat in
    let ws = slots_items c.close-closed.result.words in
    let xs = slots_items c.close-closed.result.slots in
    let f = c.close-closed.ensures.last in
    let is = ap (λ m. m.0) n.2 in
    let length_is = word_at ws 0 c.word-length.result c.word-length.ensures in
    let floor_is =
    c.floor_left-floor.ensures
    ∙ floor_at A.table_layout c.args.places c.requires.places ws c.word-length.result length_is in
    let read_is =
    c.words_left-log.ensures
    ∙ read_at A.table_layout c.args.places c.requires.places ws c.word-length.result length_is
    c.floor_left-floor.result floor_is in
    let home = left_home P A L seat.id seat.me.0 n.0 n.1 is ws xs f n.3 c.word-stage.result
    (word_at ws 1 c.word-stage.result c.word-stage.ensures) c.if-stage-eq1.false c.take-page.result
    c.take-page.ensures.value c.floor_left-floor.result floor_is c.words_left-log.result.items
    read_is in
    subst IsSome (sym home.1) refl

pub returns-clause-ended : goal.returns-clause-ended
returns-clause-ended g c =
    let P = process_with g.Q.Machine.kind_of g.Q.Machine.op g.Q.Machine.fed g.Q.Ratifier.protocol in
    let A = automaton_with g.Q.Machine.kind_of g.Q.Machine.op g.Q.Machine.fed g.Q.Ratifier.protocol
    c.args.words.plan in
    let L = c.threads_may_go_by.ensures.automaton c.args.words.plan in
    let n = c.requires.tap in
    let seat = c.args.seat in
    let ws = slots_items c.close-closed.result.words in
    let xs = slots_items c.close-closed.result.slots in
    let f = c.close-closed.ensures.last in
    let is = ap (λ m. m.0) n.2 in
    let length_is = word_at ws 0 c.word-length.result c.word-length.ensures in
    let floor_is =
    c.floor_left-floor.ensures
    ∙ floor_at A.table_layout c.args.places c.requires.places ws c.word-length.result length_is in
    let read_is =
    c.words_left-log.ensures
    ∙ read_at A.table_layout c.args.places c.requires.places ws c.word-length.result length_is
    c.floor_left-floor.result floor_is in
    let home = left_home P A L seat.id seat.me.0 n.0 n.1 is ws xs f n.3 c.word-stage.result
    (word_at ws 1 c.word-stage.result c.word-stage.ensures) c.if-stage-eq1.false c.take-page.result
    c.take-page.ensures.value c.floor_left-floor.result floor_is c.words_left-log.result.items
    read_is in
    subst (λ page. IsLeft P A seat.me.0 c.words_left-log.result.items c.floor_left-floor.result
    (Some page))
    (same_Some _ _ (sym home.1 ∙ c.unwrap.ensures)) home.2

pub invariant_of-result : goal.invariant_of-result
invariant_of-result g c =
    let P = process_with g.Q.Machine.kind_of g.Q.Machine.op g.Q.Machine.fed g.Q.Ratifier.protocol in
    let A = automaton_with g.Q.Machine.kind_of g.Q.Machine.op g.Q.Machine.fed g.Q.Ratifier.protocol
    c.args.words.plan in
    let L = c.threads_may_go_by.ensures.automaton c.args.words.plan in
    let n = c.requires.tap in
    let seat = c.args.seat in
    let ws = slots_items c.close-closed.result.words in
    let xs = slots_items c.close-closed.result.slots in
    let f = c.close-closed.ensures.last in
    let is = ap (λ m. m.0) n.2 in
    let length_is = word_at ws 0 c.word-length.result c.word-length.ensures in
    let floor_is =
    c.floor_left-floor.ensures
    ∙ floor_at A.table_layout c.args.places c.requires.places ws c.word-length.result length_is in
    let read_is =
    c.words_left-log.ensures
    ∙ read_at A.table_layout c.args.places c.requires.places ws c.word-length.result length_is
    c.floor_left-floor.result floor_is in
    let home = left_home P A L seat.id seat.me.0 n.0 n.1 is ws xs f n.3 c.word-stage.result
    (word_at ws 1 c.word-stage.result c.word-stage.ensures) c.if-stage-eq1.false c.take-page.result
    c.take-page.ensures.value c.floor_left-floor.result floor_is c.words_left-log.result.items
    read_is in
    let plan = c.args.words.plan in
    let left = subst (λ page. IsLeft P A seat.me.0 c.words_left-log.result.items
    c.floor_left-floor.result (Some page))
    (same_Some _ _ (sym home.1 ∙ c.unwrap.ensures)) home.2 in
    let history = c.tables_are_machines.ensures plan left.table left.shown in
    subst (λ (n : ℕ × List ℕ). IsOutcome record {
      senders = n.0;
      bases = n.1;
      floor = c.floor_left-floor.result;
      log = c.words_left-log.result.items;
      page = c.unwrap.result;
    })
    (λ i. (sym c.requires.senders i, sym c.requires.bases i))
    (outcome_of P A L seat.me.0 c.words_left-log.result.items c.floor_left-floor.result
    c.unwrap.result left
    (rises_above g.Q.Machine.kind_of g.Q.Machine.op g.Q.Machine.fed g.Q.Ratifier.protocol plan
    (election_bound g.Q.Ratifier.protocol.steps) seat.me.0 c.words_left-log.result.items
    c.floor_left-floor.result c.unwrap.result left history)
    (stays_below g.Q.Machine.kind_of g.Q.Machine.op g.Q.Machine.fed g.Q.Ratifier.protocol plan
    (election_bound g.Q.Ratifier.protocol.steps) seat.me.0 c.words_left-log.result.items
    c.floor_left-floor.result c.unwrap.result left history))
