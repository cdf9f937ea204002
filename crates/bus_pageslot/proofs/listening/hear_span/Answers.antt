use Rattle.std.proofs.Common.{◌≡◌, ◌+◌, ◌<◌, arith, refl, sym, subst, ◌∙◌, ap}
use Rattle.atomic_table.specs.Seated.{TableId}
use Rattle.bus_pageslot.specs.Listening.{At}
use Rattle.bus_pageslot.proofs.Hears.ReaderLaws.{word_receiver_view}
use Rattle.bus_pageslot.proofs.Hears.Spans.{Midway, hears_one, midway_first, midway_on}
use Rattle.bus_pageslot.proofs.Hears.Spans.{never_bad, span_begun, span_below, span_heard}
use Rattle.bus_pageslot.proofs.Hears.Spans.{span_not_due, span_tap, span_view, some_words}
use Rattle.bus_pageslot.proofs.listening.hear_span.Goals as goal

pub returns-in_default-clause-receiver_view : goal.returns-in_default-clause-receiver_view
returns-in_default-clause-receiver_view g c =
    let load = c.load_word_in_turn-told in
    word_receiver_view c.requires.receiver_view load.ensures.finds
    (ap (λ (z : TableId). z.words) load.ensures.table.0) c.requires.going
    (span_begun c.args.listener.now c.requires.span) refl c.feed_word.ensures.senders
    c.feed_word.ensures.word.3

pub returns-in_default-clause-hears : goal.returns-in_default-clause-hears
returns-in_default-clause-hears g c =
    let load = c.load_word_in_turn-told in
    let taken = c.feed_word.ensures.word in
    record {
      heard = record {
        old = c.args.seat.now.me;
        going = At;
        answer = taken.0;
        hears = hears_one c.requires.receiver_view load.ensures.finds
            (ap (λ (z : TableId). z.words) load.ensures.table.0) c.requires.going
            (span_begun c.args.listener.now c.requires.span)
            (span_not_due c.requires.receiver_view c.requires.span c.requires.going)
            c.feed_word.ensures.senders taken.3;
        writes = taken.1;
      };
      signs = taken.2;
    }

pub loop-i-init : goal.loop-i-init
loop-i-init g c =
    let load = c.load_word_in_turn-told in (
      load.ensures.table.0,
      subst (λ b. Midway c.args.seat.now.me load.new.seat.me load.new.seat.table_id.words
          c.args.listener.now c.in-Some.span b 1) (sym c.clear.ensures)
          (midway_first c.requires.receiver_view c.requires.span load.ensures.finds
          (ap (λ (z : TableId). z.words) load.ensures.table.0) c.requires.going
          (span_not_due c.requires.receiver_view c.requires.span c.requires.going)
          c.in-Some.ensures.begins),
    )

pub load_word_in_turn-word-requires-clause-table :
    goal.load_word_in_turn-word-requires-clause-table
load_word_in_turn-word-requires-clause-table g c =
    let here = c.loop-i.invariant in
    let more = c.loop-i-test.true in
    let table = here.0 ∙ c.requires.table in (
      table,
      subst (λ (z : TableId). c.at-at.result + c.loop-i.i < z.words) table
          (span_below here.1 c.requires.span c.in-Some.ensures.span (omega arith)
          c.requires.receiver_view.round c.at-at.result c.at-at.ensures),
    )

pub load_word_in_turn-word-requires-clause-tap : goal.load_word_in_turn-word-requires-clause-tap
load_word_in_turn-word-requires-clause-tap g c =
    let more = c.loop-i-test.true in
    span_tap c.loop-i.invariant.1 c.requires.span c.in-Some.ensures.span (omega arith)
    c.requires.receiver_view.round c.at-at.result c.at-at.ensures

pub loop-i-preserved : goal.loop-i-preserved
loop-i-preserved g c =
    let load = c.load_word_in_turn-word in
    let here = c.loop-i.invariant in
    let more = c.loop-i-test.true in (
      load.ensures.table.0 ∙ here.0,
      subst (λ b. Midway c.args.seat.now.me load.new.seat.me load.new.seat.table_id.words
          c.args.listener.now c.in-Some.span b (c.loop-i.i + 1)) (sym c.append_word.ensures)
          (midway_on here.1 c.requires.span c.in-Some.ensures.span (omega arith) (omega arith)
          load.ensures.finds (ap (λ (z : TableId). z.words) load.ensures.table.0)
          load.type_inv
          c.in-Some.ensures.within),
    )

pub load_word_in_turn-last-requires-clause-table :
    goal.load_word_in_turn-last-requires-clause-table
load_word_in_turn-last-requires-clause-table g c =
    let here = c.loop-i.invariant in
    let is = c.in-Some.ensures.span in
    let all = c.loop-i-test.false in
    let most = c.loop-i.auto.i-end (some_words c.args.listener.now.reader c.in-Some.span is) in
    let i_is : c.loop-i.i ≡ c.in-Some.span.words = omega arith in
    let table = here.0 ∙ c.requires.table in (
      table,
      subst (λ (z : TableId). c.at-at.result + c.in-Some.span.words < z.words) table
          (subst (λ i. c.at-at.result + i < c.loop-i.seat.table_id.words) i_is
          (span_below here.1 c.requires.span is most c.requires.receiver_view.round c.at-at.result
          c.at-at.ensures)),
    )

pub load_word_in_turn-last-requires-clause-tap : goal.load_word_in_turn-last-requires-clause-tap
load_word_in_turn-last-requires-clause-tap g c =
    let is = c.in-Some.ensures.span in
    let all = c.loop-i-test.false in
    let most = c.loop-i.auto.i-end (some_words c.args.listener.now.reader c.in-Some.span is) in
    let i_is : c.loop-i.i ≡ c.in-Some.span.words = omega arith in
    let tap = span_tap c.loop-i.invariant.1 c.requires.span is most
    c.requires.receiver_view.round c.at-at.result c.at-at.ensures in (
      tap.0,
      tap.1,
      tap.2,
      tap.3,
      tap.4,
      tap.5,
      ap (λ i. c.at-at.result + i) (sym i_is) ∙ tap.6,
    )

pub returns-then-take_span-clause-receiver_view : goal.returns-then-take_span-clause-receiver_view
returns-then-take_span-clause-receiver_view g c =
    let load = c.load_word_in_turn-last in
    let is = c.in-Some.ensures.span in
    span_view c.loop-i.invariant.1 c.requires.span is
    (c.loop-i.auto.i-end (some_words c.args.listener.now.reader c.in-Some.span is)) load.result
    load.ensures.finds (ap (λ (z : TableId). z.words) load.ensures.table.0) c.loop-i-test.false
    c.loop-i.item c.append_word-2.new.self c.append_word-2.ensures c.take_span.new.self
    c.take_span.new.item c.take_span.ensures.senders
    (c.take_span.ensures.word c.if-take_span.true)

pub returns-then-take_span-clause-hears : goal.returns-then-take_span-clause-hears
returns-then-take_span-clause-hears g c =
    let load = c.load_word_in_turn-last in
    let is = c.in-Some.ensures.span in
    span_heard c.loop-i.invariant.1 c.requires.span is
    (c.loop-i.auto.i-end (some_words c.args.listener.now.reader c.in-Some.span is)) load.result
    load.ensures.finds (ap (λ (z : TableId). z.words) load.ensures.table.0) c.loop-i-test.false
    c.loop-i.item c.append_word-2.new.self c.append_word-2.ensures c.take_span.new.self
    c.take_span.new.item c.take_span.ensures.senders
    (c.take_span.ensures.word c.if-take_span.true) c.args.item.now c.args.sign.now

pub returns-else-take_span-clause-receiver_view : goal.returns-else-take_span-clause-receiver_view
returns-else-take_span-clause-receiver_view g c =
    let load = c.load_word_in_turn-last in
    let is = c.in-Some.ensures.span in
    absurd (never_bad c.loop-i.invariant.1 c.requires.span is
    (c.loop-i.auto.i-end (some_words c.args.listener.now.reader c.in-Some.span is)) load.result
    load.ensures.finds (ap (λ (z : TableId). z.words) load.ensures.table.0) c.loop-i-test.false
    c.loop-i.item c.append_word-2.new.self c.append_word-2.ensures
    (c.take_span.ensures.bad c.if-take_span.false))

pub returns-else-take_span-clause-hears : goal.returns-else-take_span-clause-hears
returns-else-take_span-clause-hears g c =
    let load = c.load_word_in_turn-last in
    let is = c.in-Some.ensures.span in
    absurd (never_bad c.loop-i.invariant.1 c.requires.span is
    (c.loop-i.auto.i-end (some_words c.args.listener.now.reader c.in-Some.span is)) load.result
    load.ensures.finds (ap (λ (z : TableId). z.words) load.ensures.table.0) c.loop-i-test.false
    c.loop-i.item c.append_word-2.new.self c.append_word-2.ensures
    (c.take_span.ensures.bad c.if-take_span.false))
