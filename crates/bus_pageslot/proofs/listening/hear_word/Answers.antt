use Rattle.std.proofs.Common.{◌≢◌, inr, ◌<◌, arith, refl, subst, sym, ◌∙◌, ap}
use Rattle.atomic_table.specs.Seated.{TableId}
use Rattle.bus_deliverylog.specs.Receiving.{LogReading}
use Rattle.bus_deliverylog.specs.declared.receiving.RecvTurn.TheVariants as turn
use Rattle.bus_pageslot.proofs.Hears.PassTurns.{cell_below, cell_here}
use Rattle.bus_pageslot.proofs.Hears.Rounds.{not_known}
use Rattle.bus_pageslot.proofs.Hears.ReaderLaws.{word_receiver_view, word_heard, goes_on_after}
use Rattle.bus_pageslot.proofs.listening.hear_word.Goals as goal

pub load_word_in_turn-word-requires-clause-table : goal.load_word_in_turn-word-requires-clause-table
load_word_in_turn-word-requires-clause-table g c =
    let h = c.requires.receiver_view in
    let low = cell_below h in
    let at = c.at-at.ensures in
    let wide = h.wide in (
      c.requires.table,
      subst (λ (z : TableId). c.at-at.result < z.words) c.requires.table (omega arith),
    )

pub load_word_in_turn-word-requires-clause-tap : goal.load_word_in_turn-word-requires-clause-tap
load_word_in_turn-word-requires-clause-tap g c =
    let h = c.requires.receiver_view in
    let other = not_known c.args.listener.now h.round c.requires.below in
    let within = h.fit.within in
    let known = h.fit.known in
    let here = h.fit.place in (
      h.table_layout,
      h.receiver_view,
      h.me,
      sym h.fit.ended ∙ c.requires.going,
      inr (h.stays, h.past),
      omega (arith, other),
      c.at-at.ensures ∙ cell_here h,
    )

pub take_plain-requires-clause-unread : goal.take_plain-requires-clause-unread
take_plain-requires-clause-unread g c =
    not_known c.args.listener.now c.requires.receiver_view.round c.requires.below

pub take_word-requires-clause-below : goal.take_word-requires-clause-below
take_word-requires-clause-below g c =
    let same = c.take_plain.ensures.stays c.if-take_plain.false in
    subst (λ (r : LogReading). r.place ≢ r.known) (sym same)
    (not_known c.args.listener.now c.requires.receiver_view.round c.requires.below)

pub returns-then-take_plain-clause-receiver_view : goal.returns-then-take_plain-clause-receiver_view
returns-then-take_plain-clause-receiver_view g c =
    let load = c.load_word_in_turn-word in
    word_receiver_view c.requires.receiver_view load.ensures.finds
    (ap (λ (z : TableId). z.words) load.ensures.table.0) c.requires.going c.requires.below refl
    c.take_plain.ensures.senders (c.take_plain.ensures.word c.if-take_plain.true)

pub returns-then-take_plain-clause-hears : goal.returns-then-take_plain-clause-hears
returns-then-take_plain-clause-hears g c =
    let load = c.load_word_in_turn-word in (
      turn.Going,
      (refl, refl),
      refl,
      word_heard c.requires.receiver_view load.ensures.finds
          (ap (λ (z : TableId). z.words) load.ensures.table.0) c.requires.going c.requires.below
          refl c.take_plain.ensures.senders (c.take_plain.ensures.word c.if-take_plain.true),
    )

pub returns-then-take_plain-clause-plain : goal.returns-then-take_plain-clause-plain
returns-then-take_plain-clause-plain g c _ =
    let read = c.take_plain.ensures.read c.if-take_plain.true in
    let known = c.take_plain.ensures.known in
    let within = c.requires.receiver_view.fit.within in
    let other =
    not_known c.args.listener.now c.requires.receiver_view.round c.requires.below in (
      omega (arith, other),
      goes_on_after c.requires.receiver_view c.requires.going
          (c.take_plain.ensures.word c.if-take_plain.true),
    )

pub returns-clause-receiver_view : goal.returns-clause-receiver_view
returns-clause-receiver_view g c =
    let load = c.load_word_in_turn-word in
    word_receiver_view c.requires.receiver_view load.ensures.finds
    (ap (λ (z : TableId). z.words) load.ensures.table.0) c.requires.going c.requires.below
    (c.take_plain.ensures.stays c.if-take_plain.false) c.take_word.ensures.senders
    c.take_word.ensures.word.3

pub returns-clause-hears : goal.returns-clause-hears
returns-clause-hears g c =
    let load = c.load_word_in_turn-word in
    let taken = c.take_word.ensures.word in (
      taken.0,
      taken.1,
      taken.2,
      word_heard c.requires.receiver_view load.ensures.finds
          (ap (λ (z : TableId). z.words) load.ensures.table.0) c.requires.going c.requires.below
          (c.take_plain.ensures.stays c.if-take_plain.false) c.take_word.ensures.senders taken.3,
    )
