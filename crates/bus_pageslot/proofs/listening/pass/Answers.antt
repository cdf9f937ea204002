use Rattle.std.proofs.Common.{◌<◌, arith, subst, sym, ◌∙◌, ap}
use Rattle.atomic_table.specs.Seated.{TableId}
use Rattle.bus_pageslot.specs.Seats.{IsReceiverView}
use Rattle.bus_pageslot.proofs.Hears.PassTurns.{its_own, has_passed, has_passers}
use Rattle.bus_pageslot.proofs.listening.pass.Goals as goal

pub store_passed-requires-clause-table : goal.store_passed-requires-clause-table
store_passed-requires-clause-table g c =
    let h = c.requires.receiver_view in
    let own = has_passers h.table_layout h.receiver_view.me c.args.at _ h.cells.passed_is
    c.requires.at in (
      c.requires.table,
      subst (λ (z : TableId). c.args.at < z.words) c.requires.table
          (let w = h.wide in let low = own.2 in omega arith),
    )

pub store_passed-requires-clause-tap : goal.store_passed-requires-clause-tap
store_passed-requires-clause-tap g c =
    let h = c.requires.receiver_view in
    let own = has_passers h.table_layout h.receiver_view.me c.args.at _ h.cells.passed_is
    c.requires.at in
    let due = its_own h c.requires.due in (
      h.table_layout,
      h.receiver_view,
      h.me,
      sym h.fit.ended ∙ c.requires.going,
      h.stays,
      due.0,
      due.2,
      own.1,
      c.place-place.ensures.place ∙ h.fit.place,
      due.1,
    )

pub returns-clause-receiver_view : goal.returns-clause-receiver_view
returns-clause-receiver_view g c =
    let store = c.store_passed in
    subst
    (λ n. IsReceiverView store.new.seat.me store.new.seat.table_id.words
    (record c.args.listener.now { passed = n }))
    (sym c.place-place.ensures.place)
    (has_passed c.requires.receiver_view (ap (λ (z : TableId). z.words) store.ensures.table.0)
    c.requires.due store.ensures.passed)
