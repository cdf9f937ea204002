use Rattle.std.proofs.Common.{◌≡◌, inr, slice_index, ◌+◌, ◌<◌, ◌≤◌, length, arith, subst, sym}
use Rattle.std.proofs.Common.{◌∙◌, ap}
use Rattle.atomic_table.specs.Seated.{TableId}
use Rattle.bus_core.specs.Senders.{Sender}
use Rattle.bus_tenure.specs.Elections.{Elector}
use Rattle.bus_pageslot.specs.ReceiverViews.{receiver_view_after_load}
use Rattle.bus_pageslot.specs.Rule.{known_in, log_word_in, receiver_view_in, table_layout_in}
use Rattle.bus_pageslot.specs.Rule.{with_receiver_view, MayRead}
use Rattle.bus_pageslot.specs.Buses.{BusId}
use Rattle.bus_pageslot.specs.Seats.{ReceiverSeat, receiver_seat, receiver_seat_of}
use Rattle.bus_pageslot.proofs.Hears.PassTurns.{cell_within, cell_is}
use Rattle.bus_pageslot.proofs.taps.Tap.load_word.Goals as goal

pub cell-requires : goal.cell-requires
cell-requires g c =
    let h = c.self.invariant in
    let some = h.cells.some in
    let capacity = h.cells.capacity_is in
    omega arith

pub overflow_add-at : goal.overflow_add-at
overflow_add-at g c =
    let h = c.self.invariant in
    let low = cell_within h.table_layout h.receiver_view.me c.self.inside.listener.cells h.cells
    c.args.place c.cell.result c.cell.ensures in
    let few = h.cells.few in
    omega arith

pub load_word-word-requires-clause-table : goal.load_word-word-requires-clause-table
load_word-word-requires-clause-table g c =
    let h = c.self.invariant in
    let seat = c.unwrap-seat.result in
    let S : Type 0 = ReceiverSeat (Sender (Elector g.row.Q.Denot)) in
    let there : receiver_seat_of c.self.inside.seat ≡ receiver_seat seat =
    ap receiver_seat_of (sym c.take.ensures.value ∙ c.unwrap-seat.ensures) in
    let table : seat.table_id ≡ c.bus.inside.words.table =
    ap (λ (s : S). s.table_id) (sym there ∙ c.self.view_is) ∙ c.requires.table
    ∙ sym (ap (λ (b : BusId). b.table) c.bus.view_is) in
    let wide : seat.table_id.words ≡ h.table_layout.words =
    ap (λ (s : S). s.table_id.words) (sym there) ∙ h.wide in
    let low = cell_within h.table_layout h.receiver_view.me c.self.inside.listener.cells h.cells
    c.args.place c.cell.result c.cell.ensures in (
      table,
      subst (λ (z : TableId). c.self.inside.listener.cells.log + c.cell.result < z.words) table
          (omega arith),
    )

pub load_word-word-requires-clause-tap : goal.load_word-word-requires-clause-tap
load_word-word-requires-clause-tap g c =
    let h = c.self.invariant in
    let seat = c.unwrap-seat.result in
    let S : Type 0 = ReceiverSeat (Sender (Elector g.row.Q.Denot)) in
    let there : receiver_seat_of c.self.inside.seat ≡ receiver_seat seat =
    ap receiver_seat_of (sym c.take.ensures.value ∙ c.unwrap-seat.ensures) in
    let view = ap (λ (s : S). s.me.0) (sym c.self.view_is) ∙ ap (λ m. m.0) h.me in
    let here : c.args.place < length h.receiver_view.known = subst
    (λ k. c.args.place < length (known_in k)) view c.requires.below in
    let past : h.receiver_view.passed ≤ c.args.place = subst
    (λ k. (receiver_view_in k).passed ≤ c.args.place) view c.requires.passed in (
      h.table_layout,
      h.receiver_view,
      ap (λ (s : S). s.me) (sym there) ∙ h.me,
      c.args.place,
      inr (h.stays, past),
      here,
      cell_is h.table_layout h.receiver_view.me c.self.inside.listener.cells h.cells c.args.place
          c.cell.result c.cell.ensures,
    )

pub returns-clause-loads : goal.returns-clause-loads
returns-clause-loads g c =
    let h = c.self.invariant in
    let seat = c.unwrap-seat.result in
    let S : Type 0 = ReceiverSeat (Sender (Elector g.row.Q.Denot)) in
    let there : receiver_seat_of c.self.inside.seat ≡ receiver_seat seat =
    ap receiver_seat_of (sym c.take.ensures.value ∙ c.unwrap-seat.ensures) in
    let mine : seat.me ≡ c.args.self.now.me = ap (λ (s : S). s.me) (sym there ∙ c.self.view_is) in
    let tap = ap (λ (s : S). s.me) (sym there) ∙ h.me in
    let word : c.self.inside.listener.cells.log + c.cell.result
    ≡ log_word_in c.args.self.now.me.0 c.args.place =
    cell_is h.table_layout h.receiver_view.me c.self.inside.listener.cells h.cells c.args.place
    c.cell.result c.cell.ensures
    ∙ ap (λ m. log_word_in m.0 c.args.place) (sym tap ∙ mine) in
    c.load_word-word.ensures.reads.now
    ∙ (λ i. (
      with_receiver_view (mine i).0
          (receiver_view_after_load (receiver_view_in (mine i).0) (word i)),
      (mine i).1,
    ))

pub returns-clause-word : goal.returns-clause-word
returns-clause-word g c =
    let h = c.self.invariant in
    let seat = c.unwrap-seat.result in
    let S : Type 0 = ReceiverSeat (Sender (Elector g.row.Q.Denot)) in
    let there : receiver_seat_of c.self.inside.seat ≡ receiver_seat seat =
    ap receiver_seat_of (sym c.take.ensures.value ∙ c.unwrap-seat.ensures) in
    let mine : seat.me ≡ c.args.self.now.me = ap (λ (s : S). s.me) (sym there ∙ c.self.view_is) in
    let tap = ap (λ (s : S). s.me) (sym there) ∙ h.me in
    let view = ap (λ (s : S). s.me.0) (sym c.self.view_is) ∙ ap (λ m. m.0) h.me in
    let past : h.receiver_view.passed ≤ c.args.place = subst
    (λ k. (receiver_view_in k).passed ≤ c.args.place) view c.requires.passed in
    c.load_word-word.ensures.reads.got_is c.args.place
    (subst (λ m. MayRead (table_layout_in m.0) (receiver_view_in m.0) c.args.place) (sym tap)
    (inr (h.stays, past)))
    (subst (λ m. c.args.place < length (known_in m.0)) (sym mine) c.requires.below)
    (cell_is h.table_layout h.receiver_view.me c.self.inside.listener.cells h.cells c.args.place
    c.cell.result c.cell.ensures
    ∙ ap (λ m. log_word_in m.0 c.args.place) (sym tap))
    ∙ ap (λ m. slice_index (known_in m.0) c.args.place) mine
