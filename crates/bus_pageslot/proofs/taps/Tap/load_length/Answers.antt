use Rattle.std.proofs.Common.{◌≡◌, ◌<◌, arith, subst, sym, ◌∙◌, ap}
use Rattle.atomic_table.specs.Seated.{TableId}
use Rattle.bus_core.specs.Senders.{Sender}
use Rattle.bus_tenure.specs.Elections.{Elector}
use Rattle.bus_pageslot.specs.Buses.{BusId}
use Rattle.bus_pageslot.specs.Seats.{ReceiverSeat, receiver_seat, receiver_seat_of, IsTap}
use Rattle.bus_pageslot.proofs.Hears.ReaderLaws.{learned}
use Rattle.bus_pageslot.proofs.taps.Tap.load_length.Goals as goal

pub load_length-length-requires-clause-table : goal.load_length-length-requires-clause-table
load_length-length-requires-clause-table g c =
    let h = c.self.invariant in
    let seat = c.unwrap-seat.result in
    let S : Type 0 = ReceiverSeat (Sender (Elector g.row.Q.Denot)) in
    let there : receiver_seat_of c.self.inside.seat ≡ receiver_seat seat =
    ap receiver_seat_of (sym c.take.ensures.value ∙ c.unwrap-seat.ensures) in
    let table : seat.table_id ≡ c.bus.inside.words.table =
    ap (λ (s : S). s.table_id) (sym there ∙ c.self.view_is) ∙ c.requires
    ∙ sym (ap (λ (b : BusId). b.table) c.bus.view_is) in
    let wide : seat.table_id.words ≡ h.table_layout.words =
    ap (λ (s : S). s.table_id.words) (sym there) ∙ h.wide in (
      table,
      subst (λ (z : TableId). 0 < z.words) table
          (let room = h.cells.room in let behind = h.cells.behind in omega arith),
    )

pub load_length-length-requires-clause-tap : goal.load_length-length-requires-clause-tap
load_length-length-requires-clause-tap g c =
    let h = c.self.invariant in
    let seat = c.unwrap-seat.result in
    let S : Type 0 = ReceiverSeat (Sender (Elector g.row.Q.Denot)) in
    let there : receiver_seat_of c.self.inside.seat ≡ receiver_seat seat =
    ap receiver_seat_of (sym c.take.ensures.value ∙ c.unwrap-seat.ensures) in
    (h.table_layout, h.receiver_view, ap (λ (s : S). s.me) (sym there) ∙ h.me, h.stays)

pub invariant_of-self : goal.invariant_of-self
invariant_of-self g c =
    let seat = c.unwrap-seat.result in
    let S : Type 0 = ReceiverSeat (Sender (Elector g.row.Q.Denot)) in
    let there : receiver_seat_of c.self.inside.seat ≡ receiver_seat seat =
    ap receiver_seat_of (sym c.take.ensures.value ∙ c.unwrap-seat.ensures) in
    let a : IsTap (receiver_seat seat) c.self.inside.listener =
    subst (λ (s : S). IsTap s c.self.inside.listener) there c.self.invariant in
    let load = c.load_length-length in
    learned a (ap (λ (z : TableId). z.words) load.ensures.table.0) c.learn.ensures.round
    c.learn.ensures.reader c.learn.ensures.keeps load.ensures.learns
