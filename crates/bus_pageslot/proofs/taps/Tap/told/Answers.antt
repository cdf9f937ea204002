use Rattle.std.proofs.Common.{◌≡◌, subst, sym, ◌∙◌, ap}
use Rattle.atomic_table.specs.Seated.{TableId}
use Rattle.bus_core.specs.Senders.{Sender}
use Rattle.bus_tenure.specs.Elections.{Elector}
use Rattle.bus_pageslot.specs.Seats.{ReceiverSeat, receiver_seat, receiver_seat_of, IsTap}
use Rattle.bus_pageslot.proofs.Hears.ReaderLaws.{learned}
use Rattle.bus_pageslot.proofs.taps.Tap.told.Goals as goal

pub invariant_of-self : goal.invariant_of-self
invariant_of-self g c =
    let seat = c.unwrap-mine.result in
    let S : Type 0 = ReceiverSeat (Sender (Elector g.row.Q.Denot)) in
    let there : receiver_seat_of c.self.inside.seat ≡ receiver_seat seat =
    ap receiver_seat_of (sym c.take.ensures.value ∙ c.unwrap-mine.ensures) in
    let tap : IsTap (receiver_seat seat) c.self.inside.listener =
    subst (λ (s : S). IsTap s c.self.inside.listener) there c.self.invariant in
    let told = c.tell-length in
    learned tap (ap (λ (z : TableId). z.words) told.ensures.table.1) c.learn.ensures.round
    c.learn.ensures.reader c.learn.ensures.keeps told.ensures.learns
