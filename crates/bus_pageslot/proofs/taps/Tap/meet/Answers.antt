use Rattle.std.proofs.Common.{◌≡◌, subst, sym, ◌∙◌, ap}
use Rattle.atomic_table.specs.Seated.{TableId}
use Rattle.bus_core.specs.Senders.{Sender}
use Rattle.bus_tenure.specs.Elections.{Elector}
use Rattle.bus_automaton.specs.Buses.{process_with}
use Rattle.bus_pageslot.specs.ReceiverViews.{Agree}
use Rattle.bus_pageslot.specs.Rule.{receiver_view_in}
use Rattle.bus_pageslot.specs.Seats.{ReceiverSeat, receiver_seat, receiver_seat_of, IsTap}
use Rattle.bus_pageslot.proofs.Hears.Joining.{met_of}
use Rattle.bus_pageslot.proofs.Hears.ReaderLaws.{learned}
use Rattle.bus_pageslot.proofs.taps.Tap.meet.Goals as goal

pub invariant_of-self : goal.invariant_of-self
invariant_of-self g c =
    let mine = c.unwrap-mine.result in
    let theirs = c.unwrap-theirs.result in
    let S : Type 0 = ReceiverSeat (Sender (Elector g.row.Q.Denot)) in
    let here : receiver_seat_of c.self.inside.seat ≡ receiver_seat mine =
    ap receiver_seat_of (sym c.take.ensures.value ∙ c.unwrap-mine.ensures) in
    let there : receiver_seat_of c.other.inside.seat ≡ receiver_seat theirs =
    ap receiver_seat_of (sym c.take-2.ensures.value ∙ c.unwrap-theirs.ensures) in
    let a : IsTap (receiver_seat mine) c.self.inside.listener =
    subst (λ (s : S). IsTap s c.self.inside.listener) here c.self.invariant in
    let b : IsTap (receiver_seat theirs) c.other.inside.listener =
    subst (λ (s : S). IsTap s c.other.inside.listener) there c.other.invariant in
    let length = c.meet-length in
    let met = met_of
    (process_with g.Q.Machine.kind_of g.Q.Machine.op g.Q.Machine.fed g.Q.Ratifier.protocol)
    a.table_layout a.receiver_view b.table_layout b.receiver_view mine.me theirs.me length.result.0
    length.new.seat.me length.result.1.me a.me b.me length.ensures.met in
    learned a (ap (λ (z : TableId). z.words) length.ensures.table.0) c.learn.ensures.round
    c.learn.ensures.reader c.learn.ensures.keeps met.0

pub invariant_of-other : goal.invariant_of-other
invariant_of-other g c =
    let mine = c.unwrap-mine.result in
    let theirs = c.unwrap-theirs.result in
    let S : Type 0 = ReceiverSeat (Sender (Elector g.row.Q.Denot)) in
    let here : receiver_seat_of c.self.inside.seat ≡ receiver_seat mine =
    ap receiver_seat_of (sym c.take.ensures.value ∙ c.unwrap-mine.ensures) in
    let there : receiver_seat_of c.other.inside.seat ≡ receiver_seat theirs =
    ap receiver_seat_of (sym c.take-2.ensures.value ∙ c.unwrap-theirs.ensures) in
    let a : IsTap (receiver_seat mine) c.self.inside.listener =
    subst (λ (s : S). IsTap s c.self.inside.listener) here c.self.invariant in
    let b : IsTap (receiver_seat theirs) c.other.inside.listener =
    subst (λ (s : S). IsTap s c.other.inside.listener) there c.other.invariant in
    let length = c.meet-length in
    let met = met_of
    (process_with g.Q.Machine.kind_of g.Q.Machine.op g.Q.Machine.fed g.Q.Ratifier.protocol)
    a.table_layout a.receiver_view b.table_layout b.receiver_view mine.me theirs.me length.result.0
    length.new.seat.me length.result.1.me a.me b.me length.ensures.met in
    let table =
    length.ensures.table.2 ∙ ap (λ (s : S). s.table_id) (sym here ∙ c.self.view_is)
    ∙ c.requires.table.0 ∙ sym c.requires.table.1
    ∙ ap (λ (s : S). s.table_id) (sym c.other.view_is ∙ there) in
    learned b (ap (λ (z : TableId). z.words) table) c.learn-2.ensures.round
    c.learn-2.ensures.reader c.learn-2.ensures.keeps met.1

pub returns-clause-agree : goal.returns-clause-agree
returns-clause-agree g c =
    let mine = c.unwrap-mine.result in
    let theirs = c.unwrap-theirs.result in
    let S : Type 0 = ReceiverSeat (Sender (Elector g.row.Q.Denot)) in
    let here : receiver_seat_of c.self.inside.seat ≡ receiver_seat mine =
    ap receiver_seat_of (sym c.take.ensures.value ∙ c.unwrap-mine.ensures) in
    let there : receiver_seat_of c.other.inside.seat ≡ receiver_seat theirs =
    ap receiver_seat_of (sym c.take-2.ensures.value ∙ c.unwrap-theirs.ensures) in
    let a : IsTap (receiver_seat mine) c.self.inside.listener =
    subst (λ (s : S). IsTap s c.self.inside.listener) here c.self.invariant in
    let b : IsTap (receiver_seat theirs) c.other.inside.listener =
    subst (λ (s : S). IsTap s c.other.inside.listener) there c.other.invariant in
    let length = c.meet-length in
    let met = met_of
    (process_with g.Q.Machine.kind_of g.Q.Machine.op g.Q.Machine.fed g.Q.Ratifier.protocol)
    a.table_layout a.receiver_view b.table_layout b.receiver_view mine.me theirs.me length.result.0
    length.new.seat.me length.result.1.me a.me b.me length.ensures.met in
    subst (λ (y : S × S). Agree (receiver_view_in y.0.me.0) (receiver_view_in y.1.me.0))
    (λ i. ((sym here ∙ c.self.view_is) i, (sym there ∙ c.other.view_is) i)) met.3
