use Rattle.std.proofs.Common.{◌≡◌, ◌<◌, true, false, Option, Some, None, subst, sym, ◌∙◌, ap}
use Rattle.std.specs.Prelude.{IfNone, is_some}
use Rattle.atomic_table.specs.Seated.{TableId}
use Rattle.bus_automaton.specs.Buses.{automaton_with, process_with}
use Rattle.bus_automaton.specs.Processes.{passed_word}
use Rattle.bus_core.specs.Senders.{Sender}
use Rattle.bus_tenure.specs.Elections.{Elector}
use Rattle.bus_pageslot.specs.Looks.{IsFoundOn, IsTakenOn}
use Rattle.bus_register.specs.declared.limits.TheConstants.{PASSED_ALL}
use Rattle.bus_pageslot.specs.Rule.{receiver_view_in, table_layout_in}
use Rattle.bus_pageslot.specs.Seats.{IsTap, ReceiverSeat, receiver_seat, receiver_seat_of}
use Rattle.bus_pageslot.specs.Steps.{HasTriedBy, IsForkOf}
use Rattle.bus_pageslot.proofs.Hears.ForkedTaps.{forked_tap, passed_here, passed_there, tried_tap}
use Rattle.bus_pageslot.proofs.Hears.ForkedTaps.{up_here}
use Rattle.bus_pageslot.proofs.taps.Tap.fork.Goals as goal

if_none : {A : Type 0} {B : Type 0} (o : Option A) → B → IfNone o B
if_none None holds = holds
if_none (Some x) holds = tt

pub fork_seat-made-requires-clause-tap : goal.fork_seat-made-requires-clause-tap
fork_seat-made-requires-clause-tap g c =
    let S : Type 0 = ReceiverSeat (Sender (Elector g.row.Q.Denot)) in
    let seat = c.unwrap-seat.result in
    let there : receiver_seat_of c.self.inside.seat ≡ receiver_seat seat =
    ap receiver_seat_of (sym c.take.ensures.value ∙ c.unwrap-seat.ensures) in
    let mine : c.args.self.now.me ≡ seat.me =
    ap (λ (s : S). s.me) (sym c.self.view_is ∙ there) in
    let a : IsTap (receiver_seat seat) c.self.inside.listener =
    subst (λ (s : S). IsTap s c.self.inside.listener) there c.self.invariant in
    let up = subst (λ m. 0 < (table_layout_in m.0).passers
    → (receiver_view_in m.0).me < c.args.number) mine c.requires.above in
    let low = subst (λ m. 0 < (table_layout_in m.0).passers
    → c.args.number < (table_layout_in m.0).passers) mine c.requires.below in
    let cells = c.of-cells.ensures in (
      a.table_layout,
      a.receiver_view,
      c.args.number,
      a.me,
      a.stays,
      up_here a c.args.number c.of-cells.result cells.ring cells.flat up low,
      a.passed,
      passed_here a c.args.number c.of-cells.result cells.ring cells.flat up low,
      sym a.wide
          ∙ ap (λ (z : TableId). z.words)
          (ap (λ (s : S). s.table_id) (sym there ∙ c.self.view_is) ∙ c.requires.table),
    )

pub invariant_of-self : goal.invariant_of-self
invariant_of-self g c =
    let S : Type 0 = ReceiverSeat (Sender (Elector g.row.Q.Denot)) in
    let seat = c.unwrap-seat.result in
    let there : receiver_seat_of c.self.inside.seat ≡ receiver_seat seat =
    ap receiver_seat_of (sym c.take.ensures.value ∙ c.unwrap-seat.ensures) in
    let mine : c.args.self.now.me ≡ seat.me =
    ap (λ (s : S). s.me) (sym c.self.view_is ∙ there) in
    let a : IsTap (receiver_seat seat) c.self.inside.listener =
    subst (λ (s : S). IsTap s c.self.inside.listener) there c.self.invariant in
    let up = subst (λ m. 0 < (table_layout_in m.0).passers
    → (receiver_view_in m.0).me < c.args.number) mine c.requires.above in
    let low = subst (λ m. 0 < (table_layout_in m.0).passers
    → c.args.number < (table_layout_in m.0).passers) mine c.requires.below in
    let cells = c.of-cells.ensures in
    let tries = c.fork_seat-made.ensures.tries c.args.number
    (passed_there a c.args.number c.of-cells.result cells.ring cells.flat up low) in
    tried_tap a c.args.number c.of-cells.result cells.ring cells.flat up low tries
    (ap (λ (z : TableId). z.words) c.fork_seat-made.ensures.table.0)

pub invariant_of-self-2 : goal.invariant_of-self-2
invariant_of-self-2 g c =
    let S : Type 0 = ReceiverSeat (Sender (Elector g.row.Q.Denot)) in
    let seat = c.unwrap-seat.result in
    let there : receiver_seat_of c.self.inside.seat ≡ receiver_seat seat =
    ap receiver_seat_of (sym c.take.ensures.value ∙ c.unwrap-seat.ensures) in
    let mine : c.args.self.now.me ≡ seat.me =
    ap (λ (s : S). s.me) (sym c.self.view_is ∙ there) in
    let a : IsTap (receiver_seat seat) c.self.inside.listener =
    subst (λ (s : S). IsTap s c.self.inside.listener) there c.self.invariant in
    let up = subst (λ m. 0 < (table_layout_in m.0).passers
    → (receiver_view_in m.0).me < c.args.number) mine c.requires.above in
    let low = subst (λ m. 0 < (table_layout_in m.0).passers
    → c.args.number < (table_layout_in m.0).passers) mine c.requires.below in
    let cells = c.of-cells.ensures in
    let tries = c.fork_seat-made.ensures.tries c.args.number
    (passed_there a c.args.number c.of-cells.result cells.ring cells.flat up low) in
    tried_tap a c.args.number c.of-cells.result cells.ring cells.flat up low tries
    (ap (λ (z : TableId). z.words) c.fork_seat-made.ensures.table.0)

pub returns-in_err-made-clause-tries : goal.returns-in_err-made-clause-tries
returns-in_err-made-clause-tries g c =
    let S : Type 0 = ReceiverSeat (Sender (Elector g.row.Q.Denot)) in
    let seat = c.unwrap-seat.result in
    let there : receiver_seat_of c.self.inside.seat ≡ receiver_seat seat =
    ap receiver_seat_of (sym c.take.ensures.value ∙ c.unwrap-seat.ensures) in
    let mine : c.args.self.now.me ≡ seat.me =
    ap (λ (s : S). s.me) (sym c.self.view_is ∙ there) in
    let a : IsTap (receiver_seat seat) c.self.inside.listener =
    subst (λ (s : S). IsTap s c.self.inside.listener) there c.self.invariant in
    let up = subst (λ m. 0 < (table_layout_in m.0).passers
    → (receiver_view_in m.0).me < c.args.number) mine c.requires.above in
    let low = subst (λ m. 0 < (table_layout_in m.0).passers
    → c.args.number < (table_layout_in m.0).passers) mine c.requires.below in
    let cells = c.of-cells.ensures in
    subst (λ made. HasTriedBy c.args.self.now.me c.args.number made c.fork_seat-made.new.seat.me)
    (ap is_some (sym c.from_residual.ensures))
    (subst (λ m. HasTriedBy m c.args.number false c.fork_seat-made.new.seat.me) (sym mine)
    (c.in_err-made.ensures.tries c.args.number
    (passed_there a c.args.number c.of-cells.result cells.ring cells.flat up low)))

pub returns-clause-tries : goal.returns-clause-tries
returns-clause-tries g c =
    let S : Type 0 = ReceiverSeat (Sender (Elector g.row.Q.Denot)) in
    let seat = c.unwrap-seat.result in
    let there : receiver_seat_of c.self.inside.seat ≡ receiver_seat seat =
    ap receiver_seat_of (sym c.take.ensures.value ∙ c.unwrap-seat.ensures) in
    let mine : c.args.self.now.me ≡ seat.me =
    ap (λ (s : S). s.me) (sym c.self.view_is ∙ there) in
    let a : IsTap (receiver_seat seat) c.self.inside.listener =
    subst (λ (s : S). IsTap s c.self.inside.listener) there c.self.invariant in
    let up = subst (λ m. 0 < (table_layout_in m.0).passers
    → (receiver_view_in m.0).me < c.args.number) mine c.requires.above in
    let low = subst (λ m. 0 < (table_layout_in m.0).passers
    → c.args.number < (table_layout_in m.0).passers) mine c.requires.below in
    let cells = c.of-cells.ensures in
    subst (λ m. HasTriedBy m c.args.number true c.fork_seat-made.new.seat.me) (sym mine)
    (c.in_ok-made.ensures.tries c.args.number
    (passed_there a c.args.number c.of-cells.result cells.ring cells.flat up low))

pub returns-in_err-made-clause-taken : goal.returns-in_err-made-clause-taken
returns-in_err-made-clause-taken g c =
    let S : Type 0 = ReceiverSeat (Sender (Elector g.row.Q.Denot)) in
    let seat = c.unwrap-seat.result in
    let there : receiver_seat_of c.self.inside.seat ≡ receiver_seat seat =
    ap receiver_seat_of (sym c.take.ensures.value ∙ c.unwrap-seat.ensures) in
    let mine : c.args.self.now.me ≡ seat.me =
    ap (λ (s : S). s.me) (sym c.self.view_is ∙ there) in
    let a : IsTap (receiver_seat seat) c.self.inside.listener =
    subst (λ (s : S). IsTap s c.self.inside.listener) there c.self.invariant in
    let up = subst (λ m. 0 < (table_layout_in m.0).passers
    → (receiver_view_in m.0).me < c.args.number) mine c.requires.above in
    let low = subst (λ m. 0 < (table_layout_in m.0).passers
    → c.args.number < (table_layout_in m.0).passers) mine c.requires.below in
    let cells = c.of-cells.ensures in
    let P = process_with g.Q.Machine.kind_of g.Q.Machine.op g.Q.Machine.fed g.Q.Ratifier.protocol in
    let A =
    automaton_with g.Q.Machine.kind_of g.Q.Machine.op g.Q.Machine.fed g.Q.Ratifier.protocol
    c.args.bus.now.plan in
    if_none c.from_residual.result
    (subst (λ m. IsTakenOn P A m (passed_word (table_layout_in m.0) c.args.number)
    c.fork_seat-made.new.seat.me) (sym mine)
    (c.in_err-made.ensures.taken c.args.number
    (passed_there a c.args.number c.of-cells.result cells.ring cells.flat up low)))

pub invariant_of-result : goal.invariant_of-result
invariant_of-result g c =
    let S : Type 0 = ReceiverSeat (Sender (Elector g.row.Q.Denot)) in
    let seat = c.unwrap-seat.result in
    let there : receiver_seat_of c.self.inside.seat ≡ receiver_seat seat =
    ap receiver_seat_of (sym c.take.ensures.value ∙ c.unwrap-seat.ensures) in
    let mine : c.args.self.now.me ≡ seat.me =
    ap (λ (s : S). s.me) (sym c.self.view_is ∙ there) in
    let a : IsTap (receiver_seat seat) c.self.inside.listener =
    subst (λ (s : S). IsTap s c.self.inside.listener) there c.self.invariant in
    let up = subst (λ m. 0 < (table_layout_in m.0).passers
    → (receiver_view_in m.0).me < c.args.number) mine c.requires.above in
    let low = subst (λ m. 0 < (table_layout_in m.0).passers
    → c.args.number < (table_layout_in m.0).passers) mine c.requires.below in
    let cells = c.of-cells.ensures in
    let made = c.in_ok-made.ensures.made c.args.number
    (passed_there a c.args.number c.of-cells.result cells.ring cells.flat up low) in
    let copied = c.copied.ensures in
    forked_tap a c.args.number c.of-cells.result cells.ring cells.flat up low made
    (ap (λ (z : TableId). z.words) c.in_ok-made.ensures.table.1) copied.round copied.reader
    copied.passed copied.cells

pub returns-clause-made : goal.returns-clause-made
returns-clause-made g c =
    let S : Type 0 = ReceiverSeat (Sender (Elector g.row.Q.Denot)) in
    let seat = c.unwrap-seat.result in
    let there : receiver_seat_of c.self.inside.seat ≡ receiver_seat seat =
    ap receiver_seat_of (sym c.take.ensures.value ∙ c.unwrap-seat.ensures) in
    let mine : c.args.self.now.me ≡ seat.me =
    ap (λ (s : S). s.me) (sym c.self.view_is ∙ there) in
    let a : IsTap (receiver_seat seat) c.self.inside.listener =
    subst (λ (s : S). IsTap s c.self.inside.listener) there c.self.invariant in
    let up = subst (λ m. 0 < (table_layout_in m.0).passers
    → (receiver_view_in m.0).me < c.args.number) mine c.requires.above in
    let low = subst (λ m. 0 < (table_layout_in m.0).passers
    → c.args.number < (table_layout_in m.0).passers) mine c.requires.below in
    let cells = c.of-cells.ensures in
    subst (λ m. IsForkOf m c.args.number c.in_ok-made.made.me) (sym mine)
    (c.in_ok-made.ensures.made c.args.number
    (passed_there a c.args.number c.of-cells.result cells.ring cells.flat up low))

pub returns-clause-free : goal.returns-clause-free
returns-clause-free g c any =
    let S : Type 0 = ReceiverSeat (Sender (Elector g.row.Q.Denot)) in
    let seat = c.unwrap-seat.result in
    let there : receiver_seat_of c.self.inside.seat ≡ receiver_seat seat =
    ap receiver_seat_of (sym c.take.ensures.value ∙ c.unwrap-seat.ensures) in
    let mine : c.args.self.now.me ≡ seat.me =
    ap (λ (s : S). s.me) (sym c.self.view_is ∙ there) in
    let a : IsTap (receiver_seat seat) c.self.inside.listener =
    subst (λ (s : S). IsTap s c.self.inside.listener) there c.self.invariant in
    let up = subst (λ m. 0 < (table_layout_in m.0).passers
    → (receiver_view_in m.0).me < c.args.number) mine c.requires.above in
    let low = subst (λ m. 0 < (table_layout_in m.0).passers
    → c.args.number < (table_layout_in m.0).passers) mine c.requires.below in
    let cells = c.of-cells.ensures in
    let P = process_with g.Q.Machine.kind_of g.Q.Machine.op g.Q.Machine.fed g.Q.Ratifier.protocol in
    let A =
    automaton_with g.Q.Machine.kind_of g.Q.Machine.op g.Q.Machine.fed g.Q.Ratifier.protocol
    c.args.bus.now.plan in
    subst
    (λ m. IsFoundOn P A m.0 (passed_word (table_layout_in m.0) c.args.number) PASSED_ALL)
    (sym mine)
    (c.in_ok-made.ensures.free c.args.number
    (passed_there a c.args.number c.of-cells.result cells.ring cells.flat up low)
    (subst (λ m. 0 < (table_layout_in m.0).passers) mine any))
