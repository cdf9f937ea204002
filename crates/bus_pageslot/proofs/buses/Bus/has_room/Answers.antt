use Rattle.std.proofs.Common.{subst, sym, ◌∙◌, ap}
use Rattle.bus_automaton.specs.Buses.{process_with, automaton_with}
use Rattle.bus_pageslot.specs.Buses.{BusId}
use Rattle.bus_tenure.specs.Core.{length_at}
use Rattle.bus_pageslot.specs.Looks.{IsFoundOn, IsSenders}
use Rattle.bus_pageslot.proofs.Sends.Looking.{looked, senders_look}
use Rattle.bus_pageslot.proofs.buses.Bus.has_room.Goals as goal

pub returns-clause-looked : goal.returns-clause-looked
returns-clause-looked g c =
    let P = process_with g.Q.Machine.kind_of g.Q.Machine.op g.Q.Machine.fed g.Q.Ratifier.protocol in
    let B =
    automaton_with g.Q.Machine.kind_of g.Q.Machine.op g.Q.Machine.fed g.Q.Ratifier.protocol in
    let A = B c.args.self.now.plan in
    let m = c.args.seat.now.me.0 in
    let len = c.look-length.result in
    looked P A m c.look-length.new.seat.me.0 c.floor_seen-floor.new.seat.me.0 c.args.many len
    c.floor_seen-floor.result c.self.inside.places.log_words c.fits.result
    (subst (λ (b : BusId). IsFoundOn P (B b.plan) m length_at len) c.self.view_is
    c.look-length.ensures.found)
    (ap (λ m. m.0) c.look-length.ensures.looks)
    c.floor_seen-floor.ensures.floor
    (c.self.invariant.4.log_words
    ∙ ap (λ (b : BusId). (B b.plan).table_layout.capacity) c.self.view_is)
    c.fits.ensures

pub returns-clause-slots : goal.returns-clause-slots
returns-clause-slots g c =
    c.floor_seen-floor.ensures.slots ∙ ap (λ m. m.1) c.look-length.ensures.looks

pub floor_seen-floor-requires-clause-sender : goal.floor_seen-floor-requires-clause-sender
floor_seen-floor-requires-clause-sender g c =
    subst IsSenders (sym (ap (λ m. m.0) c.look-length.ensures.looks))
    (senders_look (record { word = length_at; found = c.look-length.result }) c.args.seat.now.me.0
    c.requires.sender)
