use Rattle.std.proofs.Common.{◌≡◌, ◌<◌, ◌++◌, ap, sym, ◌∙◌, subst}
use Rattle.bus_automaton.specs.Buses.{process_with, automaton_with}
use Rattle.bus_core.specs.Senders.{Sender}
use Rattle.bus_tenure.specs.Elections.{Elector}
use Rattle.std.specs.Prelude.{IsTrue, ◌↔◌}
use Rattle.bus_pageslot.specs.Looks.{FitsBy, HasLooked, IsSenders, LooksOn, batch_len, room_looks}
use Rattle.bus_pageslot.specs.Rule.{Sat}
use Rattle.bus_pageslot.specs.Room.{Fits}
use Rattle.bus_pageslot.specs.Seats.{SenderSeat, sender_trail_of, notes_of}
use Rattle.bus_pageslot.proofs.Sends.Looking.{never_fits, shows_looked, looks_keep, looks_shown}
use Rattle.bus_pageslot.proofs.Ruled.OwnLayouts.{looked_fits, looked_layout}
use Rattle.bus_pageslot.proofs.seats.Sender.has_room.Goals as goal

pub invariant_of-self : goal.invariant_of-self
invariant_of-self g c =
    let P = process_with g.Q.Machine.kind_of g.Q.Machine.op g.Q.Machine.fed g.Q.Ratifier.protocol in
    let A =
    automaton_with g.Q.Machine.kind_of g.Q.Machine.op g.Q.Machine.fed g.Q.Ratifier.protocol
    c.args.bus.now.plan in
    let room = c.has_room.ensures in
    let h = shows_looked P A c.self.inside.core c.self.inside.seat c.has_room.new.seat
    c.batch_len-many.result c.has_room.result c.self.invariant.0 room.table.0 room.slots
    room.looked in (h.0, c.self.invariant.1 ∙ sym h.1)

pub has_room-requires-clause-sender : goal.has_room-requires-clause-sender
has_room-requires-clause-sender g c =
    subst IsSenders (sym (ap (λ (m : Sat (Sender (Elector g.row.Q.Denot))). m.0)
    c.self.invariant.0.me)) tt

pub returns-clause-looked : goal.returns-clause-looked
returns-clause-looked g c =
    let P = process_with g.Q.Machine.kind_of g.Q.Machine.op g.Q.Machine.fed g.Q.Ratifier.protocol in
    let A =
    automaton_with g.Q.Machine.kind_of g.Q.Machine.op g.Q.Machine.fed g.Q.Ratifier.protocol
    c.args.bus.now.plan in
    let laws = c.threads_may_go_by.ensures in
    let many_is : c.batch_len-many.result ≡ batch_len P c.args.self.now.core =
    c.batch_len-many.ensures in
    let new : SenderSeat (Sender (Elector g.row.Q.Denot)) = record {
      core = c.self.inside.core;
      seat = c.has_room.new.seat;
    } in
    let same = c.self.view_is in
    let room = c.has_room.ensures in
    record {
      core = ap (λ s. s.core) same;
      table = room.table.0 ∙ ap (λ s. s.seat.table_id) same;
      id = room.table.1 ∙ ap (λ s. s.seat.id) same;
      slots = room.slots ∙ ap (λ s. s.seat.me.1) same;
      did = looks_keep P A (room_looks A.table_layout room.looked.found) c.self.inside.seat.me.0
          c.has_room.new.seat.me.0 c.self.inside.core room.looked.looked
          ∙ ap (λ s. sender_trail_of P s) same;
      layout =
          sym (looked_layout P A laws.process (laws.automaton c.args.bus.now.plan)
          c.self.inside.core c.self.inside.seat c.self.invariant.0 c.has_room.new.seat.me.0
          c.batch_len-many.result c.has_room.result room.looked)
          ∙ ap (λ s. P.table_layout s.core) same;
      shown = looks_shown P A c.self.inside.core c.self.inside.seat c.has_room.new.seat.me.0
          c.batch_len-many.result c.has_room.result c.self.invariant.0 room.looked
          ∙ ap (λ s. (notes_of s).looks ++ room_looks A.table_layout room.looked.found) same;
      looked = record {
        found = room.looked.found;
        looked = subst (λ (s : SenderSeat (Sender (Elector g.row.Q.Denot))).
            LooksOn P A s.seat.me.0 (room_looks A.table_layout room.looked.found)
            c.has_room.new.seat.me.0) same room.looked.looked;
        says = subst (λ n. IsTrue c.has_room.result ↔ FitsBy A.table_layout room.looked.found n)
            many_is room.looked.says;
      };
    }

pub returns-clause-fits : goal.returns-clause-fits
returns-clause-fits g c found =
    let P = process_with g.Q.Machine.kind_of g.Q.Machine.op g.Q.Machine.fed g.Q.Ratifier.protocol in
    let B =
    automaton_with g.Q.Machine.kind_of g.Q.Machine.op g.Q.Machine.fed g.Q.Ratifier.protocol in
    let A = B c.args.bus.now.plan in
    let seat = c.self.inside.seat in
    let new = c.has_room.new.seat.me.0 in
    let many_is : c.batch_len-many.result ≡ batch_len P c.self.inside.core =
    c.batch_len-many.ensures ∙ ap (λ s. batch_len P s.core) (sym c.self.view_is) in
    subst (λ (s : SenderSeat (Sender (Elector g.row.Q.Denot))). Fits P s.core) c.self.view_is
    (looked_fits P A c.threads_may_go_by.ensures.process
    (c.threads_may_go_by.ensures.automaton c.args.bus.now.plan) c.self.inside.core seat
    c.self.invariant.0 new c.has_room.result
    (subst (λ n. HasLooked P A seat.me.0 n c.has_room.result new) many_is
    c.has_room.ensures.looked) found)

pub returns-clause-never : goal.returns-clause-never
returns-clause-never g c long =
    let P = process_with g.Q.Machine.kind_of g.Q.Machine.op g.Q.Machine.fed g.Q.Ratifier.protocol in
    let A =
    automaton_with g.Q.Machine.kind_of g.Q.Machine.op g.Q.Machine.fed g.Q.Ratifier.protocol
    c.args.bus.now.plan in
    let many_is : c.batch_len-many.result ≡ batch_len P c.args.self.now.core =
    c.batch_len-many.ensures in
    never_fits P A c.self.inside.seat.me.0 c.has_room.new.seat.me.0 c.batch_len-many.result
    c.has_room.result c.has_room.ensures.looked
    (subst (λ n. A.table_layout.capacity < n) (sym many_is) long)
