use Rattle.std.proofs.Common.{◌<◌, arith, ap, sym, subst, ◌∙◌}
use Rattle.atomic_table.specs.Seated.{TableId}
use Rattle.bus_core.specs.Senders.{Sender}
use Rattle.bus_tenure.specs.Elections.{Elector}
use Rattle.bus_automaton.specs.Buses.{process_with}
use Rattle.bus_pageslot.specs.Buses.{BusId}
use Rattle.bus_pageslot.specs.Rule.{sender_trail_in, notes_in, stored_in, known_in}
use Rattle.bus_pageslot.specs.Steps.{KnowsSent}
use Rattle.bus_pageslot.specs.Seats.{SenderSeat, table_of, actions_of, stored_of}
use Rattle.bus_pageslot.proofs.Sends.Puts.{actions_are, shows_same}
use Rattle.bus_pageslot.proofs.Hears.Joining.{told_of}
use Rattle.bus_pageslot.proofs.seats.Sender.tell.Goals as goal

pub meet-requires-clause-table : goal.meet-requires-clause-table
meet-requires-clause-table g c =
    let h = c.self.invariant.0 in
    let some = c.threads_may_go_by.ensures.process.some_words c.self.inside.core in
    let here =
    ap table_of c.self.view_is ∙ c.requires.table.0
    ∙ sym (ap (λ (b : BusId). b.table) c.bus.view_is) in (
      here,
      c.requires.table.1 ∙ sym (ap (λ (b : BusId). b.table) c.bus.view_is),
      subst (λ (t : TableId). 0 < t.words) here (let w = h.words in omega arith),
    )

pub invariant_of-self : goal.invariant_of-self
invariant_of-self g c =
    let P = process_with g.Q.Machine.kind_of g.Q.Machine.op g.Q.Machine.fed g.Q.Ratifier.protocol in
    let h = c.self.invariant.0 in
    let n = c.requires.tap in
    let seat = c.self.inside.seat in
    let told = told_of P h.shown (sender_trail_in seat.me.0) (notes_in seat.me.0) _ n.0 n.1 seat.me
    c.args.tap.me c.meet.result.0 c.meet.new.seat.me c.meet.result.1.me h.me n.2
    c.meet.ensures.met in (
      shows_same P c.threads_may_go_by.ensures.process c.self.inside.core seat h c.meet.new.seat
          told.0 c.meet.ensures.table.0,
      c.self.invariant.1 ∙ ap (λ m. stored_in m.0) (sym told.0),
    )

pub returns-clause-sent : goal.returns-clause-sent
returns-clause-sent g c =
    let P = process_with g.Q.Machine.kind_of g.Q.Machine.op g.Q.Machine.fed g.Q.Ratifier.protocol in
    let h = c.self.invariant.0 in
    let n = c.requires.tap in
    let seat = c.self.inside.seat in
    let core = c.self.inside.core in
    let known = known_in c.meet.result.1.me.0 in
    let told = told_of P h.shown (sender_trail_in seat.me.0) (notes_in seat.me.0) _ n.0 n.1 seat.me
    c.args.tap.me c.meet.result.0 c.meet.new.seat.me c.meet.result.1.me h.me n.2
    c.meet.ensures.met in
    subst (λ (s : SenderSeat (Sender (Elector g.row.Q.Denot))).
    KnowsSent P s.core (actions_of P s) (stored_of s) known) c.self.view_is
    (subst (λ l. KnowsSent P core l (stored_in seat.me.0) known)
    (sym (actions_are P c.threads_may_go_by.ensures.process core seat h core h.actions h.accepts))
    (told.2 core h.actions h.accepts))
