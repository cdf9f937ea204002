use Rattle.std.proofs.Common.{◌≡◌, ◌<◌, subst, sym, ◌∙◌, ap}
use Rattle.atomic_table.specs.Seated.{TableId}
use Rattle.atomic_table.specs.Table.{Allows}
use Rattle.bus_automaton.specs.Buses.{process_with, automaton_with}
use Rattle.bus_pageslot.specs.Buses.{BusId}
use Rattle.bus_pageslot.specs.Listening.{FindsWord}
use Rattle.bus_pageslot.specs.Rule.{TableInvariant, receiver_view_in, log_word_in}
use Rattle.bus_pageslot.proofs.Hears.Loads.{word_heard_allowed}
use Rattle.bus_pageslot.proofs.words.Words.load_word_in_turn.Goals as goal

pub load-requires : goal.load-requires
load-requires g c =
    let P = process_with g.Q.Machine.kind_of g.Q.Machine.op g.Q.Machine.fed g.Q.Ratifier.protocol in
    let A = automaton_with g.Q.Machine.kind_of g.Q.Machine.op g.Q.Machine.fed g.Q.Ratifier.protocol
    c.self.inside.table.shared.key in
    let slots = c.self.inside.table.shared.table_id.slots in
    let table = sym (ap (λ (b : BusId). b.table) c.self.view_is) in
    let seat = c.args.seat.now in
    let tap = c.requires.tap in (
      c.requires.table.0 ∙ table,
      subst (λ (z : TableId). c.args.at < z.words) table c.requires.table.1,
      subst (λ at. Allows (TableInvariant P A) slots seat.id seat.me at (λ n. n)
          (λ n m'.
          (at ≡ log_word_in seat.me.0 (receiver_view_in seat.me.0).place) × FindsWord seat.me n m'))
          (sym tap.6)
          (word_heard_allowed P A
          (c.threads_may_go_by.ensures.automaton c.self.inside.table.shared.key) slots seat.id
          seat.me tap.0 tap.1 (ap (λ m. m.0) tap.2) tap.3 tap.4 tap.5),
    )
