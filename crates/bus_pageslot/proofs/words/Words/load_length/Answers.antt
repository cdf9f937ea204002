use Rattle.std.proofs.Common.{◌<◌, subst, sym, ◌∙◌, ap}
use Rattle.atomic_table.specs.Seated.{TableId}
use Rattle.bus_automaton.specs.Buses.{process_with, automaton_with}
use Rattle.bus_pageslot.specs.Buses.{BusId}
use Rattle.bus_pageslot.proofs.Hears.Loads.{length_allowed}
use Rattle.bus_pageslot.proofs.words.Words.load_length.Goals as goal

pub load-requires : goal.load-requires
load-requires g c =
    let P = process_with g.Q.Machine.kind_of g.Q.Machine.op g.Q.Machine.fed g.Q.Ratifier.protocol in
    let key = c.self.inside.table.shared.key in
    let A =
    automaton_with g.Q.Machine.kind_of g.Q.Machine.op g.Q.Machine.fed g.Q.Ratifier.protocol key in
    let table = sym (ap (λ (b : BusId). b.table) c.self.view_is) in
    let tap = c.requires.tap in (
      c.requires.table.0 ∙ table,
      subst (λ (z : TableId). 0 < z.words) table c.requires.table.1,
      length_allowed P A (c.threads_may_go_by.ensures.automaton key) _ _ c.args.seat.now.me tap.0
          tap.1 (ap (λ m. m.0) tap.2),
    )
