use Rattle.std.proofs.Common.{◌<◌, subst, sym, ◌∙◌, ap}
use Rattle.atomic_table.specs.Seated.{TableId}
use Rattle.bus_automaton.specs.Buses.{process_with, automaton_with}
use Rattle.bus_pageslot.specs.Buses.{BusId}
use Rattle.bus_pageslot.proofs.Hears.Forking.{copy_allowed}
use Rattle.bus_pageslot.proofs.words.Words.copy.Goals as goal

pub split_seat-requires : goal.split_seat-requires
split_seat-requires g c =
    let P = process_with g.Q.Machine.kind_of g.Q.Machine.op g.Q.Machine.fed g.Q.Ratifier.protocol in
    let A = automaton_with g.Q.Machine.kind_of g.Q.Machine.op g.Q.Machine.fed g.Q.Ratifier.protocol
    c.self.inside.table.shared.key in
    let table = sym (ap (λ (b : BusId). b.table) c.self.view_is) in
    let tap = c.requires.tap in (
      c.requires.table.0 ∙ table,
      subst (λ (z : TableId). 0 < z.words) table c.requires.table.1,
      copy_allowed P A c.args.seat.now.id tap.0 tap.1 tap.3 c.args.seat.now.me.0
          (ap (λ m. m.0) tap.2),
    )
