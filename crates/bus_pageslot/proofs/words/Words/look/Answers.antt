use Rattle.std.proofs.Common.{◌<◌, Option, Some, subst, sym, ◌∙◌, ap}
use Rattle.atomic_table.specs.Seated.{TableId}
use Rattle.bus_automaton.specs.Buses.{process_with, automaton_with}
use Rattle.bus_automaton.specs.declared.plans.Plan.{Plan}
use Rattle.bus_pageslot.specs.Buses.{BusId}
use Rattle.bus_pageslot.specs.Looks.{IsFoundBy}
use Rattle.bus_pageslot.proofs.Hears.Loads.{look_allowed}
use Rattle.bus_pageslot.proofs.words.Words.look.Goals as goal

pub load-requires : goal.load-requires
load-requires g c =
    let P = process_with g.Q.Machine.kind_of g.Q.Machine.op g.Q.Machine.fed g.Q.Ratifier.protocol in
    let A =
    automaton_with g.Q.Machine.kind_of g.Q.Machine.op g.Q.Machine.fed g.Q.Ratifier.protocol in
    let table = sym (ap (λ (b : BusId). b.table) c.self.view_is) in
    let plan = sym (ap (λ (b : BusId). b.plan) c.self.view_is) in (
      c.requires.table.0 ∙ table,
      subst (λ (z : TableId). c.args.at < z.words) table c.requires.table.1,
      look_allowed P A g.K.Planned.plan c.self.inside.table.shared.key
          (c.requires.plan ∙ ap Some plan) c.self.inside.table.shared.table_id.slots
          c.args.seat.now.id c.args.seat.now.me c.args.at,
    )

pub returns-clause-found : goal.returns-clause-found
returns-clause-found g c =
    let P = process_with g.Q.Machine.kind_of g.Q.Machine.op g.Q.Machine.fed g.Q.Ratifier.protocol in
    let A =
    automaton_with g.Q.Machine.kind_of g.Q.Machine.op g.Q.Machine.fed g.Q.Ratifier.protocol in
    subst (λ (k : Option Plan). IsFoundBy P A k c.args.seat.now.me.0 c.args.at c.load.result)
    c.requires.plan c.load.ensures.2.1
