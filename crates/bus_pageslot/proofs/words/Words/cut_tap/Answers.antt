use Rattle.std.proofs.Common.{◌<◌, subst, sym, ◌∙◌, ap}
use Rattle.atomic_table.specs.Seated.{TableId}
use Rattle.atomic_table.specs.Table.{Splits}
use Rattle.bus_core.specs.Senders.{Sender as Held}
use Rattle.bus_tenure.specs.Elections.{Elector}
use Rattle.bus_automaton.specs.Buses.{process_with, automaton_with}
use Rattle.bus_automaton.specs.declared.plans.Plan.{Plan}
use Rattle.bus_pageslot.specs.declared.rule.View.{View}
use Rattle.bus_pageslot.specs.Buses.{BusId}
use Rattle.bus_pageslot.specs.Rule.{tap_left, tap_right, TableInvariant}
use Rattle.bus_pageslot.proofs.Ruled.Openings.{tap_allowed}
use Rattle.bus_pageslot.proofs.words.Words.cut_tap.Goals as goal

pub split_seat-requires : goal.split_seat-requires
split_seat-requires g c =
    let P = process_with g.Q.Machine.kind_of g.Q.Machine.op g.Q.Machine.fed g.Q.Ratifier.protocol in
    let B =
    automaton_with g.Q.Machine.kind_of g.Q.Machine.op g.Q.Machine.fed g.Q.Ratifier.protocol in
    let table = sym (ap (λ (b : BusId). b.table) c.self.view_is) in
    let plan = c.args.self.now.plan in
    let maker = c.requires.maker in
    let id = c.args.maker.now.id in
    let view = c.args.maker.now.me.0 in (
      c.requires.table.0 ∙ table,
      subst (λ (z : TableId). 0 < z.words) table c.requires.table.1,
      subst (λ (p : Plan). Splits (TableInvariant P (B p)) id view (tap_left view) (tap_right view))
          (sym (ap (λ (b : BusId). b.plan) c.self.view_is))
          (subst (λ (v : View (Held (Elector g.row.Q.Denot))).
          Splits (TableInvariant P (B plan)) id v (tap_left v) (tap_right v))
          (sym (ap (λ m. m.0) maker.2))
          (tap_allowed P (B plan) (c.threads_may_go_by.ensures.automaton plan) id maker.0 maker.1
          maker.3 maker.4)),
    )
