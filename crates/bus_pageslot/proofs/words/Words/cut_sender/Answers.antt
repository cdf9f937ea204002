use Rattle.std.proofs.Common.{ℕ, ◌<◌, Option, Some, subst, sym, ◌∙◌, ap}
use Rattle.atomic_table.specs.Seated.{TableId}
use Rattle.atomic_table.specs.Table.{Splits}
use Rattle.bus_core.specs.Senders.{Sender as Held}
use Rattle.bus_tenure.specs.Elections.{Elector}
use Rattle.bus_automaton.specs.Buses.{process_with, automaton_with}
use Rattle.bus_automaton.specs.Processes.{base_in}
use Rattle.bus_automaton.specs.declared.plans.Plan.{Plan}
use Rattle.bus_pageslot.specs.declared.rule.View.{View}
use Rattle.bus_pageslot.specs.Buses.{BusId}
use Rattle.bus_pageslot.specs.Rule.{cut_left, cut_right, TableInvariant}
use Rattle.bus_pageslot.proofs.Ruled.Openings.{cut_allowed}
use Rattle.bus_pageslot.proofs.words.Words.cut_sender.Goals as goal

pub split_seat-requires : goal.split_seat-requires
split_seat-requires g c =
    let P = process_with g.Q.Machine.kind_of g.Q.Machine.op g.Q.Machine.fed g.Q.Ratifier.protocol in
    let B =
    automaton_with g.Q.Machine.kind_of g.Q.Machine.op g.Q.Machine.fed g.Q.Ratifier.protocol in
    let table = sym (ap (λ (b : BusId). b.table) c.self.view_is) in
    let plan = c.args.self.now.plan in
    let maker = c.requires.maker in
    let id = c.args.maker.now.id in
    let view = c.args.maker.now.me.0 in (
      c.requires.table.0 ∙ table,
      subst (λ (z : TableId). 0 < z.words) table c.requires.table.1,
      subst (λ (p : Plan). Splits (TableInvariant P (B p)) id view (cut_left view)
          (cut_right g.K.Seated.core g.K.Seated.first))
          (sym (ap (λ (b : BusId). b.plan) c.self.view_is))
          (subst (λ (k : Option (Held (Elector g.row.Q.Denot)) × ℕ).
          Splits (TableInvariant P (B plan)) id view (cut_left view) (cut_right k.0 k.1))
          (λ i. (sym maker.3 i, sym maker.4 i))
          (subst (λ (v : View (Held (Elector g.row.Q.Denot))). Splits (TableInvariant P (B plan)) id
          v (cut_left v) (cut_right (Some ((B plan).started maker.0)) (base_in (B plan) maker.0)))
          (sym (ap (λ m. m.0) maker.1))
          (cut_allowed P (B plan) (c.threads_may_go_by.ensures.automaton plan) id
          (B plan).table_layout maker.0 maker.2))),
    )
