use Rattle.std.proofs.Common.{◌≡◌, ◌<◌, subst, sym, ◌∙◌, ap}
use Rattle.atomic_table.specs.Seated.{TableId}
use Rattle.atomic_table.specs.Table.{Allows}
use Rattle.bus_automaton.specs.Buses.{process_with, automaton_with}
use Rattle.bus_register.specs.declared.limits.TheConstants.{PASSED_ALL}
use Rattle.bus_pageslot.specs.Buses.{BusId}
use Rattle.bus_pageslot.specs.Rule.{TableInvariant, passed_word_in}
use Rattle.bus_pageslot.specs.Steps.{HasLeft}
use Rattle.bus_pageslot.proofs.Hears.PassSteps.{leave_allowed}
use Rattle.bus_pageslot.proofs.words.Words.leave.Goals as goal

pub store-requires : goal.store-requires
store-requires g c =
    let P = process_with g.Q.Machine.kind_of g.Q.Machine.op g.Q.Machine.fed g.Q.Ratifier.protocol in
    let A = automaton_with g.Q.Machine.kind_of g.Q.Machine.op g.Q.Machine.fed g.Q.Ratifier.protocol
    c.self.inside.table.shared.key in
    let slots = c.self.inside.table.shared.table_id.slots in
    let table = sym (ap (λ (b : BusId). b.table) c.self.view_is) in
    let seat = c.args.seat.now in
    let tap = c.requires.tap in (
      c.requires.table.0 ∙ table,
      subst (λ (z : TableId). c.args.at < z.words) table c.requires.table.1,
      subst (λ at. Allows (TableInvariant P A) slots seat.id seat.me at (λ _. PASSED_ALL)
          (λ _ m'. (at ≡ passed_word_in seat.me.0) × (PASSED_ALL ≡ PASSED_ALL)
          × HasLeft seat.me m'))
          (sym tap.5)
          (leave_allowed P A (c.threads_may_go_by.ensures.automaton c.self.inside.table.shared.key)
          slots seat.id seat.me tap.0 tap.1 (ap (λ m. m.0) tap.2) tap.3 tap.4),
    )
