use Rattle.std.proofs.Common.{◌≡◌, ◌<◌, ◌==◌, Some, arith, subst, sym, ◌∙◌, ap}
use prog.Atomic.{either}
use Rattle.atomic_table.specs.Seated.{TableId}
use Rattle.atomic_table.specs.Table.{Allows}
use Rattle.bus_automaton.specs.Buses.{process_with, automaton_with}
use Rattle.bus_automaton.specs.Processes.{passed_word}
use Rattle.bus_core.specs.Senders.{Sender}
use Rattle.bus_register.specs.declared.limits.TheConstants.{PASSED_ALL}
use Rattle.bus_tenure.specs.Elections.{Elector}
use Rattle.bus_pageslot.specs.Buses.{BusId}
use Rattle.bus_pageslot.specs.Looks.{IsFoundBy}
use Rattle.bus_pageslot.specs.Rule.{TableInvariant, receiver_view_in, table_layout_in}
use Rattle.bus_pageslot.specs.Steps.{Forks, view_forked}
use Rattle.bus_pageslot.specs.declared.rule.View.{View}
use Rattle.bus_pageslot.specs.declared.rule.View.TheVariants.{Tap}
use Rattle.bus_pageslot.proofs.Hears.Forking.{fork_allowed, forked_made, forked_tries, forked_view}
use Rattle.bus_pageslot.proofs.Hears.Forking.{tries_shown}
use Rattle.bus_pageslot.proofs.Hears.Joining.{IsPair, parts_allowed}
use Rattle.bus_pageslot.proofs.words.Words.fork.Goals as goal

pub compare_exchange-found-requires : goal.compare_exchange-found-requires
compare_exchange-found-requires g c =
    let P = process_with g.Q.Machine.kind_of g.Q.Machine.op g.Q.Machine.fed g.Q.Ratifier.protocol in
    let B =
    automaton_with g.Q.Machine.kind_of g.Q.Machine.op g.Q.Machine.fed g.Q.Ratifier.protocol in
    let key = c.self.inside.table.shared.key in
    let slots = c.self.inside.table.shared.table_id.slots in
    let table = sym (ap (λ (b : BusId). b.table) c.self.view_is) in
    let plan = sym (ap (λ (b : BusId). b.plan) c.self.view_is) in
    let seat = c.args.seat.now in
    let tap = c.requires.tap in
    let picked = g.K.Planned.plan in (
      c.requires.table.0 ∙ table,
      subst (λ (z : TableId). c.args.at < z.words) table c.requires.table.1,
      subst (λ at. Allows (TableInvariant P (B key)) slots seat.id seat.me at
          (λ n. either (n == PASSED_ALL) c.args.passed n)
          (λ got m'.
          (PASSED_ALL ≡ PASSED_ALL) × (c.args.passed ≡ (receiver_view_in seat.me.0).passed)
          × Forks seat.me at got m' × IsFoundBy P B picked seat.me.0 at got))
          (sym tap.7)
          (subst (λ k. Allows (TableInvariant P (B key)) slots seat.id seat.me
          (passed_word tap.0 tap.2)
          (λ n. either (n == PASSED_ALL) k n)
          (λ got m'. (PASSED_ALL ≡ PASSED_ALL) × (k ≡ (receiver_view_in seat.me.0).passed)
          × Forks seat.me (passed_word tap.0 tap.2) got m'
          × IsFoundBy P B picked seat.me.0 (passed_word tap.0 tap.2) got))
          (sym tap.8)
          (fork_allowed P B picked key (c.requires.plan ∙ ap Some plan)
          (c.threads_may_go_by.ensures.automaton key) slots seat.id seat.me tap.0 tap.1 tap.2
          (ap (λ m. m.0) tap.3) tap.4 tap.5 tap.6)),
    )

-- the seat is two then, whatever number the word is told to be of
pub split_seat-requires : goal.split_seat-requires
split_seat-requires g c =
    let P = process_with g.Q.Machine.kind_of g.Q.Machine.op g.Q.Machine.fed g.Q.Ratifier.protocol in
    let A = automaton_with g.Q.Machine.kind_of g.Q.Machine.op g.Q.Machine.fed g.Q.Ratifier.protocol
    c.self.inside.table.shared.key in
    let table = sym (ap (λ (b : BusId). b.table) c.self.view_is) in
    let V : Type 0 = View (Sender (Elector g.row.Q.Denot)) in
    let new : V = c.compare_exchange-found.new.seat.me.0 in
    let tap = c.requires.tap in
    let found = c.compare_exchange-found.ensures in
    let is : new ≡ view_forked (Tap tap.0 tap.1) c.args.at tap.2 =
    forked_view c.args.seat.now.me c.compare_exchange-found.new.seat.me c.args.at
    c.compare_exchange-found.result tap.0 tap.1 tap.2 tap.3 tap.7 found.2.2 c.if-found.false in (
      found.0 ∙ c.requires.table.0 ∙ table,
      subst (λ (z : TableId). 0 < z.words) table (let low = c.requires.table.1 in omega arith),
      parts_allowed P A new (subst (λ (w : V). IsPair w) (sym is) tt)
          c.compare_exchange-found.new.seat.id,
    )

pub returns-clause-tries : goal.returns-clause-tries
returns-clause-tries g c =
    let tap = c.requires.tap in
    forked_tries c.args.seat.now.me c.compare_exchange-found.new.seat.me c.args.at
    c.compare_exchange-found.result tap.0 tap.1 tap.2 tap.3 tap.7
    c.compare_exchange-found.ensures.2.2 c.if-found.false c.split_seat.new.seat.me
    c.split_seat.ensures.2

pub returns-clause-made : goal.returns-clause-made
returns-clause-made g c = (
  c.split_seat.ensures.3 ∙ c.compare_exchange-found.ensures.0,
  λ number same.
      let tap = c.requires.tap in
      forked_made c.args.seat.now.me c.compare_exchange-found.new.seat.me c.args.at
      c.compare_exchange-found.result tap.0 tap.1 number tap.3
      (same ∙ ap (λ m. passed_word (table_layout_in m.0) number) tap.3)
      c.compare_exchange-found.ensures.2.2 c.if-found.false c.split_seat.result.me
      c.split_seat.ensures.4,
)

pub returns-clause-shown : goal.returns-clause-shown
returns-clause-shown g c =
    let tap = c.requires.tap in
    let tries = forked_tries c.args.seat.now.me c.compare_exchange-found.new.seat.me c.args.at
    c.compare_exchange-found.result tap.0 tap.1 tap.2 tap.3 tap.7
    c.compare_exchange-found.ensures.2.2 c.if-found.false c.split_seat.new.seat.me
    c.split_seat.ensures.2 in
    tries_shown c.args.seat.now.me c.args.at tries.0 c.split_seat.new.seat.me tap.0 tap.1 tap.3
    tries.2
