use Rattle.std.proofs.Common.{◌≡◌, ◌<◌, ◌+◌, ◌-◌, [], inl, inr, arith, subst, ◌∙◌, ap}
use Rattle.atomic_table.specs.Seated.{TableId}
use Rattle.bus_automaton.specs.Buses.{automaton_with}
use Rattle.bus_pageslot.specs.ReceiverViews.{new_receiver_view}
use Rattle.bus_pageslot.specs.Rule.{tap_left, tap_right, receiver_view_in, table_layout_in}
use Rattle.bus_pageslot.specs.declared.rule.View.TheVariants.{Tap}
use Rattle.bus_pageslot.proofs.Hears.PassTurns.{none_or_all}
use Rattle.bus_pageslot.proofs.seating.tap_next.Goals as goal

pub cut_tap-seat-requires-clause-table : goal.cut_tap-seat-requires-clause-table
cut_tap-seat-requires-clause-table g c =
    let A = automaton_with g.Q.Machine.kind_of g.Q.Machine.op g.Q.Machine.fed g.Q.Ratifier.protocol
    c.args.plan in
    let L = c.threads_may_go_by.ensures.automaton c.args.plan in
    let room = L.room in
    let behind = L.behind in (
      c.requires.table,
      subst (λ (z : TableId). 0 < z.words) c.requires.table
          (let w = c.requires.wide in omega arith),
    )

pub cut_tap-seat-requires-clause-maker : goal.cut_tap-seat-requires-clause-maker
cut_tap-seat-requires-clause-maker g c =
    let A = automaton_with g.Q.Machine.kind_of g.Q.Machine.op g.Q.Machine.fed g.Q.Ratifier.protocol
    c.args.plan in
    let passers = c.threads_may_go_by.ensures.passers c.args.plan in (
      A.table_layout,
      c.args.plan.shape.senders + c.args.index,
      c.requires.maker,
      (let same = c.requires.senders in omega arith),
      elim (none_or_all c.args.plan c.args.index c.requires.below) [
        | inl none ↦ inl (passers ∙ none)
        | inr low ↦ inr (let same = c.requires.senders in omega arith)
      ],
    )

pub seated-requires : goal.seated-requires
seated-requires g c =
    let A = automaton_with g.Q.Machine.kind_of g.Q.Machine.op g.Q.Machine.fed g.Q.Ratifier.protocol
    c.args.plan in
    let cut = c.cut_tap-seat.ensures in
    let number : c.args.plan.shape.senders + c.args.index - A.table_layout.senders ≡ c.args.index =
    (let same = c.requires.senders in omega arith) in
    record {
      table_layout = A.table_layout;
      number = c.args.index;
      me =
          cut.seat ∙ ap (λ m. (tap_right m.0, [])) c.requires.maker
          ∙ ap (λ k. (Tap A.table_layout (new_receiver_view k), [])) number;
      wide = ap (λ (z : TableId). z.words) cut.table.1 ∙ c.requires.wide;
      cells_are = c.cells_of-cells.ensures;
      senders_are = c.requires.senders;
    }

pub returns-clause-tap : goal.returns-clause-tap
returns-clause-tap g c =
    let A = automaton_with g.Q.Machine.kind_of g.Q.Machine.op g.Q.Machine.fed g.Q.Ratifier.protocol
    c.args.plan in
    let cut = c.cut_tap-seat.ensures in
    record {
      table_is = ap (λ s. s.table_id) c.seated.ensures ∙ cut.table.1;
      me =
          ap (λ s. s.me) c.seated.ensures ∙ cut.seat
          ∙ ap (λ m. (tap_right m.0, [])) c.requires.maker
          ∙ ap (λ k. (Tap A.table_layout (new_receiver_view k), []))
          (let same = c.requires.senders in
          let is : c.args.plan.shape.senders + c.args.index - A.table_layout.senders
          ≡ c.args.index = omega arith in is);
      receiver_view =
          ap (λ s. receiver_view_in s.me.0) c.seated.ensures
          ∙ ap (λ m. receiver_view_in m.0) cut.seat
          ∙ ap (λ m. receiver_view_in (tap_right m.0)) c.requires.maker
          ∙ ap new_receiver_view
          (let same = c.requires.senders in
          let is : c.args.plan.shape.senders + c.args.index - A.table_layout.senders
          ≡ c.args.index = omega arith in is);
      table_layout =
          ap (λ s. table_layout_in s.me.0) c.seated.ensures ∙ ap (λ m. table_layout_in m.0) cut.seat
          ∙ ap (λ m. table_layout_in (tap_right m.0)) c.requires.maker;
    }

pub returns-clause-maker : goal.returns-clause-maker
returns-clause-maker g c =
    c.cut_tap-seat.ensures.maker ∙ ap (λ m. (tap_left m.0, m.1)) c.requires.maker
