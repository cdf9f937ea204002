use Rattle.std.proofs.Common.{◌≡◌, sym, subst}
use Rattle.bus_machine.specs.Bounding.{AreBounded, PinsAreBounded}
use Rattle.bus_machine.specs.Machine.{Machine, Trails, Reached}
use Rattle.bus_ownerbits.specs.Sizes.{election_bound}
use Rattle.bus_machine.specs.Promise.{IsPromised, HasRows}
use Rattle.bus_machine.specs.Telling.{LossesAreSeen}
use Rattle.bus_tenure.specs.Core.{Election}
use Rattle.bus_tenure.specs.Elections.{Elector, election_with}
use Rattle.bus_world.specs.World.{IsLayout}
use Rattle.bus_pageslot.proofs.Said.Histories.{rule_is, laws_are, sized, has_history}
use Rattle.bus_pageslot.proofs.laws.tables_are_machines.Goals as goal

pub returns : goal.returns
returns g c plan s r =
    let Q = g.Q.Ratifier.protocol in
    let S = Elector g.row.Q.Denot in
    let X : Election S = election_with g.Q.Machine.kind_of g.Q.Machine.op g.Q.Machine.fed Q in
    let k = rule_is g.Q.Machine.kind_of g.Q.Machine.op g.Q.Machine.fed Q plan s r in
    let h = k.reached in
    has_history X _ plan.reuse plan.bases s k (election_bound Q.steps)
    (sized Q (λ x.
    IsLayout x → (m : Machine S) (T : Trails) → m.layout ≡ x → HasRows m.reuse → Reached X m T
    → IsPromised X m T × LossesAreSeen m T.actions)
    (λ senders rounds rows capacity passers batch.
    c.machine_keeps_promise.ensures senders rounds rows capacity passers batch) plan h.served
    k.state.machine k.state.trails h.layout
    (subst HasRows (sym h.rows_are) h.has_rows) h.reached)
    (sized Q (λ x.
    IsLayout x → (m : Machine S) (T : Trails) → m.layout ≡ x → HasRows m.reuse → Reached X m T
    → AreBounded X (election_bound Q.steps x.senders x.rounds) m T × PinsAreBounded T)
    (λ senders rounds rows capacity passers batch.
    c.steps_are_bounded.ensures senders rounds rows capacity passers batch) plan h.served
    k.state.machine k.state.trails h.layout
    (subst HasRows (sym h.rows_are) h.has_rows) h.reached)
    ((laws_are g.Q.Machine.kind_of g.Q.Machine.op g.Q.Machine.fed Q plan
    (c.threads_may_go_by.ensures.automaton plan)).log k.state h)
