use Rattle.std.proofs.Common.{◌≡◌, ℕ, List, Some, None, ◌∙◌, ap, subst}
use Rattle.std.specs.Prelude.{IfOk, OnErr}
use Rattle.std.proofs.lemmas.Result.{IfOk-weaker}
use Rattle.bus_core.specs.Senders.{Sender}
use Rattle.bus_tenure.specs.Elections.{Elector}
use Rattle.bus_automaton.specs.declared.plans.Plan.{Plan}
use Rattle.bus_automaton.specs.Buses.{process_with, automaton_with, plan_passers}
use Rattle.bus_pageslot.specs.declared.rule.View.{View}
use Rattle.bus_pageslot.specs.Buses.{BusId}
use Rattle.bus_pageslot.specs.Endings.{IsLeft}
use Rattle.bus_pageslot.specs.Outcomes.{Outcome}
use Rattle.bus_pageslot.proofs.buses.Bus.end.Goals as goal

pub returns-clause-ended : goal.returns-clause-ended
returns-clause-ended g c =
    let P = process_with g.Q.Machine.kind_of g.Q.Machine.op g.Q.Machine.fed g.Q.Ratifier.protocol in
    let plan_is = ap (λ (b : BusId). b.plan) c.self.view_is in
    let seen_is = ap (λ t. t.me.0) c.into_seat.ensures.receiver_seat in
    subst (λ (z : Plan × View (Sender (Elector g.row.Q.Denot))). IfOk c.leave.result
    (λ left. IsLeft P
    (automaton_with g.Q.Machine.kind_of g.Q.Machine.op g.Q.Machine.fed g.Q.Ratifier.protocol z.0)
    z.1 left.log left.floor (Some left.page))) (λ i. (plan_is i, seen_is i)) c.leave.ensures.ended

pub returns-clause-flat : goal.returns-clause-flat
returns-clause-flat g c =
    let P = process_with g.Q.Machine.kind_of g.Q.Machine.op g.Q.Machine.fed g.Q.Ratifier.protocol in
    let B =
    automaton_with g.Q.Machine.kind_of g.Q.Machine.op g.Q.Machine.fed g.Q.Ratifier.protocol in
    let plan = c.self.inside.words.plan in
    let plan_is = ap (λ (b : BusId). b.plan) c.self.view_is in
    IfOk-weaker c.leave.result
    (λ left. IsLeft P (B plan) c.into_seat.result.me.0 left.log left.floor (Some left.page))
    (λ (left : Outcome). plan_passers c.args.self.plan ≡ 0 → left.floor ≡ 0)
    (λ left is none.
    (is.flat (c.threads_may_go_by.ensures.passers plan ∙ ap plan_passers plan_is ∙ none)).first)
    c.leave.ensures.ended

pub returns-clause-out : goal.returns-clause-out
returns-clause-out g c =
    let P = process_with g.Q.Machine.kind_of g.Q.Machine.op g.Q.Machine.fed g.Q.Ratifier.protocol in
    let plan_is = ap (λ (b : BusId). b.plan) c.self.view_is in
    let seen_is = ap (λ t. t.me.0) c.into_seat.ensures.receiver_seat in
    subst (λ (z : Plan × View (Sender (Elector g.row.Q.Denot))). OnErr c.leave.result
    ((log : List ℕ) × (floor : ℕ)
    × IsLeft P
    (automaton_with g.Q.Machine.kind_of g.Q.Machine.op g.Q.Machine.fed g.Q.Ratifier.protocol z.0)
    z.1 log floor None)) (λ i. (plan_is i, seen_is i)) c.leave.ensures.out
