use Rattle.std.proofs.Common.{◌≤◌, ◌^◌, Some, None, slice_index, sym, ◌∙◌, ap, subst}
use Rattle.bus_automaton.specs.Buses.{automaton_with, passers_in, plan_passers}
use Rattle.bus_automaton.specs.OneProcess.{table_layout_by}
use Rattle.bus_core.specs.Keeping.{new_sender}
use Rattle.bus_machine.specs.Playing.{layout_passed}
use Rattle.bus_pageslot.proofs.seating.start.Goals as goal

pub new-requires-clause-room : goal.new-requires-clause-room
unfolding automaton_with
new-requires-clause-room g c =
    let Q = g.Q.Ratifier.protocol in
    let plan = c.args.plan in
    subst (λ r.
    (table_layout_by (layout_passed Q plan.shape r (plan_passers plan)) r).words ≤ 2 ^ 63)
    c.in-None.is c.requires.room

pub returns-in-None : goal.returns-in-None
unfolding automaton_with
returns-in-None g c =
    let Q = g.Q.Ratifier.protocol in
    let plan = c.args.plan in
    c.new.ensures
    ∙ ap (λ n. new_sender (layout_passed Q plan.shape None 0) c.args.me.0 None
    (slice_index plan.bases n)) c.from.ensures
    ∙ ap (λ n. new_sender (layout_passed Q plan.shape None n) c.args.me.0 None
    (slice_index plan.bases c.args.me.0))
    (sym (ap (λ r. passers_in r plan.ring plan.shape.receivers) c.in-None.is))
    ∙ ap (λ r. new_sender (layout_passed Q plan.shape r (plan_passers plan)) c.args.me.0 r
    (slice_index plan.bases c.args.me.0)) (sym c.in-None.is)

pub returns-in-Some : goal.returns-in-Some
unfolding automaton_with
returns-in-Some g c =
    let Q = g.Q.Ratifier.protocol in
    let plan = c.args.plan in
    c.cyclic.ensures
    ∙ ap (λ n. new_sender (layout_passed Q plan.shape (Some c.in-Some.rows) c.passers.result)
    c.args.me.0 (Some c.in-Some.rows) (slice_index plan.bases n)) c.from.ensures
    ∙ ap (λ n. new_sender (layout_passed Q plan.shape (Some c.in-Some.rows) n) c.args.me.0
    (Some c.in-Some.rows) (slice_index plan.bases c.args.me.0)) c.passers.ensures.is
    ∙ ap (λ r. new_sender (layout_passed Q plan.shape r (plan_passers plan)) c.args.me.0 r
    (slice_index plan.bases c.args.me.0)) (sym c.in-Some.is)
