use Rattle.std.proofs.Common.{◌≡◌, ℕ, ◌+◌, ◌*◌, Bool, true, false, Option, Some, None, arith, refl}
use Rattle.std.proofs.Common.{sym, ◌∙◌, ap}
use Rattle.bus_adoptcommit.specs.declared.verdicts.Verdict.{Verdict}
use Rattle.bus_automaton.proofs.ServedPlans.{as_planned}
use Rattle.bus_automaton.specs.Buses.{automaton_with, layout_by, passers_in, plan_passers}
use Rattle.bus_core.specs.declared.limits.TheConstants.{PASSED_APART}
use Rattle.bus_machine.proofs.Bases.NewSenders.{with_width, senders_are, capacity_of}
use Rattle.bus_machine.specs.Machine.{log_place, passers_place}
use Rattle.bus_machine.specs.Playing.{layout_of, layout_passed}
use Rattle.bus_register.specs.Protocol.{Protocol}
use Rattle.bus_world.specs.declared.shapes.Shape.{Shape}
use Rattle.bus_pageslot.proofs.seating.log_at.Goals as goal

-- where the log begins, where a row has so many words, behind the passed places
log_at_place : {S : Type 0} (P : Protocol S Bool Verdict) (shape : Shape) (reuse : Option ℕ)
    (ring : Bool) (w receivers : ℕ) → w ≡ (layout_of P shape None).width
    → log_place (with_width shape w) reuse + PASSED_APART * passers_in reuse ring receivers
    ≡ log_place (layout_passed P shape reuse (passers_in reuse ring receivers)) reuse
log_at_place P shape None ring w receivers e =
    let rows = ap (λ n. shape.rows * n) e in omega arith
log_at_place P shape (Some rows) false w receivers e =
    let all = ap (λ n. rows * n) e in omega arith
log_at_place P shape (Some rows) true w receivers e =
    let all = ap (λ n. rows * n) e in omega arith

pub returns-clause-log : goal.returns-clause-log
unfolding automaton_with
returns-clause-log g c =
    let plan = c.args.plan in
    ap (λ n. n + PASSED_APART * c.passers.result) c.log_word.ensures.at
    ∙ ap (λ n. log_place (with_width plan.shape c.width-width.result) plan.reuse + PASSED_APART * n)
    c.passers.ensures.is
    ∙ log_at_place g.Q.Ratifier.protocol plan.shape plan.reuse plan.ring c.width-width.result
    plan.shape.receivers c.width-width.ensures.protocol

pub returns-clause-words : goal.returns-clause-words
unfolding automaton_with
returns-clause-words g c =
    let Q = g.Q.Ratifier.protocol in
    let plan = c.args.plan in
    let log =
    ap (λ n. n + PASSED_APART * c.passers.result) c.log_word.ensures.at
    ∙ ap (λ n. log_place (with_width plan.shape c.width-width.result) plan.reuse + PASSED_APART * n)
    c.passers.ensures.is
    ∙ log_at_place Q plan.shape plan.reuse plan.ring c.width-width.result
    plan.shape.receivers c.width-width.ensures.protocol in
    ap (λ n. n + plan.shape.log_words) log
    ∙ ap (λ n. log_place (layout_by Q plan) plan.reuse + n)
    (sym (capacity_of Q plan.shape plan.reuse (plan_passers plan)))

pub returns-clause-capacity : goal.returns-clause-capacity
unfolding automaton_with
returns-clause-capacity g c =
    sym (capacity_of g.Q.Ratifier.protocol c.args.plan.shape c.args.plan.reuse
    (plan_passers c.args.plan))

pub returns-clause-senders : goal.returns-clause-senders
unfolding automaton_with
returns-clause-senders g c =
    sym (senders_are g.Q.Ratifier.protocol c.args.plan.shape c.args.plan.reuse
    (plan_passers c.args.plan))

pub returns-clause-bases : goal.returns-clause-bases
unfolding automaton_with
returns-clause-bases g c = refl

pub returns-clause-passers : goal.returns-clause-passers
unfolding automaton_with
returns-clause-passers g c =
    as_planned g.Q.Ratifier.protocol c.args.plan.shape c.args.plan.reuse (plan_passers c.args.plan)

-- passed places stand before the log
passed_at_place : {S : Type 0} (P : Protocol S Bool Verdict) (shape : Shape) (reuse : Option ℕ)
    (ring : Bool) (receivers : ℕ)
    → log_place (layout_passed P shape reuse (passers_in reuse ring receivers)) reuse
    ≡ passers_place (layout_passed P shape reuse (passers_in reuse ring receivers)) reuse
    + PASSED_APART * passers_in reuse ring receivers
passed_at_place P shape None ring receivers = omega arith
passed_at_place P shape (Some rows) false receivers = omega arith
passed_at_place P shape (Some rows) true receivers = omega arith

pub returns-clause-passed : goal.returns-clause-passed
unfolding automaton_with
returns-clause-passed g c =
    let Q = g.Q.Ratifier.protocol in
    let plan = c.args.plan in
    ap (λ n. n + PASSED_APART * c.passers.result) c.log_word.ensures.at
    ∙ ap (λ n. log_place (with_width plan.shape c.width-width.result) plan.reuse + PASSED_APART * n)
    c.passers.ensures.is
    ∙ log_at_place Q plan.shape plan.reuse plan.ring c.width-width.result
    plan.shape.receivers c.width-width.ensures.protocol
    ∙ passed_at_place Q plan.shape plan.reuse plan.ring plan.shape.receivers
