use Rattle.std.proofs.Common.{◌∷◌, Some, IsSome, refl, sym, ◌∙◌, ap, subst}
use Rattle.atomic_table.specs.Table.{rest}
use Rattle.bus_automaton.specs.Buses.{process_with}
use Rattle.bus_pageslot.specs.Steps.{laid_at, slot_in, slots_emptied}
use Rattle.bus_pageslot.proofs.Ruled.Processes.{awaits_is, laid_is}
use Rattle.bus_pageslot.proofs.steps.take_in.Goals as goal

pub exchange-requires-clause-out : goal.exchange-requires-clause-out
exchange-requires-clause-out g c =
    let awaits = awaits_is g.Q.Machine.kind_of g.Q.Machine.op g.Q.Machine.fed g.Q.Ratifier.protocol
    c.args.core.now c.awaits_page.result c.awaits_page.ensures in
    let page = c.requires.page (sym awaits ∙ c.if-awaits_page.true) in
    (Some page.0, page.1 ∙ (λ i. (0, Some page.0) ∷ rest (sym page.1 i)))

pub unwrap-page-requires : goal.unwrap-page-requires
unwrap-page-requires g c =
    let awaits = awaits_is g.Q.Machine.kind_of g.Q.Machine.op g.Q.Machine.fed g.Q.Ratifier.protocol
    c.args.core.now c.awaits_page.result c.awaits_page.ensures in
    let page = c.requires.page (sym awaits ∙ c.if-awaits_page.true) in
    subst IsSome (sym (sym (ap slot_in c.exchange.ensures.found) ∙ ap slot_in page.1)) refl

pub returns-then-awaits_page-clause-core : goal.returns-then-awaits_page-clause-core
returns-then-awaits_page-clause-core g c =
    let P = process_with g.Q.Machine.kind_of g.Q.Machine.op g.Q.Machine.fed g.Q.Ratifier.protocol in
    let d = c.args.core.now in
    let awaits =
    sym (awaits_is g.Q.Machine.kind_of g.Q.Machine.op g.Q.Machine.fed g.Q.Ratifier.protocol d
    c.awaits_page.result c.awaits_page.ensures) ∙ c.if-awaits_page.true in
    let slot = ap slot_in c.exchange.ensures.found ∙ c.unwrap-page.ensures in
    laid_is g.Q.Machine.kind_of g.Q.Machine.op g.Q.Machine.fed g.Q.Ratifier.protocol d
    c.unwrap-page.result c.lay.new.self awaits c.lay.ensures
    ∙ (λ i. laid_at P d (sym awaits i) (sym slot i))

pub returns-then-awaits_page-clause-me : goal.returns-then-awaits_page-clause-me
returns-then-awaits_page-clause-me g c =
    let P = process_with g.Q.Machine.kind_of g.Q.Machine.op g.Q.Machine.fed g.Q.Ratifier.protocol in
    let awaits =
    sym (awaits_is g.Q.Machine.kind_of g.Q.Machine.op g.Q.Machine.fed g.Q.Ratifier.protocol
    c.args.core.now c.awaits_page.result c.awaits_page.ensures) ∙ c.if-awaits_page.true in
    c.exchange.ensures.me
    ∙ ap (λ b. (c.args.seat.now.me.0, slots_emptied b c.args.seat.now.me.1)) (sym awaits)

pub returns-else-awaits_page-clause-core : goal.returns-else-awaits_page-clause-core
returns-else-awaits_page-clause-core g c =
    let P = process_with g.Q.Machine.kind_of g.Q.Machine.op g.Q.Machine.fed g.Q.Ratifier.protocol in
    let d = c.args.core.now in
    let awaits =
    sym (awaits_is g.Q.Machine.kind_of g.Q.Machine.op g.Q.Machine.fed g.Q.Ratifier.protocol d
    c.awaits_page.result c.awaits_page.ensures) ∙ c.if-awaits_page.false in
    ap (λ b. laid_at P d b (slot_in c.args.seat.now.me.1)) (sym awaits)

pub returns-else-awaits_page-clause-me : goal.returns-else-awaits_page-clause-me
returns-else-awaits_page-clause-me g c =
    let P = process_with g.Q.Machine.kind_of g.Q.Machine.op g.Q.Machine.fed g.Q.Ratifier.protocol in
    let awaits =
    sym (awaits_is g.Q.Machine.kind_of g.Q.Machine.op g.Q.Machine.fed g.Q.Ratifier.protocol
    c.args.core.now c.awaits_page.result c.awaits_page.ensures) ∙ c.if-awaits_page.false in
    ap (λ b. (c.args.seat.now.me.0, slots_emptied b c.args.seat.now.me.1)) (sym awaits)
