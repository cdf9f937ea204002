use Rattle.std.proofs.Common.{◌∷◌, None, sym, ◌∙◌, ap}
use Rattle.atomic_table.specs.Table.{rest}
use Rattle.bus_automaton.specs.Buses.{process_with}
use Rattle.bus_pageslot.specs.Steps.{carried_of}
use Rattle.bus_pageslot.proofs.Ruled.Processes.{given_is, handed_is, given_out, nothing_out}
use Rattle.bus_pageslot.proofs.steps.put_out.Goals as goal

pub exchange-none-requires-clause-out : goal.exchange-none-requires-clause-out
exchange-none-requires-clause-out g c =
    let d = c.args.core.now in
    let given = given_is g.Q.Machine.kind_of g.Q.Machine.op g.Q.Machine.fed g.Q.Ratifier.protocol d
    c.take_out_of.result c.take_out_of.ensures.page in
    let holds =
    c.threads_may_go_by.ensures.process.gives_held d c.in-Some.page (sym given ∙ c.in-Some.is) in
    let out = c.requires.carried ∙ ap carried_of holds in
    (None, out ∙ (λ i. (0, None) ∷ rest (sym out i)))

pub returns-in-Some-clause-core : goal.returns-in-Some-clause-core
returns-in-Some-clause-core g c = handed_is g.Q.Machine.kind_of g.Q.Machine.op g.Q.Machine.fed
    g.Q.Ratifier.protocol c.args.core.now c.take_out_of.new.self c.take_out_of.ensures.state

pub returns-in-Some-clause-me : goal.returns-in-Some-clause-me
returns-in-Some-clause-me g c =
    let P = process_with g.Q.Machine.kind_of g.Q.Machine.op g.Q.Machine.fed g.Q.Ratifier.protocol in
    let d = c.args.core.now in
    let given = given_is g.Q.Machine.kind_of g.Q.Machine.op g.Q.Machine.fed g.Q.Ratifier.protocol d
    c.take_out_of.result c.take_out_of.ensures.page in
    c.exchange-none.ensures.me
    ∙ ap (λ l. (c.args.seat.now.me.0, l))
    (sym (given_out (P.move d) c.in-Some.page c.args.seat.now.me.1 (sym given ∙ c.in-Some.is)))

pub returns-in_default-clause-core : goal.returns-in_default-clause-core
returns-in_default-clause-core g c = handed_is g.Q.Machine.kind_of g.Q.Machine.op g.Q.Machine.fed
    g.Q.Ratifier.protocol c.args.core.now c.take_out_of.new.self c.take_out_of.ensures.state

pub returns-in_default-clause-me : goal.returns-in_default-clause-me
returns-in_default-clause-me g c =
    let P = process_with g.Q.Machine.kind_of g.Q.Machine.op g.Q.Machine.fed g.Q.Ratifier.protocol in
    let d = c.args.core.now in
    let given = given_is g.Q.Machine.kind_of g.Q.Machine.op g.Q.Machine.fed g.Q.Ratifier.protocol d
    c.take_out_of.result c.take_out_of.ensures.page in
    ap (λ l. (c.args.seat.now.me.0, l))
    (sym (nothing_out (P.move d) c.args.seat.now.me.1 (sym given ∙ c.in_default.is)))
