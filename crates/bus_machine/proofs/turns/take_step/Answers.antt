use Rattle.std.proofs.Common.{inl, inr, sym, ◌∙◌}
use Rattle.bus_tenure.specs.Elections.{election_with}
use Rattle.bus_machine.proofs.Calls.TurnLaws.{idle_step, idle_tells, step_tells}
use Rattle.bus_machine.proofs.turns.take_step.Goals as goal

pub returns-in_default-clause-tells : goal.returns-in_default-clause-tells
returns-in_default-clause-tells g c =
    let X =
    election_with g.Q.Machine.kind_of g.Q.Machine.op g.Q.Machine.fed g.Q.Ratifier.protocol in
    idle_tells X c.args.core.now c.args.word c.requires.goes c.requires.laid c.args.cells.now
    c.rest.result (sym c.next_of.ensures.step ∙ c.in_default.is) c.rest.ensures.answer
    (elim c.rest.ensures.tells [ inl x ↦ inl x.0 | inr r ↦ inr r ])

pub returns-clause-tells : goal.returns-clause-tells
returns-clause-tells g c =
    let X =
    election_with g.Q.Machine.kind_of g.Q.Machine.op g.Q.Machine.fed g.Q.Ratifier.protocol in
    step_tells X c.args.core.now c.args.word c.args.cells.now c.in-Some.op c.apply-got.result
    c.feed_of.result (sym c.next_of.ensures.step ∙ c.in-Some.is) c.apply-got.ensures.found
    c.feed_of.ensures.tells

pub returns-in_default-clause-stepped : goal.returns-in_default-clause-stepped
returns-in_default-clause-stepped g c =
    let X =
    election_with g.Q.Machine.kind_of g.Q.Machine.op g.Q.Machine.fed g.Q.Ratifier.protocol in
    idle_step X c.args.core.now c.args.word c.requires.goes c.args.cells.now c.rest.result
    (sym c.next_of.ensures.step ∙ c.in_default.is) c.rest.ensures.answer
