use Rattle.std.proofs.Common.{◌∙◌, sym, ap, slice_index}
use Rattle.bus_tenure.specs.Elections.{election_with}
use Rattle.bus_world.specs.Playing.{event_told}
use Rattle.bus_trace.specs.Steps.{due_by}
use Rattle.bus_trace.proofs.StepLemmas.{leaves, seen_so}
use Rattle.bus_trace.proofs.steps.step_shown.Goals as goal

pub returns-clause-seen : goal.returns-clause-seen
returns-clause-seen g c =
    let X =
    election_with g.Q.Machine.kind_of g.Q.Machine.op g.Q.Machine.fed g.Q.Ratifier.protocol in
    let m = c.args.bus.now in
    let e = event_told c.args.event.now in
    let step = c.in-Some.step in
    let due = sym c.in-Some.is ∙ c.due_of.ensures in
    seen_so (slice_index m.words) (due_by X m e) step c.standing-found.result c.standing-left.result
    due (c.standing-found.ensures
    ∙ ap (slice_index m.words) c.register_of-at.ensures)
    (c.standing-left.ensures ∙ ap (slice_index c.step-2.new.self.words) c.register_of-at.ensures
    ∙ leaves X m c.step-2.new.self e c.in_ok-answer-2.answer step
    c.in_ok-answer-2.ensures.answered.happens due)
