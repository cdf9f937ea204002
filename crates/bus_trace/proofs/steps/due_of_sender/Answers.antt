use Rattle.std.proofs.Common.{sym, ◌∙◌}
use Rattle.bus_tenure.specs.Elections.{election_with}
use Rattle.bus_trace.proofs.StepLemmas.{due_so}
use Rattle.bus_trace.proofs.steps.due_of_sender.Goals as goal

pub returns : goal.returns
returns g c =
    let P = g.Q.Ratifier.protocol in
    let X = election_with g.Q.Machine.kind_of g.Q.Machine.op g.Q.Machine.fed P in
    due_so X P c.args.bus.now.senders c.args.sender c.args.word c.in-Some.core.now c.tenure.result
    c.in-Some-kind.kind c.in-Some-next.op
    c.in-Some.ensures c.tenure.ensures (sym c.in-Some-kind.is ∙ c.kind.ensures.kind)
    c.in-Some-kind.ensures.cause
    (sym c.in-Some-next.is ∙ c.next.ensures.step)
