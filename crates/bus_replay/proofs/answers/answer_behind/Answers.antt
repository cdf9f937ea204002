use Rattle.std.proofs.Common.{string_bytes}
use Rattle.std.proofs.lemmas.Result.{IfOk-weaker}
use Rattle.bus_tenure.specs.Elections.{election_with}
use Rattle.bus_replay.proofs.PlayLemmas.{begun}
use Rattle.bus_replay.proofs.answers.answer_behind.Goals as goal

pub returns-in-Ok : goal.returns-in-Ok
returns-in-Ok g c =
    let X =
    election_with g.Q.Machine.kind_of g.Q.Machine.op g.Q.Machine.fed g.Q.Ratifier.protocol in
    IfOk-weaker c.answer_from.result _ _
    (λ answer. begun X g.Q.Ratifier.protocol c.args.number c.args.first c.args.lines c.in-Ok.bus
    answer.outcome (string_bytes answer.text) c.in-Ok.ensures.made) c.answer_from.ensures
