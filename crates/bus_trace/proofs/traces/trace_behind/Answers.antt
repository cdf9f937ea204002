use Rattle.std.proofs.Common.{string_bytes}
use Rattle.std.proofs.lemmas.Result.{IfOk-weaker}
use Rattle.bus_tenure.specs.Elections.{election_with}
use Rattle.bus_trace.specs.Words.{sizes_told}
use Rattle.bus_trace.proofs.PlayRows.{begun}
use Rattle.bus_trace.proofs.traces.trace_behind.Goals as goal

pub returns-in-Ok : goal.returns-in-Ok
returns-in-Ok g c =
    let P = g.Q.Ratifier.protocol in
    let X = election_with g.Q.Machine.kind_of g.Q.Machine.op g.Q.Machine.fed P in
    IfOk-weaker c.trace_from.result _ _
    (λ answer h. begun X P (sizes_told c.memory_map_of.result) c.args.number c.args.first
    c.args.lines c.in-Ok.bus answer.outcome
    (string_bytes answer.text) c.in-Ok.ensures.made c.memory_map_of.ensures h)
    c.trace_from.ensures
