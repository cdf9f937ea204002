use Rattle.std.proofs.Common.{string_bytes}
use Rattle.bus_tenure.specs.Elections.{election_with}
use Rattle.bus_trace.specs.Words.{sizes_told}
use Rattle.bus_trace.proofs.PlayRows.{printed}
use Rattle.bus_trace.proofs.traces.trace_from.Goals as goal

pub returns : goal.returns
returns g c =
    let X =
    election_with g.Q.Machine.kind_of g.Q.Machine.op g.Q.Machine.fed g.Q.Ratifier.protocol in
    printed X g.Q.Ratifier.protocol (sizes_told c.args.memory_map) c.args.bus c.args.lines
    (string_bytes c.in_ok-sheet.sheet.text)
    c.in_ok-sheet.sheet.lines c.trace_lines.new.bus c.in_ok-outcome.outcome
    (string_bytes c.trace_lines.new.sheet.text) c.in_ok-sheet.ensures.text
    c.in_ok-sheet.ensures.lines c.in_ok-outcome.ensures
