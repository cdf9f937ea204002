use Rattle.bus_tenure.specs.Elections.{election_with}
use Rattle.bus_trace.proofs.AllLinesLaws.{trace_read}
use Rattle.bus_trace.proofs.laws.traces_are_drawn_whole.Goals as goal

pub returns : goal.returns
returns g c = trace_read
    (election_with g.Q.Machine.kind_of g.Q.Machine.op g.Q.Machine.fed g.Q.Ratifier.protocol)
    g.Q.Ratifier.protocol
