use Rattle.std.proofs.Common.{◌-◌, string_bytes}
use Rattle.bus_tenure.specs.Elections.{election_with}
use Rattle.bus_world.specs.Playing.{event_told}
use Rattle.bus_trace.specs.Words.{sizes_told}
use Rattle.bus_trace.specs.Obeying.{IsCounted}
use Rattle.bus_trace.proofs.RepeatRows.{Repeated}
use Rattle.bus_trace.proofs.playing.trace_event.Given as goal

abbrev pub invariant-loop-more : goal.invariant-loop-more
invariant-loop-more g l = record {
  counted : IsCounted (string_bytes l.sheet.text) l.sheet.lines;
  repeated : Repeated
      (election_with g.Q.Machine.kind_of g.Q.Machine.op g.Q.Machine.fed g.Q.Ratifier.protocol)
      g.Q.Ratifier.protocol
      (sizes_told l.memory_map) l.line (event_told l.event) l.fn.bus (l.fn.times - 1)
      (string_bytes l.fn.sheet.text) l.fn.sheet.lines l.more l.last l.bus
      (string_bytes l.sheet.text) l.sheet.lines;
}

abbrev pub decreases-loop-more : goal.decreases-loop-more
decreases-loop-more g l = l.more
