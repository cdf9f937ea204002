use Rattle.std.proofs.Common.{length, string_bytes}
use Rattle.bus_tenure.specs.Elections.{election_with}
use Rattle.bus_trace.specs.Words.{sizes_told}
use Rattle.bus_trace.specs.Obeying.{IsCounted}
use Rattle.bus_trace.proofs.PlayRows.{Played}
use Rattle.bus_trace.proofs.playing.trace_lines.Given as goal

abbrev pub invariant-loop-line : goal.invariant-loop-line
invariant-loop-line g l = record {
  counted : IsCounted (string_bytes l.sheet.text) l.sheet.lines;
  played : Played
      (election_with g.Q.Machine.kind_of g.Q.Machine.op g.Q.Machine.fed g.Q.Ratifier.protocol)
      g.Q.Ratifier.protocol
      (sizes_told l.memory_map) l.fn.bus l.fn.lines (string_bytes l.fn.sheet.text) l.fn.sheet.lines
      l.lines (string_bytes l.sheet.text) l.sheet.lines l.bus;
}

abbrev pub decreases-loop-line : goal.decreases-loop-line
decreases-loop-line g l = length l.lines
