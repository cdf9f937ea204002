use Rattle.std.proofs.Common.{sym, string_bytes}
use Rattle.bus_tenure.specs.Elections.{election_with}
use Rattle.bus_trace.specs.Words.{sizes_told}
use Rattle.bus_trace.proofs.PlayRows.{none_played, one_played, all_played, one_refused}
use Rattle.bus_trace.proofs.playing.trace_lines.Goals as goal

pub loop-line-init : goal.loop-line-init
loop-line-init g c =
    let X =
    election_with g.Q.Machine.kind_of g.Q.Machine.op g.Q.Machine.fed g.Q.Ratifier.protocol in
    record {
      counted = c.requires;
      played = none_played X g.Q.Ratifier.protocol (sizes_told c.args.memory_map) c.args.bus.now
          c.args.lines
          (string_bytes c.args.sheet.now.text) c.args.sheet.now.lines;
    }

pub loop-line-preserved : goal.loop-line-preserved
loop-line-preserved g c =
    let X =
    election_with g.Q.Machine.kind_of g.Q.Machine.op g.Q.Machine.fed g.Q.Ratifier.protocol in
    record {
      counted = c.in_ok-trace_line.ensures.counts c.in-Done.is;
      played = one_played X g.Q.Ratifier.protocol (sizes_told c.args.memory_map) c.args.bus.now
          c.args.lines
          (string_bytes c.args.sheet.now.text) c.args.sheet.now.lines c.loop-line.lines
          c.next_line.new.self
          (c.in-Some.line.number, c.in-Some.line.bytes.now)
          (string_bytes c.loop-line.sheet.text) c.loop-line.sheet.lines
          (string_bytes c.trace_line.new.sheet.text) c.trace_line.new.sheet.lines c.loop-line.bus
          c.trace_line.new.bus c.in_ok-trace_line.field-0 c.loop-line.invariant.played
          (sym c.in-Some.ensures.some)
          c.in-Done.is c.in_ok-trace_line.ensures.obeyed;
    }

pub returns-in-Refused : goal.returns-in-Refused
returns-in-Refused g c =
    let X =
    election_with g.Q.Machine.kind_of g.Q.Machine.op g.Q.Machine.fed g.Q.Ratifier.protocol in
    one_refused X g.Q.Ratifier.protocol (sizes_told c.args.memory_map) c.args.bus.now c.args.lines
    (string_bytes c.args.sheet.now.text)
    c.args.sheet.now.lines c.loop-line.lines c.next_line.new.self
    (c.in-Some.line.number, c.in-Some.line.bytes.now)
    (string_bytes c.loop-line.sheet.text) c.loop-line.sheet.lines
    (string_bytes c.trace_line.new.sheet.text) c.trace_line.new.sheet.lines c.loop-line.bus
    c.trace_line.new.bus c.in_ok-trace_line.field-0 c.loop-line.invariant.played
    (sym c.in-Some.ensures.some)
    c.in-Refused.is c.in_ok-trace_line.ensures.obeyed

pub returns : goal.returns
returns g c =
    let X =
    election_with g.Q.Machine.kind_of g.Q.Machine.op g.Q.Machine.fed g.Q.Ratifier.protocol in
    all_played X g.Q.Ratifier.protocol (sizes_told c.args.memory_map) c.args.bus.now c.args.lines
    (string_bytes c.args.sheet.now.text)
    c.args.sheet.now.lines c.loop-line.lines (string_bytes c.loop-line.sheet.text)
    c.loop-line.sheet.lines c.loop-line.bus
    c.loop-line.invariant.played c.in_default.ensures.none
