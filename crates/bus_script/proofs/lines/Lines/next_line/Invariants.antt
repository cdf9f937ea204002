use Rattle.std.proofs.Common.{◌≡◌, ◌+◌, ◌<◌, ◌^◌, length}
use Rattle.bus_script.specs.Grammar.{lines_from}
use Rattle.bus_script.proofs.lines.Lines.next_line.Given as goal

abbrev pub invariant-loop-self : goal.invariant-loop-self
invariant-loop-self l = record {
  bound : l.self-inside.passed + length l.self-inside.rest.now < 2 ^ 64;
  left : lines_from (l.self-inside.passed + 1) l.self-inside.rest.now
      ≡ lines_from (l.initial.self-inside.passed + 1) l.initial.self-inside.rest.now;
}

abbrev pub decreases-loop-self : goal.decreases-loop-self
decreases-loop-self l = length l.self-inside.rest.now
