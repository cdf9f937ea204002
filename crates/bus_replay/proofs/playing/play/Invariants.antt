use Rattle.std.proofs.Common.{length, string_bytes}
use Rattle.bus_tenure.specs.Elections.{election_with}
use Rattle.bus_replay.proofs.PlayLemmas.{Played}
use Rattle.bus_replay.proofs.playing.play.Given as goal

abbrev pub invariant-loop-line : goal.invariant-loop-line
invariant-loop-line g l =
    let X =
    election_with g.Q.Machine.kind_of g.Q.Machine.op g.Q.Machine.fed g.Q.Ratifier.protocol in
    Played X g.Q.Ratifier.protocol l.fn.bus l.fn.history l.fn.lines l.lines (string_bytes l.fn.text)
    (string_bytes l.text) l.bus l.history

abbrev pub decreases-loop-line : goal.decreases-loop-line
decreases-loop-line g l = length l.lines
