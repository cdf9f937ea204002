use Rattle.std.proofs.Common.{◌≡◌, length}
use Rattle.bus_replay.specs.Lines.{pairs_of}
use Rattle.bus_script.proofs.EachLaws.{behind}
use Rattle.bus_replay.proofs.hex.pairs_of.Given as goal

abbrev pub invariant-loop-rest : goal.invariant-loop-rest
invariant-loop-rest l = behind l.bytes.items (pairs_of l.rest) ≡ pairs_of l.digits

abbrev pub decreases-loop-rest : goal.decreases-loop-rest
decreases-loop-rest l = length l.rest
