use Rattle.std.proofs.Common.{◌≡◌, ◌+◌, ◌*◌, ◌≤◌, ◌++◌, length}
use Rattle.bus_long.specs.declared.pieces.TheConstants.{MOST_LONG_BYTES, PIECE_BYTES}
use Rattle.bus_long.specs.Pieces.{pieces}
use Rattle.bus_long.proofs.pieces.cut.Given as goal

abbrev pub invariant-loop-rest : goal.invariant-loop-rest
invariant-loop-rest l = record {
  parts : l.before.items ++ pieces l.rest ≡ pieces l.fn.bytes;
  fits : PIECE_BYTES * length l.before.items + length l.rest ≤ MOST_LONG_BYTES;
}

abbrev pub decreases-loop-rest : goal.decreases-loop-rest
decreases-loop-rest l = length l.rest
