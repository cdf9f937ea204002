use Rattle.std.proofs.Common.{◌≡◌, ℕ, List, ◌++◌, drop}
use Rattle.std.specs.Prelude.{flat_map}
use Rattle.std.specs.Fmt.{HasWritten, IsPlainFormatter}
use Rattle.bus_deliverylog.specs.Text.{hex_pair}
use Rattle.bus_deliverylog.proofs.texts.write_hex.Given as goal

abbrev pub invariant-loop-byte : goal.invariant-loop-byte
invariant-loop-byte g l =
    IsPlainFormatter l.initial.f
    → (done : List ℕ) × HasWritten g.W.Write.write_str_gives l.initial.f done l.f
    × (done ++ flat_map hex_pair (drop l.byte-index l.bytes) ≡ flat_map hex_pair l.bytes)
