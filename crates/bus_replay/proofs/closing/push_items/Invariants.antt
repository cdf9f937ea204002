use Rattle.std.proofs.Common.{◌≡◌, ◌++◌, string_bytes, drop, map}
use Rattle.std.specs.Prelude.{flat_map}
use Rattle.bus_batch.specs.Frames.{Says}
use Rattle.bus_replay.specs.Text.{entry_line}
use Rattle.bus_replay.proofs.closing.push_items.Given as goal

abbrev pub invariant-loop-item : goal.invariant-loop-item
invariant-loop-item l =
    string_bytes l.text ++ flat_map entry_line (map Says (drop l.item-index l.items))
    ≡ string_bytes l.fn.text ++ flat_map entry_line (map Says l.items)
