use Rattle.std.proofs.Common.{◌≡◌, ◌++◌, string_bytes, drop}
use Rattle.std.specs.Prelude.{flat_map}
use Rattle.bus_deliverylog.specs.Orders.{merged, merged_from}
use Rattle.bus_replay.specs.Text.{entry_line}
use Rattle.bus_replay.proofs.closing.push_entries.Given as goal

abbrev pub invariant-loop-mark : goal.invariant-loop-mark
invariant-loop-mark l =
    string_bytes l.text
    ++ flat_map entry_line (merged_from l.before l.rest (drop l.mark-index l.left))
    ≡ string_bytes l.fn.text ++ flat_map entry_line (merged l.items l.left)
