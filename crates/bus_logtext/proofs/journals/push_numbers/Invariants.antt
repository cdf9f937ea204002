use Rattle.std.proofs.Common.{◌≡◌, ◌++◌, string_bytes, drop}
use Rattle.std.specs.Prelude.{flat_map}
use Rattle.bus_replay.specs.Text.{behind}
use Rattle.bus_logtext.proofs.journals.push_numbers.Given as goal

abbrev pub invariant-loop-number : goal.invariant-loop-number
invariant-loop-number l =
    string_bytes l.text ++ flat_map behind (drop l.number-index l.numbers)
    ≡ string_bytes l.initial.text ++ flat_map behind l.numbers
