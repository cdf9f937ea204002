use Rattle.std.proofs.Common.{◌≡◌, ◌++◌, string_bytes, drop}
use Rattle.bus_replay.specs.Text.{counts_text}
use Rattle.bus_replay.proofs.GivenLemmas.{counts_from}
use Rattle.bus_replay.proofs.closing.push_all_given.Given as goal

abbrev pub invariant-loop-receiver : goal.invariant-loop-receiver
invariant-loop-receiver l =
    string_bytes l.text ++ counts_from l.receiver (drop l.receiver l.all)
    ≡ string_bytes l.fn.text ++ counts_text l.all
