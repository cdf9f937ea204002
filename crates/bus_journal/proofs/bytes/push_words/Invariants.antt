use Rattle.std.proofs.Common.{◌≡◌, ◌++◌, take}
use Rattle.bus_journal.specs.Format.{words_bytes}
use Rattle.bus_journal.proofs.bytes.push_words.Given as goal

abbrev pub invariant-loop-word : goal.invariant-loop-word
invariant-loop-word l =
    l.out.items ≡ l.initial.out.items ++ words_bytes (take l.word-index l.words)
