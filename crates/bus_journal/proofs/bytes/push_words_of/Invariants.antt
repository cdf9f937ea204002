use Rattle.std.proofs.Common.{◌≡◌, ℕ, ◌%◌, ◌^◌, ◌<◌, List, ◌++◌, length, All}
use Rattle.bus_journal.specs.Format.{words_bytes}
use Rattle.bus_journal.proofs.bytes.push_words_of.Given as goal

abbrev pub invariant-loop-word : goal.invariant-loop-word
invariant-loop-word l = record {
  more : List ℕ;
  parts : l.fn.bytes ≡ words_bytes more ++ l.rest;
  fit : All (λ w. w < 2 ^ 64) more;
  words : l.words.items ≡ l.initial.words.items ++ more;
  whole : length l.rest % 8 ≡ 0;
}

abbrev pub decreases-loop-word : goal.decreases-loop-word
decreases-loop-word l = length l.rest
