use Rattle.std.proofs.Common.{◌≡◌, ◌++◌, string_bytes, drop}
use Rattle.bus_logtext.specs.Words.{words_text}
use Rattle.bus_logtext.proofs.words.print_words.Given as goal

abbrev pub invariant-loop-word : goal.invariant-loop-word
invariant-loop-word l =
    string_bytes l.text ++ words_text (drop l.word-index l.words) ≡ words_text l.words
