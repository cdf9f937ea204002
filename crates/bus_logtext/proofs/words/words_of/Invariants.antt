use Rattle.std.proofs.Common.{◌≡◌, length}
use Rattle.bus_logtext.specs.Words.{words_from, words_of}
use Rattle.bus_logtext.proofs.WordLemmas.{after_words}
use Rattle.bus_logtext.proofs.words.words_of.Given as goal

abbrev pub invariant-loop-line : goal.invariant-loop-line
invariant-loop-line l =
    after_words l.words.items (words_from (length l.words.items) l.lines) ≡ words_of l.input

abbrev pub decreases-loop-line : goal.decreases-loop-line
decreases-loop-line l = length l.lines
