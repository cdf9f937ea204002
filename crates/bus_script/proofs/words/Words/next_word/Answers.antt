use Rattle.std.proofs.Common.{ap, sym, ◌∙◌, Option, Bor, List, ℕ}
use Rattle.std.specs.Option.{option_copied}
use Rattle.bus_script.specs.Grammar.{words_left}
use Rattle.bus_script.proofs.PieceLemmas.{word_split}
use Rattle.bus_script.proofs.words.Words.next_word.Goals as goal

pub returns-clause-some : goal.returns-clause-some
returns-clause-some c =
    sym c.self.view_is
    ∙ ap (λ (r : Option (Bor (List ℕ))). words_left (option_copied r)) c.in_ok-line.was
    ∙ word_split c.in_ok-line.line.now c.split_at_first.result.0.now c.split_at_first.result.1
    c.split_at_first.ensures.front c.split_at_first.ensures.rest
