use Rattle.std.proofs.Common.{refl, sym, ap, ◌∙◌, ◌∷◌, Bor, List, ℕ}
use Rattle.bus_script.specs.Grammar.{lines_of}
use Rattle.bus_script.proofs.PieceLemmas.{line_split}
use Rattle.bus_script.proofs.lines.first_line.Goals as goal

pub returns-clause-lines : goal.returns-clause-lines
returns-clause-lines c =
    line_split _ _ c.split_at_first.result.1 _ c.requires refl c.split_at_first.ensures.front
    c.split_at_first.ensures.rest
    ∙ ap (λ (b : Bor (List ℕ)). c.split_at_first.result.0.now ∷ lines_of b.now)
    (sym c.unwrap_or.ensures)
