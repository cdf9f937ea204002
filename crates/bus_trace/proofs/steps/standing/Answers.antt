use Rattle.std.proofs.Common.{◌≡◌, ℕ, zero, suc, None, List, [], ◌∷◌, slice_get, slice_index, refl}
use Rattle.std.proofs.Common.{sym, ◌∙◌}
use Rattle.bus_trace.proofs.steps.standing.Goals as goal

-- a number that is not there is read as 0
none_there : (xs : List ℕ) (i : ℕ) → None ≡ slice_get xs i → 0 ≡ slice_index xs i
none_there [] i e = refl
none_there (x ∷ xs) zero e = absurd cc
none_there (x ∷ xs) (suc i) e = none_there xs i e

pub returns-in-None : goal.returns-in-None
returns-in-None g c =
    none_there c.args.bus.now.words c.args.at.0 (sym c.in-None.is ∙ c.word.ensures)
