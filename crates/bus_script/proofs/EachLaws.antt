-- Reading a list from its front: what was read, and what is behind it.
use Rattle.std.proofs.Common.{◌≡◌, List, [], ◌∷◌, ◌++◌, Option, Some, None, refl, ap, append_assoc}
use Rattle.bus_script.specs.Grammar.{and_before}

-- these, and then those that are behind them, if they are something
abbrev pub behind : {A : Type 0} → List A → Option (List A) → Option (List A)
behind front None = None
behind front (Some back) = Some (front ++ back)

-- one more of those behind goes over to the front
pub behind_one_more : {A : Type 0} (front : List A) (x : A) (back : Option (List A))
    → behind (front ++ x ∷ []) back ≡ behind front (and_before (Some x) back)
behind_one_more front x None = refl
behind_one_more front x (Some back) = ap (λ l. Some l) (append_assoc front (x ∷ []) back)
