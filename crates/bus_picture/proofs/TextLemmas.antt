-- A text that grows in steps.
use Rattle.std.proofs.Common.{◌≡◌, ℕ, List, ◌++◌, ap, ◌∙◌, append_assoc}

-- one step, and what the steps behind it put
pub grown : (old one more : List ℕ) {mid new : List ℕ} → mid ≡ old ++ one → new ≡ mid ++ more
    → new ≡ old ++ (one ++ more)
grown old one more first rest = rest ∙ ap (λ t. t ++ more) first ∙ append_assoc old one more
