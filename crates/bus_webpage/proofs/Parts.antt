-- Texts that are made of parts, one after another.
use Rattle.std.proofs.Common.{◌≡◌, ◌++◌, ◌∙◌, ap, List, [], ℕ}

-- five parts, put one after another at the end of a text that was empty
pub joined : {t₀ t₁ t₂ t₃ t₄ t₅ : List ℕ} (a b c d e : List ℕ) → t₀ ≡ [] → t₁ ≡ t₀ ++ a
    → t₂ ≡ t₁ ++ b → t₃ ≡ t₂ ++ c → t₄ ≡ t₃ ++ d → t₅ ≡ t₄ ++ e → t₅ ≡ a ++ b ++ c ++ d ++ e
joined a b c d e empty first second third fourth fifth =
    fifth
    ∙ ap (λ (t : List ℕ). t ++ e) (fourth
    ∙ ap (λ (t : List ℕ). t ++ d) (third
    ∙ ap (λ (t : List ℕ). t ++ c)
    (second ∙ ap (λ (t : List ℕ). t ++ b) (first ∙ ap (λ (t : List ℕ). t ++ a) empty))))
