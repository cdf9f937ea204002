-- Texts with no byte below a space: they have no tab, and no end of a line.
use Rattle.std.proofs.Common.{◌≡◌, ℕ, zero, suc, ◌+◌, ◌/◌, ◌%◌, ◌≤◌, Bool, true, false, cond, List}
use Rattle.std.proofs.Common.{[], ◌∷◌, ◌++◌, ◌==◌, All, decimal, eqb-true, leb-true, nat_lt}
use Rattle.std.proofs.Common.{nat_le, arith}
use Rattle.std.specs.Fmt.{digits, digits_onto, digit_glyph}
use Rattle.std.specs.List.{list_all}
use Rattle.std.proofs.lemmas.Bool.{false_from_ne_true, and_parts}
use Rattle.std.proofs.lemmas.List.Elements.{All-nil, All-cons, All-append, All-weaker}

abbrev pub IsPlain : List ℕ → Type 0
IsPlain text = All (λ b. 32 ≤ b) text

-- no tab, and no end of a line
abbrev pub HasNoTab : List ℕ → Type 0
HasNoTab text = All (λ b. (b == 9) ≡ false) text

abbrev pub HasNoEnd : List ℕ → Type 0
HasNoEnd text = All (λ b. (b == 10) ≡ false) text

pub no_tab : (text : List ℕ) → IsPlain text → HasNoTab text
no_tab text = All-weaker (λ b. 32 ≤ b) (λ b. (b == 9) ≡ false)
    (λ b h. false_from_ne_true (b == 9) (λ e. let same : b ≡ 9 = eqb-true b 9 e in omega arith))
    text

pub no_end : (text : List ℕ) → IsPlain text → HasNoEnd text
no_end text = All-weaker (λ b. 32 ≤ b) (λ b. (b == 10) ≡ false)
    (λ b h. false_from_ne_true (b == 10) (λ e. let same : b ≡ 10 = eqb-true b 10 e in omega arith))
    text

-- ---- what is plain
-- by a test, which a text of the program's own passes
pub plain_by : (text : List ℕ) → list_all (λ b. nat_le 32 b) text ≡ true → IsPlain text
plain_by [] e = All-nil (λ b. 32 ≤ b)
plain_by (b ∷ text) e =
    let h = and_parts (nat_le 32 b) (list_all (λ c. nat_le 32 c) text) e in
    All-cons (λ b. 32 ≤ b) b text (leb-true 32 b h.0) (plain_by text h.1)

pub plain_append : (a b : List ℕ) → IsPlain a → IsPlain b → IsPlain (a ++ b)
plain_append a b = All-append (λ b. 32 ≤ b) a b

pub plain_cons : (b : ℕ) (text : List ℕ) → 32 ≤ b → IsPlain text → IsPlain (b ∷ text)
plain_cons b text = All-cons (λ b. 32 ≤ b) b text

pub plain_cond : (test : Bool) (a b : List ℕ) → IsPlain a → IsPlain b → IsPlain (cond test a b)
plain_cond true a b h k = h
plain_cond false a b h k = k

pub glyph_cases : (test : Bool) (d : ℕ) → 32 ≤ cond test (48 + d) (87 + d)
glyph_cases true d = omega arith
glyph_cases false d = omega arith

plain_onto : (k n : ℕ) (text : List ℕ) → IsPlain text → IsPlain (digits_onto k 10 false n text)
plain_onto zero n text h = h
plain_onto (suc k) n text h =
    let more =
    plain_cons (digit_glyph false (n % 10)) text (glyph_cases (nat_lt (n % 10) 10) (n % 10)) h in
    plain_cond (n / 10 == 0) (digit_glyph false (n % 10) ∷ text)
    (digits_onto k 10 false (n / 10) (digit_glyph false (n % 10) ∷ text)) more
    (plain_onto k (n / 10) (digit_glyph false (n % 10) ∷ text) more)

pub plain_decimal : (n : ℕ) → IsPlain (decimal n)
unfolding digits
plain_decimal n = plain_onto 64 n [] (All-nil (λ b. 32 ≤ b))
