-- When a word is a number, and when it is none.
use Rattle.std.proofs.Common.{◌≡◌, ◌≢◌, ℕ, ◌+◌, ◌-◌, ◌*◌, ◌^◌, ◌<◌, ◌≤◌, Bool, true, false, cond}
use Rattle.std.proofs.Common.{eqb, ltb, leb, not, ◌&&◌, ◌||◌, List, [], ◌∷◌, length, get_or, drop}
use Rattle.std.proofs.Common.{Some, None, inl, inr, refl, sym, ap, ◌∙◌, arith}
use Rattle.std.specs.Str.{all_ascii_digits}
use Rattle.std.specs.Char.{is_ascii_digit, digit_value}
use Rattle.std.specs.Int.{IsInRange}
use Rattle.std.specs.Str.Parse.{digits_value, digits_value_after}
use Rattle.std.proofs.Math.Bool.{or-true}
use Rattle.std.proofs.lemmas.Bool.{le-ltb, lt-ltb, le-leb, cases_lt, and_right}
use Rattle.std.proofs.lemmas.Bool.Decides.{eqb_tells}
use Rattle.std.proofs.lemmas.List.{drop_more, drop_all}
use Rattle.std.proofs.lemmas.Str.{digit_value_digit}
use Rattle.std.proofs.lemmas.Str.Parse.{tells_all_ascii_digits}
use Rattle.bus_script.specs.Grammar.{number_of, is_number}

-- ---- four tests in a row

pub all_pass : (a b c d : Bool) → a ≡ true → b ≡ true → c ≡ true → d ≡ true
    → (a && b && c && d) ≡ true
all_pass a b c d e f g h = rw (e, f, g, h) refl

no_number : (word : List ℕ) → is_number word ≡ false → number_of word ≡ None
no_number word e = ap (λ b. cond b (Some (digits_value 10 word)) None) e

abbrev pub some_byte : List ℕ → Bool
some_byte word = ltb 0 (length word)

abbrev pub no_leading_zero : List ℕ → Bool
no_leading_zero word = leb (length word) 1 || not (eqb (get_or word 0 0) 48)

abbrev pub fits : List ℕ → Bool
fits word = ltb (digits_value 10 word) (2 ^ 64)

-- ---- one digit after another

pub digits_value_after-le : (v : ℕ) (ds : List ℕ) → v ≤ digits_value_after 10 v ds
digits_value_after-le v [] = omega arith
digits_value_after-le v (d ∷ ds) =
    let more = digits_value_after-le (v * 10 + digit_value d) ds in omega arith

digit_range : (c : ℕ) → is_ascii_digit c ≡ true → IsInRange 48 57 c
digit_range c e = (tells_all_ascii_digits.parts c [] (rw e refl)).0

pub value_goes_on : (word : List ℕ) (i v : ℕ) → i < length word
    → is_ascii_digit (get_or word i 0) ≡ true
    → digits_value_after 10 v (drop i word) ≡ digits_value 10 word
    → digits_value_after 10 (v * 10 + (get_or word i 0 - 48)) (drop (i + 1) word)
    ≡ digits_value 10 word
value_goes_on word i v lt digit e =
    let k = digit_value_digit (get_or word i 0) (digit_range (get_or word i 0) digit) in
    let same : v * 10 + (get_or word i 0 - 48) ≡ v * 10 + digit_value (get_or word i 0) =
    omega arith in
    ap (λ n. digits_value_after 10 n (drop (i + 1) word)) same
    ∙ ap (digits_value_after 10 v) (sym (drop_more word i 0 lt)) ∙ e

pub too_large_is_none : (word : List ℕ) (i v : ℕ) → i < length word
    → is_ascii_digit (get_or word i 0) ≡ true
    → digits_value_after 10 v (drop i word) ≡ digits_value 10 word
    → 2 ^ 64 ≤ v * 10 + (get_or word i 0 - 48) → number_of word ≡ None
too_large_is_none word i v lt digit e over =
    let whole = value_goes_on word i v lt digit e in
    let more = digits_value_after-le (v * 10 + (get_or word i 0 - 48)) (drop (i + 1) word) in
    let large : 2 ^ 64 ≤ digits_value 10 word = omega arith in
    no_number word (and_right (some_byte word && all_ascii_digits word && no_leading_zero word)
    (fits word) (le-ltb (digits_value 10 word) (2 ^ 64) large))

no_zero : (word : List ℕ) → (1 < length word → get_or word 0 0 ≢ 48) → no_leading_zero word ≡ true
no_zero word zeros =
    elim (cases_lt 1 (length word)) [
      | inl long ↦ elim (eqb_tells (get_or word 0 0) 48) [
        | inl is ↦ absurd (zeros long is.1)
        | inr other ↦ ap (λ b. leb (length word) 1 || not b) other.0 ∙ or-true (leb (length word) 1)
      ]
      | inr short ↦ ap (λ b. b || not (eqb (get_or word 0 0) 48)) (le-leb (length word) 1 short)
    ]

pub all_digits_are_some : (word : List ℕ) (v : ℕ) → 0 < length word
    → (1 < length word → get_or word 0 0 ≢ 48) → v < 2 ^ 64
    → all_ascii_digits (drop (length word) word) ≡ all_ascii_digits word
    → digits_value_after 10 v (drop (length word) word) ≡ digits_value 10 word
    → number_of word ≡ Some v
all_digits_are_some word v some zeros small digits value =
    let is : digits_value 10 word ≡ v =
    sym value ∙ ap (digits_value_after 10 v) (drop_all (length word) word (omega arith)) in
    let all : all_ascii_digits word ≡ true =
    sym digits ∙ ap all_ascii_digits (drop_all (length word) word (omega arith)) in
    let pass = all_pass (some_byte word) (all_ascii_digits word) (no_leading_zero word) (fits word)
    (lt-ltb 0 (length word) some) all (no_zero word zeros)
    (lt-ltb (digits_value 10 word) (2 ^ 64) (omega arith)) in
    ap (λ b. cond b (Some (digits_value 10 word)) None) pass ∙ ap (λ n. Some n) is

pub not_below : (a b : ℕ) → (a < b → ⊥) → b ≤ a
not_below a b never = elim (cases_lt a b) [ inl lt ↦ absurd (never lt) | inr le ↦ le ]
