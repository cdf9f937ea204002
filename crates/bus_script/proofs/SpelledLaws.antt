-- Numbers and words are what they spell, both ways.
use Rattle.std.proofs.Common.{◌≡◌, ℕ, zero, suc, ◌^◌, ◌<◌, Bool, true, false, cond, eqb, leb, not}
use Rattle.std.proofs.Common.{◌&&◌, ◌||◌, List, [], ◌∷◌, ◌++◌, length, get_or, Option, Some, None}
use Rattle.std.proofs.Common.{refl, sym, ap, subst, ◌∙◌, append-nil, arith}
use Rattle.std.specs.Prelude.{decimal, flat_map, map, option_and_then}
use Rattle.std.specs.List.{AllByRecursion, join_with_byte}
use Rattle.std.specs.Str.{all_ascii_digits, bytes_eq}
use Rattle.std.specs.Str.Parse.{digits_value}
use Rattle.std.proofs.Math.Bool.{or-true}
use Rattle.std.proofs.lemmas.Bool.{and_parts, ltb-true, leb-true, lt-ltb, eq-eqb, ne_eqb}
use Rattle.std.proofs.lemmas.Option.{cond_some}
use Rattle.std.proofs.lemmas.Fmt.{digits_decimal, digits_value-decimal, decimal-digits_value}
use Rattle.std.proofs.lemmas.Fmt.{decimal_nonempty, first_decimal, decimal_digit}
use Rattle.std.proofs.lemmas.Slice.Eq.{bytes_eq-Decides}
use Rattle.std.proofs.lemmas.List.Elements.{All-from_recursion}
use Rattle.std.proofs.lemmas.List.Splits.{slice_split_none, slice_split_at}
use Rattle.std.proofs.lemmas.List.Splits.{join_with_byte-slice_split}
use Rattle.std.proofs.lemmas.Str.Parse.{IsNumeralModel, numerals_by_value, tells_all_ascii_digits}
use Rattle.bus_script.specs.Grammar.{number_of, is_number, each_of, and_before, words_of}
use Rattle.bus_script.specs.Grammar.{behind_first, arguments_of}
use Rattle.bus_script.proofs.NumberLaws.{all_pass, some_byte, no_leading_zero, fits}

-- ---- numbers

pub digits_model : IsNumeralModel (λ ds. all_ascii_digits ds ≡ true) (digits_value 10)
digits_model = numerals_by_value (λ ds. all_ascii_digits ds ≡ true) tells_all_ascii_digits

lead : (a z : Bool) → (a || not z) ≡ true → z ≡ true → a ≡ true
lead true z e is = refl
lead false true e is = absurd cc
lead false false e is = absurd cc

pub number_spelled : (word : List ℕ) (n : ℕ) → number_of word ≡ Some n
    → (word ≡ decimal n) × (n < 2 ^ 64)
number_spelled word n e =
    let k = cond_some (is_number word) (digits_value 10 word) n e in
    let p =
    and_parts (some_byte word && all_ascii_digits word && no_leading_zero word) (fits word) k.0 in
    let q = and_parts (some_byte word && all_ascii_digits word) (no_leading_zero word) p.0 in
    let r = and_parts (some_byte word) (all_ascii_digits word) q.0 in
    let small = ltb-true (digits_value 10 word) (2 ^ 64) p.1 in
    let some = ltb-true 0 (length word) r.0 in
    let alone : get_or word 0 0 ≡ 48 → length word ≡ 1 = λ is.
    let short = leb-true (length word) 1
    (lead (leb (length word) 1) (eqb (get_or word 0 0) 48) q.1 (eq-eqb (get_or word 0 0) 48 is)) in
    omega arith in (
      sym (decimal-digits_value digits_model word r.1 some alone small) ∙ ap decimal k.1,
      omega (arith, k.1),
    )

leads_well : (n : ℕ) → n < 2 ^ 64 → no_leading_zero (decimal n) ≡ true
leads_well zero lt = ap no_leading_zero (decimal_digit 0 (omega arith))
leads_well (suc m) lt =
    let first = first_decimal (suc m) (omega arith) lt in
    ap (λ z. leb (length (decimal (suc m))) 1 || not z)
    (ne_eqb (get_or (decimal (suc m)) 0 0) 48 (λ e. omega arith))
    ∙ or-true (leb (length (decimal (suc m))) 1)

pub number_read : (n : ℕ) → n < 2 ^ 64 → number_of (decimal n) ≡ Some n
number_read n lt =
    let value = digits_value-decimal digits_model n lt in
    let small : digits_value 10 (decimal n) < 2 ^ 64 = rw value lt in
    let pass : is_number (decimal n) ≡ true = all_pass (some_byte (decimal n))
    (all_ascii_digits (decimal n)) (no_leading_zero (decimal n)) (fits (decimal n))
    (lt-ltb 0 (length (decimal n)) (decimal_nonempty n lt)) (digits_decimal digits_model n lt)
    (leads_well n lt) (lt-ltb (digits_value 10 (decimal n)) (2 ^ 64) small) in
    ap (λ b. cond b (Some (digits_value 10 (decimal n))) None) pass ∙ ap (λ m. Some m) value

-- ---- words

abbrev pub is_space : ℕ → Bool
is_space b = eqb b 32

abbrev pub NoSpace : List ℕ → Type 0
NoSpace word = AllByRecursion (λ b. is_space b ≡ false) word

abbrev further : List (List ℕ) → List ℕ
further words = flat_map (λ word. 32 ∷ word) words

words_read : (first : List ℕ) (words : List (List ℕ)) → NoSpace first → AllByRecursion NoSpace words
    → words_of (first ++ further words) ≡ first ∷ words
words_read first [] plain all =
    ap words_of (append-nil first)
    ∙ slice_split_none is_space first (All-from_recursion (λ b. is_space b ≡ false) first plain)
words_read first (word ∷ words) plain all =
    slice_split_at is_space first 32 (word ++ further words)
    (All-from_recursion (λ b. is_space b ≡ false) first plain) refl
    ∙ ap (λ (l : List (List ℕ)). first ∷ l) (words_read word words all.0 all.1)

joined : (first : List ℕ) (words : List (List ℕ))
    → join_with_byte 32 (first ∷ words) ≡ first ++ further words
joined first [] = sym (append-nil first)
joined first (word ∷ words) = ap (λ (l : List ℕ). first ++ 32 ∷ l) (joined word words)

words_spelled : (line first : List ℕ) (words : List (List ℕ)) → words_of line ≡ first ∷ words
    → line ≡ first ++ further words
words_spelled line first words e =
    sym (join_with_byte-slice_split 32 line) ∙ ap (join_with_byte 32) e ∙ joined first words

digits_plain : (ds : List ℕ) → all_ascii_digits ds ≡ true → NoSpace ds
digits_plain [] e = tt
digits_plain (c ∷ cs) e =
    let k = tells_all_ascii_digits.parts c cs e in
    (ne_eqb c 32 (λ is. omega (arith, k.0.0)), digits_plain cs k.1)

pub number_plain : (n : ℕ) → n < 2 ^ 64 → NoSpace (decimal n)
number_plain n lt = digits_plain (decimal n) (digits_decimal digits_model n lt)

-- ---- words that are something

pub chained : {A B : Type 0} (f : A → Option B) (o : Option A) (y : B)
    → option_and_then f o ≡ Some y → (x : A) × (o ≡ Some x) × (f x ≡ Some y)
chained f None y e = absurd cc
chained f (Some x) y e = (x, refl, e)

module _ {A : Type 0} (read : List ℕ → Option A) (spell : A → List ℕ) (Good : A → Type 0)
    (to : (word : List ℕ) (x : A) → read word ≡ Some x → (word ≡ spell x) × Good x)
    (from : (x : A) → Good x → read (spell x) ≡ Some x) where
  before_is : (o : Option A) (p : Option (List A)) (xs : List A) → and_before o p ≡ Some xs
      → (x : A) × (ys : List A) × (o ≡ Some x) × (p ≡ Some ys) × (xs ≡ x ∷ ys)
  before_is None p xs e = absurd cc
  before_is (Some x) None xs e = absurd cc
  before_is (Some x) (Some ys) xs e = (x, ys, refl, refl, cc)

  each_spelled : (words : List (List ℕ)) (xs : List A) → each_of read words ≡ Some xs
      → (words ≡ map spell xs) × AllByRecursion Good xs
  each_spelled [] [] e = (refl, tt)
  each_spelled [] (x ∷ xs) e = absurd cc
  each_spelled (word ∷ words) xs e =
      let k = before_is (read word) (each_of read words) xs e in
      let one = to word k.0 k.2 in
      let more = each_spelled words k.1 k.3 in
      subst (λ (l : List A). (word ∷ words ≡ map spell l) × AllByRecursion Good l) (sym k.4) (
        ap (λ (w : List ℕ). w ∷ words) one.0 ∙ ap (λ (l : List (List ℕ)). spell k.0 ∷ l) more.0,
        (one.1, more.1),
      )

  each_read : (xs : List A) → AllByRecursion Good xs → each_of read (map spell xs) ≡ Some xs
  each_read [] good = refl
  each_read (x ∷ xs) good = rw (from x good.0, each_read xs good.1) refl

  further_map : (xs : List A) → further (map spell xs) ≡ flat_map (λ x. 32 ∷ spell x) xs
  further_map [] = refl
  further_map (x ∷ xs) = ap (λ (l : List ℕ). 32 ∷ spell x ++ l) (further_map xs)

  behind_is : (keyword : List ℕ) (all words : List (List ℕ)) → behind_first keyword all ≡ Some words
      → all ≡ keyword ∷ words
  behind_is keyword [] words e = absurd cc
  behind_is keyword (first ∷ rest) words e =
      let k = cond_some (bytes_eq first keyword) rest words e in
      let same : first ≡ keyword = (bytes_eq-Decides first keyword).0 k.0 in
      rw (same, k.1) refl

  pub line_spelled : (keyword line : List ℕ) (xs : List A)
      → option_and_then (each_of read) (arguments_of keyword line) ≡ Some xs
      → (line ≡ keyword ++ flat_map (λ x. 32 ∷ spell x) xs) × AllByRecursion Good xs
  line_spelled keyword line xs e =
      let k = chained (each_of read) (arguments_of keyword line) xs e in
      let each = each_spelled k.0 xs k.2 in (
        words_spelled line keyword k.0 (behind_is keyword (words_of line) k.0 k.1)
            ∙ ap (λ (l : List (List ℕ)). keyword ++ further l) each.0
            ∙ ap (λ (l : List ℕ). keyword ++ l) (further_map xs),
        each.1,
      )

  module _ (plain : (x : A) → Good x → NoSpace (spell x)) where
    all_plain : (xs : List A) → AllByRecursion Good xs → AllByRecursion NoSpace (map spell xs)
    all_plain [] good = tt
    all_plain (x ∷ xs) good = (plain x good.0, all_plain xs good.1)

    pub line_read : (keyword line : List ℕ) (xs : List A) → NoSpace keyword → AllByRecursion Good xs
        → line ≡ keyword ++ flat_map (λ x. 32 ∷ spell x) xs
        → option_and_then (each_of read) (arguments_of keyword line) ≡ Some xs
    line_read keyword line xs clean good e =
        let words : words_of line ≡ keyword ∷ map spell xs =
        ap words_of (e ∙ ap (λ (l : List ℕ). keyword ++ l) (sym (further_map xs)))
        ∙ words_read keyword (map spell xs) clean (all_plain xs good) in
        let behind : arguments_of keyword line ≡ Some (map spell xs) =
        ap (behind_first keyword) words
        ∙ ap (λ b. cond b (Some (map spell xs)) None) ((bytes_eq-Decides keyword keyword).1 refl) in
        ap (option_and_then (each_of read)) behind ∙ each_read xs good
