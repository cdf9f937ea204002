-- What stands before the first separator of a text and behind it, and the lines and words that
-- begin there.
use Rattle.std.proofs.Common.{◌≡◌, ℕ, suc, ◌+◌, ◌-◌, ◌<◌, Bool, true, false, cond, eqb, ltb, not}
use Rattle.std.proofs.Common.{List, [], ◌∷◌, length, take, drop, Option, Some, None, refl, sym, ap}
use Rattle.std.proofs.Common.{◌∙◌, arith, Bor, MatchOption}
use Rattle.std.specs.Prelude.{position, unwrap_or}
use Rattle.std.specs.Option.{option_copied}
use Rattle.std.specs.List.{before_first, after_first, position_or_len, onto_first}
use Rattle.std.proofs.lemmas.Bool.{ltb-false, ltb-true}
use Rattle.std.proofs.lemmas.Option.{cond_some}
use Rattle.std.proofs.lemmas.List.{length-drop, take_all}
use Rattle.std.proofs.lemmas.List.Sums.{prefix_len-le-length}
use Rattle.std.proofs.lemmas.List.Splits.{slice_split_first}
use Rattle.bus_script.specs.Grammar.{lines_of, words_of, words_left}

-- ---- the place of the first separator

is_none : {A : Type 0} (b : Bool) (x : A) → cond b (Some x) None ≡ None → b ≡ false
is_none true x e = cc
is_none false x e = refl

pub found_at : (p : ℕ → Bool) (xs : List ℕ) (i : ℕ) → position p xs ≡ Some i
    → (position_or_len p xs < length xs) × (position_or_len p xs ≡ i)
found_at p xs i e =
    let k = cond_some (ltb (position_or_len p xs) (length xs)) (position_or_len p xs) i e in
    (ltb-true _ _ k.0, k.1)

pub found_nowhere : (p : ℕ → Bool) (xs : List ℕ) → position p xs ≡ None
    → position_or_len p xs ≡ length xs
found_nowhere p xs e =
    let far = ltb-false (position_or_len p xs) (length xs)
    (is_none (ltb (position_or_len p xs) (length xs)) (position_or_len p xs) e) in
    let near = prefix_len-le-length (λ x. not (p x)) xs in
    omega arith

pub front_at : (p : ℕ → Bool) (xs : List ℕ) (i : ℕ) → position p xs ≡ Some i
    → take i xs ≡ before_first p xs
front_at p xs i e = ap (λ n. take n xs) (sym (found_at p xs i e).1)

pub rest_at : (p : ℕ → Bool) (xs : List ℕ) (i : ℕ) → position p xs ≡ Some i
    → (position_or_len p xs < length xs)
    × (take (length xs - (i + 1)) (drop (i + 1) xs) ≡ after_first p xs)
rest_at p xs i e =
    let k = found_at p xs i e in (
      k.0,
      take_all (length xs - (i + 1)) (drop (i + 1) xs) (omega (arith, length-drop (i + 1) xs))
          ∙ ap (λ n. drop (n + 1) xs) (sym k.1),
    )

pub front_nowhere : (p : ℕ → Bool) (xs : List ℕ) → position p xs ≡ None → xs ≡ before_first p xs
front_nowhere p xs e =
    sym (take_all (position_or_len p xs) xs (omega (arith, found_nowhere p xs e)))

-- ---- lines

abbrev ends_line : ℕ → Bool
ends_line b = eqb b 10

-- a line that goes on after its first byte
line_goes_on : (b : ℕ) (bs : List ℕ) (t : Bool) (k : ℕ)
    → (k < length bs → lines_of bs ≡ take k bs ∷ lines_of (drop (k + 1) bs))
    → cond (not t) (1 + k) 0 < length (b ∷ bs)
    → cond t ([] ∷ lines_of bs) (onto_first b (lines_of bs))
    ≡ take (cond (not t) (1 + k) 0) (b ∷ bs) ∷ lines_of (drop (cond (not t) (1 + k) 0 + 1) (b ∷ bs))
line_goes_on b bs true k more lt = refl
line_goes_on b bs false k more lt =
    let one : 1 + k ≡ suc k = omega arith in
    let two : suc k + 1 ≡ suc (k + 1) = omega arith in
    let shorter : k < length bs = omega arith in
    rw one (rw (two, more shorter) refl)

pub line_first : (text : List ℕ) → position_or_len ends_line text < length text
    → lines_of text ≡ before_first ends_line text ∷ lines_of (after_first ends_line text)
line_first [] lt = absurd (omega arith)
line_first (b ∷ bs) lt =
    line_goes_on b bs (eqb b 10) (position_or_len ends_line bs) (line_first bs) lt

-- a line that goes on to the end of the text
line_lasts : (b : ℕ) (bs : List ℕ) (t : Bool) (k : ℕ)
    → (k ≡ length bs → 0 < length bs → lines_of bs ≡ bs ∷ [])
    → cond (not t) (1 + k) 0 ≡ length (b ∷ bs)
    → cond t ([] ∷ lines_of bs) (onto_first b (lines_of bs)) ≡ (b ∷ bs) ∷ []
line_lasts b bs true k more e = absurd (omega arith)
line_lasts b [] false k more e = refl
line_lasts b (c ∷ cs) false k more e = rw (more (omega arith) (omega arith)) refl

pub line_last : (text : List ℕ) → position_or_len ends_line text ≡ length text → 0 < length text
    → lines_of text ≡ text ∷ []
line_last [] e lt = absurd (omega arith)
line_last (b ∷ bs) e lt = line_lasts b bs (eqb b 10) (position_or_len ends_line bs) (line_last bs) e

-- what the first line and the text behind it are
pub line_split : (text line : List ℕ) (rest : Option (Bor (List ℕ))) (empty : Bor (List ℕ))
    → 0 < length text → empty.now ≡ []
    → line ≡ before_first ends_line text
    → MatchOption rest (position_or_len ends_line text ≡ length text)
    (λ r. (position_or_len ends_line text < length text) × (r.now ≡ after_first ends_line text))
    → lines_of text ≡ line ∷ lines_of (unwrap_or rest empty).now
line_split text line None empty some none front whole = rw (
  none,
  front,
  take_all (position_or_len ends_line text) text (omega (arith, whole)),
) (line_last text whole some)
line_split text line (Some r) empty some none front split =
    rw (split.1, front) (line_first text split.0)

-- ---- words

abbrev ends_word : ℕ → Bool
ends_word b = eqb b 32

word_lasts : (b : ℕ) (bs : List ℕ) (t : Bool) (k : ℕ) → (k ≡ length bs → words_of bs ≡ bs ∷ [])
    → cond (not t) (1 + k) 0 ≡ length (b ∷ bs)
    → cond t ([] ∷ words_of bs) (onto_first b (words_of bs)) ≡ (b ∷ bs) ∷ []
word_lasts b bs true k more e = absurd (omega arith)
word_lasts b bs false k more e = rw (more (omega arith)) refl

word_last : (text : List ℕ) → position_or_len ends_word text ≡ length text
    → words_of text ≡ text ∷ []
word_last [] e = refl
word_last (b ∷ bs) e = word_lasts b bs (eqb b 32) (position_or_len ends_word bs) (word_last bs) e

-- what the first word and the words behind it are
pub word_split : (text word : List ℕ) (rest : Option (Bor (List ℕ)))
    → word ≡ before_first ends_word text
    → MatchOption rest (position_or_len ends_word text ≡ length text)
    (λ r. (position_or_len ends_word text < length text) × (r.now ≡ after_first ends_word text))
    → words_of text ≡ word ∷ words_left (option_copied rest)
word_split text word None front whole = rw (
  front,
  take_all (position_or_len ends_word text) text (omega (arith, whole)),
) (word_last text whole)
word_split text word (Some r) front split =
    rw (split.1, front) (slice_split_first ends_word text 0 split.0)
