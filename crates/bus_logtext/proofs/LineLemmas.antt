-- Lines of words are what they spell, both ways.
use Rattle.std.proofs.Common.{◌≡◌, ℕ, zero, suc, ◌+◌, ◌*◌, ◌/◌, ◌%◌, ◌^◌, ◌<◌, ◌≤◌, Bool, true}
use Rattle.std.proofs.Common.{cond, eqb, ltb, ◌&&◌, List, [], ◌∷◌, length, unwrap_or, Option, Some}
use Rattle.std.proofs.Common.{None, Result, Ok, Err, refl, sym, ap, subst, ◌∙◌, inl, inr}
use Rattle.std.proofs.Common.{slice_index, arith}
use Rattle.std.specs.Char.{to_ascii_lowercase}
use Rattle.std.specs.Int.{w64, from_be_bytes, to_be_bytes}
use Rattle.std.specs.Option.{option_map}
use Rattle.std.specs.Result.{result_ok}
use Rattle.std.specs.Str.{str_to_ascii_lowercase}
use Rattle.std.proofs.lemmas.Bool.{and_parts, cases_lt, eqb-true, ltb-true, lt-ltb, le-ltb}
use Rattle.std.proofs.lemmas.Nat.{be_bytes_8, from_be_bytes-to_be_bytes_8}
use Rattle.std.proofs.lemmas.Str.Ascii.{lowercase_is}
use Rattle.std.proofs.lemmas.Grind.{common_steps}
use Rattle.hex.specs.Hex.{IsBytes, decode_sized, decode_pairs, pair_value, value_at}
use Rattle.hex.specs.Hex.{digit_or_error, hex_digit_value, encode_with, lower_digits, ◌>>=◌}
use Rattle.hex.specs.declared.error.FromHexError.{FromHexError}
use Rattle.hex.proofs.HexLemmas.{IsDigits-lower_digits, decode_of-even, decode_sized-twice}
use Rattle.hex.proofs.HexLemmas.{decode_sized-ok, decode_pairs-ok}
use Rattle.bus_register.specs.declared.limits.TheConstants.{MOST_LOG_WORDS}
use Rattle.bus_logtext.specs.declared.faults.LineFault.TheVariants.{TooManyWords}
use Rattle.bus_logtext.specs.declared.faults.Refusal.{Refusal}
use Rattle.bus_logtext.specs.Words.{word_of, word_at, then_words, words_from, refused_at}
use Rattle.bus_logtext.specs.Lines.{IsWordLine, AreWordLines}
use Rattle.bus_logtext.proofs.PrintLemmas.{word_bytes}

-- ---- one digit

-- a digit's place in the table of digits, and the digit in lower case
abbrev fits_digit : Option ℕ → ℕ → Bool
fits_digit None lower = true
fits_digit (Some v) lower = eqb (slice_index lower_digits v) lower && ltb v 16

abbrev reads_lower : ℕ → Bool
reads_lower c =
    eqb (unwrap_or (hex_digit_value (to_ascii_lowercase c)) 99) (unwrap_or (hex_digit_value c) 99)

-- a test of all characters below a number
abbrev all_pass : (ℕ → Bool) → ℕ → Bool
all_pass p zero = true
all_pass p (suc n) = p n && all_pass p n

passes : (p : ℕ → Bool) (n c : ℕ) → all_pass p n ≡ true → c < n → p c ≡ true
passes p zero c all lt = absurd (omega arith)
passes p (suc n) c all lt =
    let parts = and_parts (p n) (all_pass p n) all in
    elim (cases_lt c n) [
      | inl below ↦ passes p n c parts.1 below
      | inr top ↦ let e : c ≡ n = omega arith in rw e parts.0
    ]

far_is_none : (c : ℕ) → 103 ≤ c → hex_digit_value c ≡ None
far_is_none c far = grind (arith, common_steps)

digit_in_table : (o : Option ℕ) (lower v : ℕ) → fits_digit o lower ≡ true → o ≡ Some v
    → (lower ≡ slice_index lower_digits v) × (v < 16)
digit_in_table None lower v fits is = absurd cc
digit_in_table (Some u) lower v fits is =
    let same : u ≡ v = cc in
    let parts = and_parts (eqb (slice_index lower_digits u) lower) (ltb u 16) fits in
    rw (← same) (sym (eqb-true (slice_index lower_digits u) lower parts.0), ltb-true u 16 parts.1)

digit_lower : (c v : ℕ) → hex_digit_value c ≡ Some v
    → (to_ascii_lowercase c ≡ slice_index lower_digits v) × (v < 16)
digit_lower c v is = elim (cases_lt c 103) [
  | inl near ↦ digit_in_table (hex_digit_value c) (to_ascii_lowercase c) v
      (passes (λ k. fits_digit (hex_digit_value k) (to_ascii_lowercase k)) 103 c refl near) is
  | inr far ↦ let none = far_is_none c far in absurd cc
]

some_digit : (o : Option ℕ) (v : ℕ) → v < 16 → unwrap_or o 99 ≡ v → o ≡ Some v
some_digit None v small e = absurd (omega arith)
some_digit (Some u) v small e = ap (λ n. Some n) e

digit_read : (c v : ℕ) → v < 16 → to_ascii_lowercase c ≡ slice_index lower_digits v
    → hex_digit_value c ≡ Some v
digit_read c v small is =
    let lower : hex_digit_value (to_ascii_lowercase c) ≡ Some v =
    ap hex_digit_value is ∙ IsDigits-lower_digits v small in
    elim (cases_lt c 91) [
      | inl near ↦ some_digit (hex_digit_value c) v small
          (sym (eqb-true _ _ (passes reads_lower 91 c refl near)) ∙ ap (λ o. unwrap_or o 99) lower)
      | inr far ↦ ap hex_digit_value (sym ((lowercase_is c).2 (omega arith))) ∙ lower
    ]

-- ---- pairs of digits

bound : {A B : Type 0} (r : Result A FromHexError) (f : A → Result B FromHexError) (y : B)
    → (r >>= f) ≡ Ok y → (x : A) × (r ≡ Ok x) × (f x ≡ Ok y)
bound (Ok x) f y e = (x, refl, e)
bound (Err fault) f y e = absurd cc

told_value : (o : Option ℕ) (c i v : ℕ) → digit_or_error c i o ≡ Ok v → o ≡ Some v
told_value None c i v e = absurd cc
told_value (Some u) c i v e = cc

pairs_spelled : (i : ℕ) (s bytes : List ℕ) → decode_pairs i s ≡ Ok bytes
    → str_to_ascii_lowercase s ≡ encode_with lower_digits bytes
unfolding decode_pairs encode_with
pairs_spelled i [] bytes e = let none : [] ≡ bytes = cc in rw (← none) refl
pairs_spelled i (a ∷ []) bytes e = absurd cc
pairs_spelled i (a ∷ b ∷ rest) bytes e =
    let pair = bound (pair_value a b i)
    (λ byte. decode_pairs (i + 2) rest >>= (λ more. Ok (byte ∷ more))) bytes e in
    let high =
    bound (value_at a i) (λ h. value_at b (i + 1) >>= (λ l. Ok (h * 16 + l))) pair.0 pair.1 in
    let low = bound (value_at b (i + 1)) (λ l. Ok (high.0 * 16 + l)) pair.0 high.2 in
    let more = bound (decode_pairs (i + 2) rest) (λ more. Ok (pair.0 ∷ more)) bytes pair.2 in
    let byte : high.0 * 16 + low.0 ≡ pair.0 = cc low.2 in
    let all : pair.0 ∷ more.0 ≡ bytes = cc more.2 in
    let first = digit_lower a high.0 (told_value (hex_digit_value a) a i high.0 high.1) in
    let second = digit_lower b low.0 (told_value (hex_digit_value b) b (i + 1) low.0 low.1) in
    let over : high.0 ≡ pair.0 / 16 = omega (arith, byte, first.1, second.1) in
    let under : low.0 ≡ pair.0 % 16 = omega (arith, byte, first.1, second.1) in
    let one : to_ascii_lowercase a ≡ slice_index lower_digits (pair.0 / 16) =
    first.0 ∙ ap (λ k. slice_index lower_digits k) over in
    let two : to_ascii_lowercase b ≡ slice_index lower_digits (pair.0 % 16) =
    second.0 ∙ ap (λ k. slice_index lower_digits k) under in
    rw (← all) (rw (one, two, pairs_spelled (i + 2) rest more.0 more.1) refl)

pairs_read : (i : ℕ) (s bytes : List ℕ) → IsBytes bytes
    → str_to_ascii_lowercase s ≡ encode_with lower_digits bytes → decode_pairs i s ≡ Ok bytes
unfolding decode_pairs encode_with
pairs_read i [] [] small e = refl
pairs_read i [] (byte ∷ bytes) small e = absurd cc
pairs_read i (a ∷ []) [] small e = absurd cc
pairs_read i (a ∷ []) (byte ∷ bytes) small e = absurd cc
pairs_read i (a ∷ b ∷ rest) [] small e = absurd cc
pairs_read i (a ∷ b ∷ rest) (byte ∷ bytes) small e =
    let fits : byte < 256 = small 0 in
    let one : to_ascii_lowercase a ≡ slice_index lower_digits (byte / 16) = cc e in
    let two : to_ascii_lowercase b ≡ slice_index lower_digits (byte % 16) = cc e in
    let more : str_to_ascii_lowercase rest ≡ encode_with lower_digits bytes = cc e in
    let high : value_at a i ≡ Ok (byte / 16) =
    ap (digit_or_error a i) (digit_read a (byte / 16) (omega arith) one) in
    let low : value_at b (i + 1) ≡ Ok (byte % 16) =
    ap (digit_or_error b (i + 1)) (digit_read b (byte % 16) (omega arith) two) in
    let whole : byte / 16 * 16 + byte % 16 ≡ byte = omega arith in
    rw (high, low, pairs_read (i + 2) rest bytes (λ k. small (suc k)) more)
    (ap (λ (n : ℕ). Ok (n ∷ bytes)) whole)

-- ---- one line

found : {A B : Type 0} (f : A → B) (r : Result A FromHexError) (y : B)
    → option_map f (result_ok r) ≡ Some y → (x : A) × (r ≡ Ok x) × (f x ≡ y)
found f (Ok x) y e = (x, refl, cc)
found f (Err fault) y e = absurd cc

bytes_fit : (bytes : List ℕ) (word : ℕ) → IsBytes bytes → from_be_bytes w64 bytes ≡ word
    → word < 2 ^ 64
bytes_fit bytes word small is =
    let b0 = small 0 in
    let b1 = small 1 in
    let b2 = small 2 in
    let b3 = small 3 in
    let b4 = small 4 in
    let b5 = small 5 in
    let b6 = small 6 in
    let b7 = small 7 in
    omega (arith, is)

pub line_spelled : (line : List ℕ) (word : ℕ) → word_of line ≡ Some word → IsWordLine line word
line_spelled line word e =
    let k = found (from_be_bytes w64) (decode_sized line 8) word e in
    let long : length line ≡ 2 * 8 = decode_sized-ok line 8 k.0 k.1 in
    let pairs : decode_pairs 0 line ≡ Ok k.0 =
    sym (decode_sized-twice line 8 long ∙ decode_of-even line (omega arith)) ∙ k.1 in
    let ok = decode_pairs-ok 0 line k.0 pairs in
    let eight : length k.0 ≡ 8 = omega (arith, ok.1) in
    let bytes : to_be_bytes w64 word ≡ k.0 = be_bytes_8 k.0 word eight ok.2 (sym k.2) in
    record {
      spelled = pairs_spelled 0 line k.0 pairs ∙ ap (encode_with lower_digits) (sym bytes);
      fits = bytes_fit k.0 word ok.2 k.2;
    }

pub line_read : (line : List ℕ) (word : ℕ) → IsWordLine line word → word_of line ≡ Some word
line_read line word h =
    let pairs : decode_pairs 0 line ≡ Ok (to_be_bytes w64 word) =
    pairs_read 0 line (to_be_bytes w64 word) (word_bytes word) h.spelled in
    let ok = decode_pairs-ok 0 line (to_be_bytes w64 word) pairs in
    let eight : length (to_be_bytes w64 word) ≡ 8 = refl in
    let long : length line ≡ 2 * 8 = omega (arith, ok.1, eight) in
    let sized : decode_sized line 8 ≡ Ok (to_be_bytes w64 word) =
    decode_sized-twice line 8 long ∙ decode_of-even line (omega arith) ∙ pairs in
    ap (λ (r : Result (List ℕ) FromHexError). option_map (from_be_bytes w64) (result_ok r)) sized
    ∙ ap (λ n. Some n) (from_be_bytes-to_be_bytes_8 word h.fits)

-- ---- all lines

both : (r : Result ℕ Refusal) (behind : Result (List ℕ) Refusal) (words : List ℕ)
    → then_words r behind ≡ Ok words
    → (word : ℕ) × (more : List ℕ) × (r ≡ Ok word) × (behind ≡ Ok more) × (words ≡ word ∷ more)
both (Err refusal) behind words e = absurd cc
both (Ok word) (Err refusal) words e = absurd cc
both (Ok word) (Ok more) words e = (word, more, refl, refl, cc)

taken : (before number : ℕ) (o : Option ℕ) (word : ℕ) → word_at before number o ≡ Ok word
    → (o ≡ Some word) × (before < MOST_LOG_WORDS)
taken before number None word e = absurd cc
taken before number (Some said) word e = elim (cases_lt before MOST_LOG_WORDS) [
  | inl room ↦
      let here : word_at before number (Some said) ≡ Ok said = ap
      (λ b. cond b (Ok said) (Err (refused_at number TooManyWords)))
      (lt-ltb before MOST_LOG_WORDS room) in
      let same : said ≡ word = cc in
      (ap (λ n. Some n) same, room)
  | inr full ↦
      let here : word_at before number (Some said) ≡ Err (refused_at number TooManyWords) =
      ap (λ b. cond b (Ok said) (Err (refused_at number TooManyWords)))
      (le-ltb before MOST_LOG_WORDS full) in
      absurd cc
]

pub lines_spelled : (before : ℕ) (lines : List (ℕ × List ℕ)) (words : List ℕ)
    → before ≤ MOST_LOG_WORDS → words_from before lines ≡ Ok words
    → AreWordLines lines words × (before + length words ≤ MOST_LOG_WORDS)
lines_spelled before [] words room e = let none : words ≡ [] = cc in (none, rw none (omega arith))
lines_spelled before (line ∷ lines) words room e =
    let k = both (word_at before line.0 (word_of line.1)) (words_from (before + 1) lines) words e in
    let one = taken before line.0 (word_of line.1) k.0 k.2 in
    let more = lines_spelled (before + 1) lines k.1 (omega (arith, one.1)) k.3 in
    ((k.0, k.1, line_spelled line.1 k.0 one.0, more.0, k.4), rw k.4 (omega (arith, more.1)))

pub lines_read : (before : ℕ) (lines : List (ℕ × List ℕ)) (words : List ℕ)
    → AreWordLines lines words → before + length words ≤ MOST_LOG_WORDS
    → words_from before lines ≡ Ok words
lines_read before [] words h room = ap (λ (l : List ℕ). Ok l) (sym h)
lines_read before (line ∷ lines) words h room =
    let fewer : before + length (h.0 ∷ h.1) ≤ MOST_LOG_WORDS =
    subst (λ (l : List ℕ). before + length l ≤ MOST_LOG_WORDS) h.4 room in
    ap (λ o. then_words (word_at before line.0 o) (words_from (before + 1) lines))
    (line_read line.1 h.0 h.2)
    ∙ ap (λ b. then_words (cond b (Ok h.0) (Err (refused_at line.0 TooManyWords)))
    (words_from (before + 1) lines)) (lt-ltb before MOST_LOG_WORDS (omega arith))
    ∙ ap (then_words (Ok h.0)) (lines_read (before + 1) lines h.1 h.3 (omega arith))
    ∙ ap (λ (l : List ℕ). Ok l) (sym h.4)
