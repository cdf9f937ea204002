-- Printed words, read again.
use Rattle.std.proofs.Common.{◌≡◌, ◌≢◌, ℕ, suc, ◌+◌, ◌/◌, ◌%◌, ◌^◌, ◌<◌, ◌≤◌, false, cond, not}
use Rattle.std.proofs.Common.{List, [], ◌∷◌, ◌++◌, length, get_or, map, Some, None, Result, Ok}
use Rattle.std.proofs.Common.{Err, refl, sym, ap, ◌∙◌, subst, inl, inr, slice_index, arith}
use Rattle.std.specs.Prelude.{filter}
use Rattle.std.specs.Int.{w64, from_be_bytes, to_be_bytes}
use Rattle.std.specs.List.{AllByRecursion, enumerate_from}
use Rattle.std.specs.Option.{option_map}
use Rattle.std.specs.Result.{result_ok}
use Rattle.std.proofs.lemmas.Bool.{cases_lt, lt-ltb, ne_eqb}
use Rattle.std.proofs.lemmas.List.{get_or_past}
use Rattle.std.proofs.lemmas.Nat.{from_be_bytes-to_be_bytes_8}
use Rattle.hex.specs.Hex.{IsBytes, encode_with, lower_digits, hex_digit_value}
use Rattle.hex.specs.declared.error.FromHexError.{FromHexError}
use Rattle.hex.proofs.HexLemmas.{IsDigits-lower_digits, decode_sized-encode_lower}
use Rattle.hex.proofs.HexLemmas.{length-encode_with}
use Rattle.bus_register.specs.declared.limits.TheConstants.{MOST_LOG_WORDS}
use Rattle.bus_batch.proofs.Bytes.{spread_small}
use Rattle.bus_script.specs.Grammar.{lines_of, is_passed_over}
use Rattle.bus_script.specs.Spelled.{IsLine, ended_lines}
use Rattle.bus_script.proofs.TextLemmas.{text_read}
use Rattle.bus_logtext.specs.declared.faults.LineFault.TheVariants.{TooManyWords}
use Rattle.bus_logtext.specs.Words.{word_of, word_text, words_text, word_at, then_words}
use Rattle.bus_logtext.specs.Words.{words_from, words_of, refused_at}

-- ---- one word

pub word_bytes : (word : ℕ) → IsBytes (to_be_bytes w64 word)
word_bytes word i = elim (cases_lt i 8) [
  | inl within ↦ spread_small word i 0 within
  | inr past ↦
      subst (λ b. b < 256) (sym (get_or_past (to_be_bytes w64 word) i 0 past)) (omega arith)
]

word_read_again : (word : ℕ) → word < 2 ^ 64 → word_of (word_text word) ≡ Some word
word_read_again word fits =
    ap (λ (r : Result (List ℕ) FromHexError). option_map (from_be_bytes w64) (result_ok r))
    (decode_sized-encode_lower (to_be_bytes w64 word) 8 refl (word_bytes word))
    ∙ ap (λ n. Some n) (from_be_bytes-to_be_bytes_8 word fits)

-- no digit is a byte that is none
no_digit : (d other : ℕ) → d < 16 → hex_digit_value other ≡ None
    → slice_index lower_digits d ≢ other
no_digit d other lt none e =
    let clash : Some d ≡ None = sym (IsDigits-lower_digits d lt) ∙ ap hex_digit_value e ∙ none in cc

digits_alone : (bytes : List ℕ) (other : ℕ) → IsBytes bytes → hex_digit_value other ≡ None
    → AllByRecursion (λ b. b ≢ other) (encode_with lower_digits bytes)
unfolding encode_with
digits_alone [] other small none = tt
digits_alone (b ∷ bytes) other small none =
    let fits : b < 256 = small 0 in (
      no_digit (b / 16) other (omega arith) none,
      (
        no_digit (b % 16) other (omega arith) none,
        digits_alone bytes other (λ i. small (suc i)) none,
      ),
    )

word_line_plain : (word other : ℕ) → hex_digit_value other ≡ None
    → AllByRecursion (λ b. b ≢ other) (word_text word)
word_line_plain word other none = digits_alone (to_be_bytes w64 word) other (word_bytes word) none

says_something : (line : List ℕ) → 0 < length line → AllByRecursion (λ b. b ≢ 35) line
    → is_passed_over line ≡ false
says_something [] some plain = absurd (omega arith)
says_something (b ∷ line) some plain = ne_eqb b 35 plain.0

word_line_says : (word : ℕ) → is_passed_over (word_text word) ≡ false
word_line_says word =
    let long = length-encode_with lower_digits (to_be_bytes w64 word) in
    let eight : length (to_be_bytes w64 word) ≡ 8 = refl in
    says_something (word_text word) (omega (arith, long, eight)) (word_line_plain word 35 refl)

-- ---- all words

all_lines : (words : List ℕ) → AllByRecursion IsLine (map word_text words)
all_lines [] = tt
all_lines (word ∷ words) = (word_line_plain word 10 refl, all_lines words)

as_ended : (words : List ℕ) → words_text words ≡ ended_lines (map word_text words)
as_ended [] = refl
as_ended (word ∷ words) = ap (λ (l : List ℕ). (word_text word ++ 10 ∷ []) ++ l) (as_ended words)

lines_again : (words : List ℕ) → lines_of (words_text words) ≡ map word_text words
lines_again words = text_read (words_text words) (map word_text words)
    (record { each = all_lines words; spelled = inl (as_ended words) })

abbrev numbered : ℕ → List (List ℕ) → List (ℕ × List ℕ)
numbered number lines = filter (λ line. not (is_passed_over line.1)) (enumerate_from number lines)

words_again : (words : List ℕ) (number before : ℕ) → ((k : ℕ) → get_or words k 0 < 2 ^ 64)
    → before + length words ≤ MOST_LOG_WORDS
    → words_from before (numbered number (map word_text words)) ≡ Ok words
words_again [] number before fit room = refl
words_again (word ∷ words) number before fit room =
    let rest = numbered (number + 1) (map word_text words) in
    ap (λ b. words_from before (cond (not b) ((number, word_text word) ∷ rest) rest))
    (word_line_says word)
    ∙ ap (λ o. then_words (word_at before number o) (words_from (before + 1) rest))
    (word_read_again word (fit 0))
    ∙ ap (λ b. then_words (cond b (Ok word) (Err (refused_at number TooManyWords)))
    (words_from (before + 1) rest)) (lt-ltb before MOST_LOG_WORDS (omega arith))
    ∙ ap (then_words (Ok word))
    (words_again words (number + 1) (before + 1) (λ k. fit (suc k)) (omega arith))

pub words_read_again : (words : List ℕ) → ((k : ℕ) → get_or words k 0 < 2 ^ 64)
    → length words ≤ MOST_LOG_WORDS → words_of (words_text words) ≡ Ok words
words_read_again words fit room =
    ap (λ l. words_from 0 (numbered 1 l)) (lines_again words)
    ∙ words_again words 1 0 fit (omega arith)
