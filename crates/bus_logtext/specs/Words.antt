-- How the words of a log are written, one a line.
use Rattle.std.specs.Prelude.{◌≡◌, ℕ, ◌+◌, List, [], ◌∷◌, ◌++◌, Option, Some, None, Result, Ok}
use Rattle.std.specs.Prelude.{Err, ⊤, flat_map, nat_lt, if◌then◌else◌}
use Rattle.std.specs.Int.{w64, from_be_bytes, to_be_bytes}
use Rattle.std.specs.Option.{option_map}
use Rattle.std.specs.Result.{result_ok}
use Rattle.hex.specs.Hex.{decode_sized, encode_lower}
use Rattle.bus_register.specs.declared.limits.TheConstants.{MOST_LOG_WORDS}
use Rattle.bus_script.specs.Grammar.{script_lines}
use Rattle.bus_logtext.specs.declared.faults.LineFault.{LineFault}
use Rattle.bus_logtext.specs.declared.faults.LineFault.TheVariants.{BadLine, TooManyWords}
use Rattle.bus_logtext.specs.declared.faults.Refusal.{Refusal}
use Rattle.bus_logtext.specs.declared.faults.WordsFault.{WordsFault}
use Rattle.bus_logtext.specs.declared.faults.WordsFault.TheVariants.{NoMemory, Refused}

-- ---- one line

-- the word that a line is: just 16 hexadecimal digits, in either case, the highest first
abbrev pub word_of : List ℕ → Option ℕ
word_of line = option_map (from_be_bytes w64) (result_ok (decode_sized line 8))

-- a word in 16 digits, in lower case
abbrev pub word_text : ℕ → List ℕ
word_text word = encode_lower (to_be_bytes w64 word)

-- a line for each word
abbrev pub words_text : List ℕ → List ℕ
words_text words = flat_map (λ word. word_text word ++ 10 ∷ []) words

-- ---- all lines

abbrev pub refused_at : ℕ → LineFault → Refusal
refused_at number fault = record { line = number; fault = fault }

-- The word of a line behind so many words. Its form comes before the limit.
abbrev pub word_at : ℕ → ℕ → Option ℕ → Result ℕ Refusal
word_at before number None = Err (refused_at number BadLine)
word_at before number (Some word) =
    if nat_lt before MOST_LOG_WORDS then Ok word else Err (refused_at number TooManyWords)

-- a word, and then those behind it, or the first refusal
abbrev pub then_words : Result ℕ Refusal → Result (List ℕ) Refusal → Result (List ℕ) Refusal
then_words (Err refusal) behind = Err refusal
then_words (Ok word) (Err refusal) = Err refusal
then_words (Ok word) (Ok words) = Ok (word ∷ words)

-- the words of numbered lines behind so many words, or the refusal of the first line that has one
abbrev pub words_from : ℕ → List (ℕ × List ℕ) → Result (List ℕ) Refusal
words_from before [] = Ok []
words_from before (line ∷ lines) =
    then_words (word_at before line.0 (word_of line.1)) (words_from (before + 1) lines)

-- the words of the lines that are not passed over
abbrev pub words_of : List ℕ → Result (List ℕ) Refusal
words_of bytes = words_from 0 (script_lines bytes)

-- ---- reading, which may run out of memory

abbrev pub FailsWith : WordsFault → Result (List ℕ) Refusal → Type 0
FailsWith NoMemory said = ⊤
FailsWith (Refused refusal) said = said ≡ Err refusal
