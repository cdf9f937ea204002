-- How what stands in a word is written beside a step, of which a trace has the number.
use Rattle.std.specs.Prelude.{ℕ, ◌/◌, ◌%◌, ◌^◌, nat_eq, Bool, List, ◌++◌, Option, Some, None}
use Rattle.std.specs.Prelude.{codes, decimal, if◌then◌else◌}
use Rattle.std.specs.Int.{w64, to_be_bytes}
use Rattle.std.specs.List.{starts_with, ends_with}
use Rattle.hex.specs.Hex.{encode_lower}
use Rattle.bus_script.specs.Grammar.{number_of}

-- the counter of a coin, by its name
abbrev pub is_counter : List ℕ → Bool
is_counter word = ends_with nat_eq word (codes " counter")

-- a word of the log, by its name
abbrev pub is_log_word : List ℕ → Bool
is_log_word word = starts_with nat_eq word (codes "log ")

-- heads in the high half of a counter, tails in the low one
abbrev pub counter_text : ℕ → List ℕ
counter_text n = decimal (n / 2 ^ 32) ++ codes " heads " ++ decimal (n % 2 ^ 32) ++ codes " tails"

-- in 16 hexadecimal digits
abbrev pub log_word_text : ℕ → List ℕ
log_word_text n = encode_lower (to_be_bytes w64 n)

-- the number of a word of this name, which is written so
abbrev pub value_with : (word text : List ℕ) → Option ℕ → List ℕ
value_with word text None = text
value_with word text (Some n) =
    if is_counter word then counter_text n else (if is_log_word word then log_word_text n else text)

abbrev pub value_text : (word text : List ℕ) → List ℕ
value_text word text = value_with word text (number_of text)
