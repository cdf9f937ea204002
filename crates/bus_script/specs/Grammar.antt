-- What all scripts are made of: lines, words and numbers. A script is bytes, and need not be text.
use Rattle.std.specs.Prelude.{ℕ, ◌^◌, ◌==◌, Bool, true, not, ◌&&◌, ◌||◌, List, [], ◌∷◌, length}
use Rattle.std.specs.Prelude.{slice_index, Option, Some, None, nat_lt, nat_le, filter}
use Rattle.std.specs.Prelude.{if◌then◌else◌}
use Rattle.std.specs.List.{onto_first, slice_split, enumerate_from}
use Rattle.std.specs.Str.{all_ascii_digits, bytes_eq}
use Rattle.std.specs.Str.Parse.{digits_value}

-- the lines of a script, each without the line feed that ends it, which the last may lack
abbrev pub lines_of : List ℕ → List (List ℕ)
lines_of [] = []
lines_of (b ∷ bytes) = if b == 10 then [] ∷ lines_of bytes else onto_first b (lines_of bytes)

-- a line without a byte, and one that begins with `#`
abbrev pub is_passed_over : List ℕ → Bool
is_passed_over [] = true
is_passed_over (b ∷ bytes) = b == 35

-- the lines that are not passed over, each with its number, where the first of all has this number
abbrev pub lines_from : ℕ → List ℕ → List (ℕ × List ℕ)
lines_from number bytes =
    filter (λ line. not (is_passed_over line.1)) (enumerate_from number (lines_of bytes))

-- the lines of a script that are not passed over; all lines are numbered, from 1
abbrev pub script_lines : List ℕ → List (ℕ × List ℕ)
script_lines bytes = lines_from 1 bytes

-- What stands between the spaces of a line, in order. A space too many makes a word of no byte,
-- which fits no form.
abbrev pub words_of : List ℕ → List (List ℕ)
words_of line = slice_split (λ b. b == 32) line

-- digits, the first of them no `0` unless it is alone, of a number below 2^64
abbrev pub is_number : List ℕ → Bool
is_number word =
    nat_lt 0 (length word) && all_ascii_digits word
    && (nat_le (length word) 1 || not (slice_index word 0 == 48))
    && nat_lt (digits_value 10 word) (2 ^ 64)

-- the number that a word is
abbrev pub number_of : List ℕ → Option ℕ
number_of word = if is_number word then Some (digits_value 10 word) else None

-- a value before some values, where all are something
abbrev pub and_before : {A : Type 0} → Option A → Option (List A) → Option (List A)
and_before None xs = None
and_before (Some x) None = None
and_before (Some x) (Some xs) = Some (x ∷ xs)

-- what each word is, where each is something
abbrev pub each_of : {A : Type 0} → (List ℕ → Option A) → List (List ℕ) → Option (List A)
each_of read [] = Some []
each_of read (word ∷ words) = and_before (read word) (each_of read words)

-- the words that are left, where this text is left of the line or nothing
abbrev pub words_left : Option (List ℕ) → List (List ℕ)
words_left None = []
words_left (Some text) = words_of text

-- the words behind the first one, where the first is this one
abbrev pub behind_first : List ℕ → List (List ℕ) → Option (List (List ℕ))
behind_first keyword [] = None
behind_first keyword (word ∷ words) = if bytes_eq word keyword then Some words else None

-- the words behind the keyword of a line, where the line begins with it
abbrev pub arguments_of : List ℕ → List ℕ → Option (List (List ℕ))
arguments_of keyword line = behind_first keyword (words_of line)
