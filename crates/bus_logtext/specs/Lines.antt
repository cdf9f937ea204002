-- How the lines of words are spelled.
use Rattle.std.specs.Prelude.{◌≡◌, ℕ, ◌^◌, ◌<◌, List, [], ◌∷◌}
use Rattle.std.specs.Str.{str_to_ascii_lowercase}
use Rattle.bus_logtext.specs.Words.{word_text}

-- in lower case the line is the 16 digits of a word
pub record IsWordLine (line : List ℕ) (word : ℕ) : Type 0 where
  pub spelled : str_to_ascii_lowercase line ≡ word_text word
  pub fits : word < 2 ^ 64

-- a word for each numbered line, in order
abbrev pub AreWordLines : List (ℕ × List ℕ) → List ℕ → Type 0
AreWordLines [] words = words ≡ []
AreWordLines (line ∷ lines) words =
    (word : ℕ) × (behind : List ℕ) × IsWordLine line.1 word × AreWordLines lines behind
    × (words ≡ word ∷ behind)
