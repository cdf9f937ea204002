-- How a text spells its lines.
use Rattle.std.specs.Prelude.{◌≡◌, ◌≢◌, ℕ, ◌<◌, ◌⊎◌, List, [], ◌∷◌, ◌++◌, length, flat_map}
use Rattle.std.specs.List.{AllByRecursion}

-- bytes without a line feed
abbrev pub IsLine : List ℕ → Type 0
IsLine line = AllByRecursion (λ b. b ≢ 10) line

-- lines, each ended by a line feed
abbrev pub ended_lines : List (List ℕ) → List ℕ
ended_lines lines = flat_map (λ line. line ++ 10 ∷ []) lines

-- Lines of a text: each is ended by a line feed, or each but the last, which then has a byte.
pub record IsText (text : List ℕ) (lines : List (List ℕ)) : Type 0 where
  pub each : AllByRecursion IsLine lines
  pub spelled : (text ≡ ended_lines lines)
      ⊎ ((front : List (List ℕ)) × (last : List ℕ) × (lines ≡ front ++ last ∷ [])
      × (0 < length last) × (text ≡ ended_lines front ++ last))
