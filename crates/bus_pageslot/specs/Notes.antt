-- What a sender's seat shows beside its trail: the last length that it has stored, and its looks.
use Rattle.std.specs.Prelude.{ℕ, List, [], ◌∷◌, ◌++◌}

-- a look: the word that it was on, and the number that it found there
pub record Look : Type 0 where
  pub word : ℕ
  pub found : ℕ

pub record Notes : Type 0 where
  -- the last length that it has stored; 0 before the first
  pub stored : ℕ
  -- all its looks, in their order
  pub looks : List Look

abbrev pub no_notes : Notes
no_notes = record { stored = 0; looks = [] }

-- with one look more
abbrev pub noting : Notes → Look → Notes
noting notes look = record notes { looks = notes.looks ++ look ∷ [] }
