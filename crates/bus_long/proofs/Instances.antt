-- Small instances of pieces and of long messages.
use Rattle.std.proofs.Common.{◌≡◌, ℕ, List, [], ◌∷◌, replicate, refl}
use Rattle.bus_batch.specs.declared.messages.Item.{Item}
use Rattle.bus_long.specs.Pieces.{nothing, pieces, joined}
use Rattle.bus_long.specs.Joined.{longs}

sevens : ℕ → List ℕ
sevens n = replicate n 7

no_byte : pieces [] ≡ (0 ∷ []) ∷ []
no_byte = refl

one_piece : pieces (sevens 55) ≡ (0 ∷ sevens 55) ∷ []
unfolding sevens
one_piece = refl

two_pieces : pieces (sevens 56) ≡ (1 ∷ sevens 55) ∷ (0 ∷ 7 ∷ []) ∷ []
unfolding sevens
two_pieces = refl

-- of three pieces without the second, the last alone is a message
lost : joined nothing ((2 ∷ sevens 55) ∷ (0 ∷ 8 ∷ []) ∷ []) ≡ (8 ∷ []) ∷ []
unfolding sevens
lost = refl

-- what is no piece is a message, and gives up what was begun
given_up : joined nothing ((1 ∷ sevens 55) ∷ (9 ∷ 9 ∷ []) ∷ (0 ∷ 8 ∷ []) ∷ [])
    ≡ (9 ∷ 9 ∷ []) ∷ (8 ∷ []) ∷ []
unfolding sevens
given_up = refl

item : ℕ → ℕ → List ℕ → Item
item sender number message = record {
  sender = record { 0 = sender };
  number = number;
  message = message;
}

-- the pieces of one sender, with a message of another between them
between : longs (item 0 4 (1 ∷ sevens 55) ∷ item 1 0 (0 ∷ 8 ∷ []) ∷ item 0 5 (0 ∷ 7 ∷ []) ∷ [])
    ≡ item 1 0 (8 ∷ []) ∷ item 0 5 (sevens 56) ∷ []
unfolding sevens item
between = refl
