-- What the senders of a run put.
use Rattle.std.specs.Prelude.{ℕ, zero, suc, List, [], ◌∷◌, ◌++◌}
use Rattle.std.specs.Int.{w64, to_be_bytes}

-- the numbers below this one, in order, each in 8 bytes, the highest first
abbrev pub numbers_below : ℕ → List (List ℕ)
numbers_below zero = []
numbers_below (suc n) = numbers_below n ++ to_be_bytes w64 n ∷ []
