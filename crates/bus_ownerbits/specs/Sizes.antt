-- How many bits an owner's number has, and how many turns an election takes.
use Rattle.std.specs.Prelude.{ℕ, ◌+◌, ◌*◌, ◌-◌, ◌/◌, ◌%◌, ◌≤◌, ◌^◌, ◌==◌, nat_lt, [], ◌∷◌}
use Rattle.std.specs.Prelude.{count_by, Bool}
use Rattle.bus_walkcoin.specs.declared.tallies.TheConstants.{MOST_VOTES}

-- b is the least count of bits that spell n numbers
pub record IsBits (n b : ℕ) : Type 0 where
  pub enough : n ≤ 2 ^ b
  pub least : (k : ℕ) → n ≤ 2 ^ k → b ≤ k

-- for at most 64 numbers: how many of 1, 2, 4, 8, 16 and 32 are less than n
abbrev pub bits_of : ℕ → ℕ
bits_of n = count_by (λ power. nat_lt power n) (1 ∷ 2 ∷ 4 ∷ 8 ∷ 16 ∷ 32 ∷ [])

-- the bit of value 2 ^ k
abbrev pub bit_at : ℕ → ℕ → Bool
bit_at k number = (number / 2 ^ k) % 2 == 1

-- the steps of a binary decision of so many rounds, at most, where a ratifier takes so many, by
-- processes
abbrev pub decision_cost : (ℕ → ℕ) → ℕ → ℕ → ℕ
decision_cost steps rounds n = rounds * steps n + (rounds - 1) * (2 + MOST_VOTES * 2) + 1

-- what a decision and a search cost at most, where cost is that of a decision, by rounds and
-- processes
abbrev pub each_bit : (ℕ → ℕ → ℕ) → ℕ → ℕ → ℕ
each_bit cost rounds n = cost rounds n + n

-- the turns that an election takes at most: its announcement, for each bit a decision and a search,
-- and one more for its owner
abbrev pub turns_of : (ℕ → ℕ → ℕ) → ℕ → ℕ → ℕ
turns_of cost rounds n = 2 + bits_of n * each_bit cost rounds n

-- the same over binary decisions out of such a ratifier
abbrev pub election_bound : (ℕ → ℕ) → ℕ → ℕ → ℕ
election_bound steps n rounds = turns_of (decision_cost steps) rounds n
