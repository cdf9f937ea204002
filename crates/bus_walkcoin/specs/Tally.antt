-- Counts of votes, and the word that holds them: one counter for all, in place of those of Aspnes
-- and Herlihy 1990.
use Rattle.std.specs.Prelude.{ℕ, ◌+◌, ◌*◌, ◌/◌, ◌%◌, ◌^◌, Bool, true, false, List, ℤ, pos, ◌-ℤ◌}
use Rattle.std.specs.Prelude.{sum_by}
use Rattle.bus_walkcoin.specs.declared.tallies.Tally.{Tally}

-- the counts that a word holds: heads in the high half, tails in the low half
abbrev pub tally_of : ℕ → Tally
tally_of word = record { heads = word / 2 ^ 32; tails = word % 2 ^ 32 }

-- the word that holds these counts
abbrev pub word_of : Tally → ℕ
word_of t = t.heads * 2 ^ 32 + t.tails

-- one vote more, on one side
abbrev pub tally_with : Tally → Bool → Tally
tally_with t true = record t { heads = t.heads + 1 }
tally_with t false = record t { tails = t.tails + 1 }

-- what a vote adds to the word
abbrev pub add_word_of : Bool → ℕ
add_word_of true = 2 ^ 32
add_word_of false = 1

-- how many votes there are
abbrev pub votes_of : Tally → ℕ
votes_of t = t.heads + t.tails

-- all these votes together
abbrev pub sum_of : List Tally → Tally
sum_of ts = record { heads = sum_by (λ t. t.heads) ts; tails = sum_by (λ t. t.tails) ts }

-- all heads minus all tails
abbrev pub total_of : List Tally → ℤ
total_of ts = pos (sum_by (λ t. t.heads) ts) -ℤ pos (sum_by (λ t. t.tails) ts)
