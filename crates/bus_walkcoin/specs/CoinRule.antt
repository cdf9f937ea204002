-- What a coin answers (Aspnes and Herlihy 1990, in this project's profile), read off the steps of
-- one process and the numbers that they found: no local state is spoken of here. All votes of a
-- coin stand in one counter word. A process votes, then loads that word, then votes again, and so
-- on, until it has an answer.
use Rattle.std.specs.Prelude.{ℕ, ◌*◌, ◌-◌, ◌%◌, Bool, true, false, not, ◌&&◌, ◌||◌, Option, Some}
use Rattle.std.specs.Prelude.{None, is_none, List, [], ◌∷◌, map, filter, length, drop, count_by, ℤ}
use Rattle.std.specs.Prelude.{pos, neg_ℤ, int_lt, int_le, ◌==◌, if◌then◌else◌}
use Rattle.bus_walkcoin.specs.declared.tallies.TheConstants.{MOST_VOTES}
use Rattle.bus_register.specs.declared.kinds.Kind.{Kind}
use Rattle.bus_register.specs.declared.kinds.Kind.TheVariants as kind
use Rattle.bus_register.specs.declared.registers.Op.{Op}
use Rattle.bus_register.specs.declared.registers.Op.TheVariants.{Load, Store, Add, Cas}
use Rattle.bus_walkcoin.specs.declared.tallies.Tally.{Tally}
use Rattle.bus_walkcoin.specs.Tally.{tally_of, add_word_of, total_of}

-- one step of a trail: what it did, what the word was before it, and the random word that was
-- handed in
pub record Entry : Type 0 where
  pub op : Op
  pub got : ℕ
  pub word : ℕ

-- a random word is a head where its low bit is 1
abbrev pub is_head : ℕ → Bool
is_head word = word % 2 == 1

-- an addition of this number to this word
abbrev pub is_addition : ℕ → ℕ → Op → Bool
is_addition at number (Load r) = false
is_addition at number (Store r x) = false
is_addition at number (Add r x) = (r.0 == at) && (x == number)
is_addition at number (Cas r x y) = false

-- a vote: one head or one tail is added to the counter word, as the random word says
abbrev pub is_vote : ℕ → Entry → Bool
is_vote at e = is_addition at (add_word_of (is_head e.word)) e.op

-- a load of this word
abbrev pub is_load : ℕ → Op → Bool
is_load at (Load r) = r.0 == at
is_load at (Store r x) = false
is_load at (Add r x) = false
is_load at (Cas r x y) = false

-- the own votes, heads as true
abbrev pub votes : ℕ → List Entry → List Bool
votes at trail = map (λ e. is_head e.word) (filter (is_vote at) trail)

-- these votes, counted
abbrev pub tally_of_votes : List Bool → Tally
tally_of_votes vs = record { heads = count_by (λ v. v) vs; tails = count_by not vs }

-- this is one step, a load of the counter word
abbrev pub is_one_load : ℕ → List Entry → Bool
is_one_load at [] = false
is_one_load at (load ∷ []) = is_load at load.op
is_one_load at (load ∷ next ∷ more) = false

-- these steps are a vote, and then one load of the counter word
abbrev pub are_round : ℕ → List Entry → Bool
are_round at [] = false
are_round at (vote ∷ loads) = is_vote at vote && is_one_load at loads

-- the last so many steps
abbrev pub last_steps : ℕ → List Entry → List Entry
last_steps k trail = drop (length trail - k) trail

-- heads minus tails of what the last step found
abbrev pub total_seen : List Entry → ℤ
total_seen trail = total_of (map (λ e. tally_of e.got) (last_steps 1 trail))

-- the last two steps were a vote, and then a load of the counter word, which is this one
abbrev pub is_round : ℕ → List Entry → Bool
is_round at trail = are_round at (last_steps 2 trail)

-- The rule of the coin: what a process of n answers that has voted so often and has found this
-- total since: at least 2n is true, at most -2n is false, and after 64 votes the sign answers. Else
-- there is no answer, and it votes again.
abbrev pub settled_bit : ℕ → ℕ → ℤ → Option Bool
settled_bit n votes total = if int_le (pos (2 * n)) total then Some true
    else if int_le total (neg_ℤ (pos (2 * n))) then Some false
    else if votes == MOST_VOTES then Some (int_lt (pos 0) total)
    else None

-- the answer: by that rule once the load after a vote is done, and none at any other time
abbrev pub coin_answer : ℕ → ℕ → List Entry → Option Bool
coin_answer n at trail =
    if is_round at trail then settled_bit n (length (votes at trail)) (total_seen trail) else None

-- no step was taken yet
abbrev pub is_first : List Entry → Bool
is_first [] = true
is_first (e ∷ trail) = false

-- the next step is a vote: the first step, and each after a load that gave no answer
abbrev pub coin_votes : ℕ → ℕ → List Entry → Bool
coin_votes n at trail = (is_first trail || is_round at trail) && is_none (coin_answer n at trail)

-- the step that is due after these: a vote, as the random word falls, or a load of the counter word
abbrev pub step_due : ℕ → ℕ → List Entry → ℕ → Op
step_due n at trail word =
    if coin_votes n at trail then Add record { 0 = at } (add_word_of (is_head word))
    else Load record { 0 = at }

-- and its kind
abbrev pub kind_due : ℕ → ℕ → List Entry → Kind
kind_due n at trail = if coin_votes n at trail then kind.Vote else kind.ReadVotes
