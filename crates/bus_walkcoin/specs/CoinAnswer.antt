-- What the local state of a process has to do with the steps that it took.
use Rattle.std.specs.Prelude.{◌≡◌, ◌≢◌, ℕ, ◌*◌, ◌<◌, int_le, Bool, true, false, not, Option, Some}
use Rattle.std.specs.Prelude.{None, List, [], ◌∷◌, ◌++◌, length, pos, neg_ℤ}
use Rattle.bus_walkcoin.specs.declared.tallies.TheConstants.{MOST_VOTES}
use Rattle.bus_register.specs.declared.kinds.Kind.TheVariants as kind
use Rattle.bus_register.specs.declared.registers.Op.{Op}
use Rattle.bus_register.specs.declared.registers.Op.TheVariants.{Load, Store, Add, Cas}
use Rattle.bus_register.specs.declared.registers.Reg.{Reg}
use Rattle.bus_walkcoin.specs.Tally.{add_word_of}
use Rattle.bus_walkcoin.specs.Coin.{CoinState, answer_of, wants_of}
use Rattle.bus_walkcoin.specs.CoinRule.{Entry, is_head, is_vote, is_load, votes, tally_of_votes}
use Rattle.bus_walkcoin.specs.CoinRule.{total_seen, coin_answer, coin_votes, step_due, kind_due}

-- a process that stood at s took these steps, each of which was its next one, and stands at t
abbrev pub Took : {S : Type 0} → (S → ℕ → Option Op) → (S → ℕ → ℕ → S) → S → List Entry → S → Type 0
Took op fed s [] t = s ≡ t
Took op fed s (e ∷ trail) t = (op s e.word ≡ Some e.op) × Took op fed (fed s e.got e.word) trail t

-- a process of n, whose counter is this word, that took these steps: its own votes, its answer, and
-- whether it votes next
pub record CoinAnswer (n at : ℕ) (trail : List Entry) (s : CoinState) : Type 0 where
  pub votes : s.own ≡ tally_of_votes (votes at trail)
  pub answer : answer_of s ≡ coin_answer n at trail
  pub wants : wants_of s ≡ coin_votes n at trail

-- no process answers so
pub record RefusesEarlyAnswers : Type 0 where
  -- it has not voted
  pub without_a_vote : (n at : ℕ) (trail : List Entry) (answer : Bool) → votes at trail ≡ []
      → ¬ (coin_answer n at trail ≡ Some answer)
  -- its last step was no load of the counter
  pub without_a_load : (n at : ℕ) (before : List Entry) (last : Entry) (answer : Bool)
      → is_load at last.op ≡ false → ¬ (coin_answer n at (before ++ last ∷ []) ≡ Some answer)
  -- its last step but one was no vote: it has looked twice
  pub on_a_second_look : (n at : ℕ) (before : List Entry) (look last : Entry) (answer : Bool)
      → is_vote at look ≡ false → ¬ (coin_answer n at (before ++ look ∷ last ∷ []) ≡ Some answer)
  -- the total that it saw is below the barrier on both sides, and it has not used up its votes
  pub below_the_barrier : (n at : ℕ) (trail : List Entry) (answer : Bool)
      → length (votes at trail) < MOST_VOTES → int_le (pos (2 * n)) (total_seen trail) ≡ false
      → int_le (total_seen trail) (neg_ℤ (pos (2 * n))) ≡ false
      → ¬ (coin_answer n at trail ≡ Some answer)

-- no such step is due of a process
pub record RefusesSteps : Type 0 where
  -- it has taken no step, and looks
  pub looks_first : (n at word : ℕ) → ¬ (step_due n at [] word ≡ Load record { 0 = at })
  -- it has just voted, and votes again
  pub votes_twice : (n at word x : ℕ) (before : List Entry) (vote : Entry) → is_vote at vote ≡ true
      → ¬ (step_due n at (before ++ vote ∷ []) word ≡ Add record { 0 = at } x)
  -- it has just looked after a vote, without an answer, and looks again
  pub looks_twice : (n at word : ℕ) (before : List Entry) (vote load : Entry)
      → is_vote at vote ≡ true → is_load at load.op ≡ true
      → coin_answer n at (before ++ vote ∷ load ∷ []) ≡ None
      → ¬ (step_due n at (before ++ vote ∷ load ∷ []) word ≡ Load record { 0 = at })
  -- its first vote is not the one that its random word says
  pub turns_the_vote : (n at word : ℕ)
      → ¬ (step_due n at [] word ≡ Add record { 0 = at } (add_word_of (not (is_head word))))
  -- it votes by a store, or by an exchange
  pub stores : (n at word x : ℕ) (r : Reg) (trail : List Entry)
      → ¬ (step_due n at trail word ≡ Store r x)
  pub exchanges : (n at word x y : ℕ) (r : Reg) (trail : List Entry)
      → ¬ (step_due n at trail word ≡ Cas r x y)
  -- it looks at another word
  pub looks_elsewhere : (n at word other : ℕ) (trail : List Entry) → other ≢ at
      → ¬ (step_due n at trail word ≡ Load record { 0 = other })
  -- its first step is named a look, or a look that follows a vote is named a vote
  pub misnames_the_first : (n at : ℕ) → ¬ (kind_due n at [] ≡ kind.ReadVotes)
  pub misnames_a_look : (n at : ℕ) (before : List Entry) (vote : Entry) → is_vote at vote ≡ true
      → ¬ (kind_due n at (before ++ vote ∷ []) ≡ kind.Vote)
