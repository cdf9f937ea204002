-- The random-walk coin of Aspnes and Herlihy 1990, one step at a time: a process adds one vote to
-- the counter word that all votes of the coin stand in, then loads that word, and goes on by the
-- rule of the coin.
use Rattle.std.specs.Prelude.{ℕ, ◌<◌, ◌≤◌, Bool, true, false, Option, Some, None, [], ◌∷◌}
use Rattle.bus_walkcoin.specs.declared.tallies.TheConstants.{MOST_VOTES}
use Rattle.bus_register.specs.declared.limits.TheConstants.{MOST_PROCESSES}
use Rattle.bus_register.specs.declared.kinds.Kind.{Kind}
use Rattle.bus_register.specs.declared.kinds.Kind.TheVariants as kind
use Rattle.bus_register.specs.declared.registers.Op.{Op}
use Rattle.bus_register.specs.declared.registers.Op.TheVariants.{Load, Add}
use Rattle.bus_walkcoin.specs.declared.tallies.Tally.{Tally}
use Rattle.bus_walkcoin.specs.Tally.{tally_of, tally_with, add_word_of, votes_of, total_of}
use Rattle.bus_walkcoin.specs.CoinRule.{is_head, settled_bit}
use Rattle.bus_walkcoin.specs.declared.coins.Phase.{Phase}
use Rattle.bus_walkcoin.specs.declared.coins.Phase.TheVariants.{Vote, ReadVotes, Answered}

-- what one process holds
pub record CoinState : Type 0 where
  pub n : ℕ
  pub at : ℕ
  -- the own votes so far
  pub own : Tally
  pub phase : Phase

abbrev pub coin_started : ℕ → ℕ → CoinState
coin_started n at = record { n = n; at = at; own = record { heads = 0; tails = 0 }; phase = Vote }

abbrev pub answer_at : Phase → Option Bool
answer_at Vote = None
answer_at ReadVotes = None
answer_at (Answered answer) = Some answer

-- the answer, once there is one
abbrev pub answer_of : CoinState → Option Bool
answer_of s = answer_at s.phase

abbrev pub wants_at : Phase → Bool
wants_at Vote = true
wants_at ReadVotes = false
wants_at (Answered answer) = false

-- the next step is a vote
abbrev pub wants_of : CoinState → Bool
wants_of s = wants_at s.phase

abbrev pub kind_at : Phase → Option Kind
kind_at Vote = Some kind.Vote
kind_at ReadVotes = Some kind.ReadVotes
kind_at (Answered answer) = None

abbrev pub coin_kind : CoinState → Option Kind
coin_kind s = kind_at s.phase

abbrev pub op_at : Phase → CoinState → ℕ → Option Op
op_at Vote s word = Some (Add record { 0 = s.at } (add_word_of (is_head word)))
op_at ReadVotes s word = Some (Load record { 0 = s.at })
op_at (Answered answer) s word = None

-- the next step
abbrev pub coin_op : CoinState → ℕ → Option Op
coin_op s word = op_at s.phase s word

abbrev pub after_settled : Option Bool → Phase
after_settled None = Vote
after_settled (Some answer) = Answered answer

-- after the load of the counter, of n processes, with so many own votes, which found this number
abbrev pub after_load : ℕ → ℕ → ℕ → Phase
after_load n votes got = after_settled (settled_bit n votes (total_of (tally_of got ∷ [])))

abbrev pub fed_at : Phase → CoinState → ℕ → ℕ → CoinState
fed_at Vote s got word = record s { own = tally_with s.own (is_head word); phase = ReadVotes }
fed_at ReadVotes s got word = record s { phase = after_load s.n (votes_of s.own) got }
fed_at (Answered answer) s got word = s

-- what the process holds after a step that found this number
abbrev pub coin_fed : CoinState → ℕ → ℕ → CoinState
coin_fed s got word = fed_at s.phase s got word

-- the own votes fit the phase
abbrev pub PhaseFits : ℕ → Phase → Type 0
PhaseFits votes Vote = votes < MOST_VOTES
PhaseFits votes ReadVotes = 0 < votes
PhaseFits votes (Answered answer) = 0 < votes

-- the numbers fit, so that no sum wraps
pub record Sized (n : ℕ) (own : Tally) (phase : Phase) : Type 0 where
  pub few : n ≤ MOST_PROCESSES
  pub votes : votes_of own ≤ MOST_VOTES
  pub fits : PhaseFits (votes_of own) phase
