-- The coin as a protocol: what its word and local states always keep. Nothing is claimed of the
-- answers: coins need not agree.
use Rattle.std.specs.Prelude.{◌≡◌, ℕ, ◌+◌, ◌*◌, ◌-◌, ◌<◌, ◌≤◌, Bool, true, Option, Some, None}
use Rattle.std.specs.Prelude.{nat_lt, List, map}
use Rattle.std.specs.List.{range_with_len}
use Rattle.bus_walkcoin.specs.declared.tallies.TheConstants.{MOST_VOTES}
use Rattle.bus_register.specs.declared.limits.TheConstants.{MOST_PROCESSES}
use Rattle.bus_register.specs.Protocol.{Protocol}
use Rattle.bus_walkcoin.specs.declared.tallies.Tally.{Tally}
use Rattle.bus_walkcoin.specs.Tally.{word_of, votes_of, sum_of}
use Rattle.bus_walkcoin.specs.declared.coins.Phase.{Phase}
use Rattle.bus_walkcoin.specs.declared.coins.Phase.TheVariants.{Vote, ReadVotes, Answered}
use Rattle.bus_walkcoin.specs.Coin.{CoinState, PhaseFits, coin_started, answer_of, wants_of}

-- a coin has no input
abbrev pub NoInput : Type 0
NoInput = Unit {0}

-- the steps that are left, at most, after so many own votes
abbrev pub left_at : ℕ → Phase → ℕ
left_at votes Vote = (MOST_VOTES - votes) * 2
left_at votes ReadVotes = (MOST_VOTES - votes) * 2 + 1
left_at votes (Answered answer) = 0

abbrev pub begun_at : ℕ → Phase → Bool
begun_at votes Vote = nat_lt 0 votes
begun_at votes ReadVotes = true
begun_at votes (Answered answer) = true

-- s is a local state of process me of n, over the words from at on: its number makes no difference
pub record Belongs (n me at : ℕ) (s : CoinState) : Type 0 where
  pub n_is : s.n ≡ n
  pub at_is : s.at ≡ at
  pub below : me < n
  pub few : n ≤ MOST_PROCESSES
  pub votes : votes_of s.own ≤ MOST_VOTES
  pub fits : PhaseFits (votes_of s.own) s.phase

-- the votes of a process; none, while it is not there
abbrev pub tally_at : Option CoinState → Tally
tally_at None = record { heads = 0; tails = 0 }
tally_at (Some s) = s.own

-- the votes of each of the n processes
abbrev pub tallies : ℕ → (ℕ → Option CoinState) → List Tally
tallies n locals = map (λ p. tally_at (locals p)) (range_with_len 0 n)

pub record Keeps (n at : ℕ) (words : ℕ → ℕ) (locals : ℕ → Option CoinState) : Type 0 where
  pub inside : (p : ℕ) (s : CoinState) → locals p ≡ Some s → (p < n) × Belongs n p at s
  -- the counter holds exactly the votes of all processes together
  pub counter : words at ≡ word_of (sum_of (tallies n locals))

abbrev pub coin_protocol : Protocol CoinState NoInput Bool
coin_protocol = record {
  width = λ n. 1;
  steps = λ n. MOST_VOTES * 2;
  started = λ n me input at. coin_started n at;
  input = λ s. tt;
  has_begun = λ s. begun_at (votes_of s.own) s.phase;
  output = answer_of;
  wants_word = wants_of;
  left = λ s. left_at (votes_of s.own) s.phase;
  Belongs = Belongs;
  Keeps = Keeps;
}

-- whatever the coins answer
abbrev pub AnyAnswers : (ℕ → Option NoInput) → (ℕ → Option Bool) → Type 0
AnyAnswers inputs answers = Unit {0}
