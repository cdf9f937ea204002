-- The conciliator as a protocol: what its words and local states always keep.
use Rattle.std.specs.Prelude.{◌≡◌, ℕ, ◌+◌, ◌*◌, ◌<◌, ◌≤◌, Bool, true, false, not, Option, Some}
use Rattle.std.specs.Prelude.{None, if◌then◌else◌, ◌⊎◌}
use Rattle.bus_walkcoin.specs.declared.tallies.TheConstants.{MOST_VOTES}
use Rattle.bus_register.specs.declared.limits.TheConstants.{MOST_PROCESSES}
use Rattle.bus_register.specs.Protocol.{Protocol}
use Rattle.bus_register.specs.Tables.{of_some}
use Rattle.bus_walkcoin.specs.Coin.{CoinState}
use Rattle.bus_walkcoin.specs.CoinProtocol.{coin_protocol}
use Rattle.bus_register.specs.Digits.{digit}
use Rattle.bus_coinconc.specs.declared.conciliators.Stage.{Stage}
use Rattle.bus_coinconc.specs.declared.conciliators.Stage.TheVariants.{SetMark, ReadOtherMark}
use Rattle.bus_coinconc.specs.declared.conciliators.Stage.TheVariants.{Alone, AskCoin}
use Rattle.bus_coinconc.specs.Conciliation.{IsInput}
use Rattle.bus_coinconc.specs.Conciliator.{ConciliatorState, conciliator_started, output_of}
use Rattle.bus_coinconc.specs.Conciliator.{wants_of}

-- the steps of the coin, at most
abbrev pub coin_steps : ℕ
coin_steps = MOST_VOTES * 2

-- the steps that are left, at most
abbrev pub left_at : Stage → ℕ
left_at SetMark = 2 + coin_steps
left_at ReadOtherMark = 1 + coin_steps
left_at Alone = 0
left_at (AskCoin c) = coin_protocol.left c

-- the own mark is set
abbrev pub begun_at : Stage → Bool
begun_at SetMark = false
begun_at ReadOtherMark = true
begun_at Alone = true
begun_at (AskCoin c) = true

abbrev pub StageBelongs : ℕ → ℕ → ℕ → Stage → Type 0
StageBelongs n me at SetMark = Unit {0}
StageBelongs n me at ReadOtherMark = Unit {0}
StageBelongs n me at Alone = Unit {0}
StageBelongs n me at (AskCoin c) = coin_protocol.Belongs n me (at + 2) c

-- s is a local state of process me of n, over the words from at on: its number makes no difference
pub record Belongs (n me at : ℕ) (s : ConciliatorState) : Type 0 where
  pub n_is : s.n ≡ n
  pub at_is : s.at ≡ at
  pub below : me < n
  pub few : n ≤ MOST_PROCESSES
  pub stage : StageBelongs n me at s.stage

abbrev pub coin_at : Stage → Option CoinState
coin_at SetMark = None
coin_at ReadOtherMark = None
coin_at Alone = None
coin_at (AskCoin c) = Some c

-- the local states in the coin, of those that came to it: they stay when it has answered
abbrev pub coins : (ℕ → Option ConciliatorState) → ℕ → Option CoinState
coins locals p = of_some (λ s. coin_at s.stage) (locals p)

-- its input, once its mark is set
abbrev pub input_once_begun : ConciliatorState → Option Bool
input_once_begun s = if begun_at s.stage then Some s.input else None

-- the input of each process that has set its mark
abbrev pub marked_input : (ℕ → Option ConciliatorState) → ℕ → Option Bool
marked_input locals p = of_some input_once_begun (locals p)

-- a process that asks the coin has seen the other mark set
abbrev pub StageSaw : (ℕ → Option Bool) → Stage → Bool → Type 0
StageSaw inputs SetMark input = Unit {0}
StageSaw inputs ReadOtherMark input = Unit {0}
StageSaw inputs Alone input = Unit {0}
StageSaw inputs (AskCoin c) input = IsInput inputs (not input)

pub record Keeps (n at : ℕ) (words : ℕ → ℕ) (locals : ℕ → Option ConciliatorState) : Type 0 where
  pub inside : (p : ℕ) (s : ConciliatorState) → locals p ≡ Some s → (p < n) × Belongs n p at s
  -- a mark is set by the processes with that input, and stays
  pub set : (p : ℕ) (v : Bool) → marked_input locals p ≡ Some v → words (at + digit v) ≡ 1
  pub unset : (v : Bool) → (words (at + digit v) ≡ 0) ⊎ IsInput (marked_input locals) v
  pub saw : (p : ℕ) (s : ConciliatorState) → locals p ≡ Some s
      → StageSaw (marked_input locals) s.stage s.input
  pub coin : coin_protocol.Keeps n (at + 2) words (coins locals)

abbrev pub conciliator_protocol : Protocol ConciliatorState Bool Bool
conciliator_protocol = record {
  width = λ n. 3;
  steps = λ n. 2 + coin_steps;
  started = λ n me input at. conciliator_started n input at;
  input = λ s. s.input;
  has_begun = λ s. begun_at s.stage;
  output = output_of;
  wants_word = wants_of;
  left = λ s. left_at s.stage;
  Belongs = Belongs;
  Keeps = Keeps;
}
