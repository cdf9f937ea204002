-- A conciliator of two marks and a coin: a process sets the mark of its input and loads the other
-- mark; where that is set, it asks the coin.
use Rattle.std.specs.Prelude.{ℕ, ◌+◌, ◌≤◌, ◌^◌, Bool, false, not, Option, Some, None, ◌==◌}
use Rattle.std.specs.Prelude.{if◌then◌else◌}
use Rattle.bus_register.specs.declared.limits.TheConstants.{MOST_PROCESSES}
use Rattle.bus_register.specs.declared.kinds.Kind.{Kind}
use Rattle.bus_register.specs.declared.kinds.Kind.TheVariants as kind
use Rattle.bus_register.specs.declared.registers.Op.{Op}
use Rattle.bus_register.specs.declared.registers.Op.TheVariants.{Load, Store}
use Rattle.bus_walkcoin.specs.Coin.{coin_started, coin_kind, coin_op, coin_fed, answer_of}
use Rattle.bus_walkcoin.specs.Coin as coin
use Rattle.bus_register.specs.Digits.{digit}
use Rattle.bus_coinconc.specs.declared.conciliators.Stage.{Stage}
use Rattle.bus_coinconc.specs.declared.conciliators.Stage.TheVariants.{SetMark, ReadOtherMark}
use Rattle.bus_coinconc.specs.declared.conciliators.Stage.TheVariants.{Alone, AskCoin}

-- what one process holds
pub record ConciliatorState : Type 0 where
  pub n : ℕ
  pub at : ℕ
  pub input : Bool
  pub stage : Stage

-- the processes are few, and each word has a place
pub record Sized (n at : ℕ) : Type 0 where
  pub few : n ≤ MOST_PROCESSES
  pub room : at + 3 ≤ 2 ^ 64

abbrev pub conciliator_started : ℕ → Bool → ℕ → ConciliatorState
conciliator_started n input at = record { n = n; at = at; input = input; stage = SetMark }

abbrev pub output_at : Stage → Bool → Option Bool
output_at SetMark input = None
output_at ReadOtherMark input = None
output_at Alone input = Some input
output_at (AskCoin c) input = answer_of c

-- the output, once there is one
abbrev pub output_of : ConciliatorState → Option Bool
output_of s = output_at s.stage s.input

abbrev pub wants_at : Stage → Bool
wants_at SetMark = false
wants_at ReadOtherMark = false
wants_at Alone = false
wants_at (AskCoin c) = coin.wants_of c

-- the next step asks for a random word
abbrev pub wants_of : ConciliatorState → Bool
wants_of s = wants_at s.stage

abbrev pub kind_at : Stage → Option Kind
kind_at SetMark = Some kind.SetMark
kind_at ReadOtherMark = Some kind.ReadOtherMark
kind_at Alone = None
kind_at (AskCoin c) = coin_kind c

abbrev pub conciliator_kind : ConciliatorState → Option Kind
conciliator_kind s = kind_at s.stage

abbrev pub op_at : Stage → ConciliatorState → ℕ → Option Op
op_at SetMark s word = Some (Store record { 0 = s.at + digit s.input } 1)
op_at ReadOtherMark s word = Some (Load record { 0 = s.at + digit (not s.input) })
op_at Alone s word = None
op_at (AskCoin c) s word = coin_op c word

-- the next step
abbrev pub conciliator_op : ConciliatorState → ℕ → Option Op
conciliator_op s word = op_at s.stage s word

abbrev pub stage_after : Stage → ConciliatorState → ℕ → ℕ → Stage
stage_after SetMark s got word = ReadOtherMark
stage_after ReadOtherMark s got word =
    if got == 0 then Alone else AskCoin (coin_started s.n (s.at + 2))
stage_after Alone s got word = Alone
stage_after (AskCoin c) s got word = AskCoin (coin_fed c got word)

-- what the process holds after a step that found this number
abbrev pub conciliator_fed : ConciliatorState → ℕ → ℕ → ConciliatorState
conciliator_fed s got word = record s { stage = stage_after s.stage s got word }
