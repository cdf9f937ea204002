-- What a conciliator gives, read off the steps of one process and the numbers that they found: no
-- local state is spoken of here.
use Rattle.std.specs.Prelude.{◌≡◌, ℕ, ◌+◌, Bool, not, Option, Some, None, List, [], ◌∷◌, ◌==◌}
use Rattle.std.specs.Prelude.{if◌then◌else◌}
use Rattle.bus_register.specs.declared.kinds.Kind.{Kind}
use Rattle.bus_register.specs.declared.kinds.Kind.TheVariants as kind
use Rattle.bus_register.specs.declared.registers.Op.{Op}
use Rattle.bus_register.specs.declared.registers.Op.TheVariants.{Load, Store}
use Rattle.bus_register.specs.Digits.{digit}
use Rattle.bus_walkcoin.specs.CoinRule.{Entry, coin_answer}
use Rattle.bus_walkcoin.specs.CoinRule as coin
use Rattle.bus_coinconc.specs.Conciliator.{ConciliatorState, output_of}

-- the own mark is set
abbrev pub Marks : ℕ → Bool → Entry → Type 0
Marks at input e = e.op ≡ Store record { 0 = at + digit input } 1

-- the other mark is loaded
abbrev pub Looks : ℕ → Bool → Entry → Type 0
Looks at input e = e.op ≡ Load record { 0 = at + digit (not input) }

-- the first step sets the own mark, and the second loads the other one
abbrev pub LooksFirst : ℕ → Bool → List Entry → Type 0
LooksFirst at input [] = Unit {0}
LooksFirst at input (first ∷ []) = Marks at input first
LooksFirst at input (first ∷ second ∷ trail) = Marks at input first × Looks at input second

-- the output: the own input where the other mark was not set, else what the coin answers by the
-- steps since, and none before
abbrev pub conciliator_answer : ℕ → ℕ → Bool → List Entry → Option Bool
conciliator_answer n at input [] = None
conciliator_answer n at input (first ∷ []) = None
conciliator_answer n at input (first ∷ second ∷ trail) =
    if second.got == 0 then Some input else coin_answer n (at + 2) trail

-- a process of n with this input, over the words from at on, that took these steps
pub record ConciliatorAnswer (n at : ℕ) (input : Bool) (trail : List Entry) (s : ConciliatorState) :
    Type 0 where
  pub looks : LooksFirst at input trail
  pub answer : output_of s ≡ conciliator_answer n at input trail

-- the step that is due after these: the own mark is set, the other one is loaded, and then comes
-- what is due of the coin
abbrev pub step_due : ℕ → ℕ → Bool → List Entry → ℕ → Op
step_due n at input [] word = Store record { 0 = at + digit input } 1
step_due n at input (first ∷ []) word = Load record { 0 = at + digit (not input) }
step_due n at input (first ∷ second ∷ trail) word = coin.step_due n (at + 2) trail word

-- and its kind
abbrev pub kind_due : ℕ → ℕ → Bool → List Entry → Kind
kind_due n at input [] = kind.SetMark
kind_due n at input (first ∷ []) = kind.ReadOtherMark
kind_due n at input (first ∷ second ∷ trail) = coin.kind_due n (at + 2) trail
