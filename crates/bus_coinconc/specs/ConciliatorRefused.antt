-- What is no conciliator.
use Rattle.std.specs.Prelude.{◌≡◌, ◌≢◌, ℕ, ◌+◌, Bool, not, Option, Some, None, List, [], ◌∷◌, ◌==◌}
use Rattle.std.specs.Prelude.{if◌then◌else◌}
use Rattle.bus_register.specs.declared.kinds.Kind.TheVariants as kind
use Rattle.bus_register.specs.declared.registers.Op.TheVariants.{Load, Store, Add}
use Rattle.bus_register.specs.declared.registers.Reg.{Reg}
use Rattle.bus_register.specs.Digits.{digit}
use Rattle.bus_walkcoin.specs.CoinRule.{Entry, coin_answer}
use Rattle.bus_coinconc.specs.Conciliator.{ConciliatorState, output_of}
use Rattle.bus_coinconc.specs.ConciliatorAnswer.{Marks, Looks, ConciliatorAnswer, step_due}
use Rattle.bus_coinconc.specs.ConciliatorAnswer.{kind_due}

-- process p alone has this
abbrev pub only : ℕ → Bool → ℕ → Option Bool
only p v q = if q == p then Some v else None

-- no process that took such steps stands so
pub record RefusesTrails : Type 0 where
  -- its first step does not set its own mark, and its second does not look at the other one
  pub unmarked :
      (n at : ℕ) (input : Bool) (first : Entry) (trail : List Entry) (s : ConciliatorState)
      → ¬ Marks at input first → ¬ ConciliatorAnswer n at input (first ∷ trail) s
  pub unlooked :
      (n at : ℕ) (input : Bool) (first second : Entry) (trail : List Entry) (s : ConciliatorState)
      → ¬ Looks at input second → ¬ ConciliatorAnswer n at input (first ∷ second ∷ trail) s
  -- it has an output before it has looked
  pub too_early : (n at : ℕ) (input answer : Bool) (first : Entry) (s : ConciliatorState)
      → output_of s ≡ Some answer → ¬ ConciliatorAnswer n at input (first ∷ []) s
  -- it did not see the other mark, and gives the other value, or nothing
  pub turned :
      (n at : ℕ) (input : Bool) (first second : Entry) (trail : List Entry) (s : ConciliatorState)
      → second.got ≡ 0 → output_of s ≡ Some (not input)
      → ¬ ConciliatorAnswer n at input (first ∷ second ∷ trail) s
  pub silent :
      (n at : ℕ) (input : Bool) (first second : Entry) (trail : List Entry) (s : ConciliatorState)
      → second.got ≡ 0 → output_of s ≡ None
      → ¬ ConciliatorAnswer n at input (first ∷ second ∷ trail) s
  -- it saw the other mark, and gives something without a step of the coin, or another value than
  -- the coin's
  pub unasked : (n at : ℕ) (input answer : Bool) (first second : Entry) (s : ConciliatorState)
      → second.got ≢ 0 → output_of s ≡ Some answer
      → ¬ ConciliatorAnswer n at input (first ∷ second ∷ []) s
  pub unheeded : (n at : ℕ) (input answer : Bool) (first second : Entry) (trail : List Entry)
      (s : ConciliatorState) → second.got ≢ 0 → coin_answer n (at + 2) trail ≡ Some answer
      → output_of s ≡ Some (not answer) → ¬ ConciliatorAnswer n at input (first ∷ second ∷ trail) s

-- no such step is due of a process
pub record RefusesSteps : Type 0 where
  -- it has taken no step, and looks, votes, or sets the other mark
  pub looks_first : (n at word : ℕ) (input : Bool) (r : Reg)
      → ¬ (step_due n at input [] word ≡ Load r)
  pub votes_first : (n at word x : ℕ) (input : Bool) (r : Reg)
      → ¬ (step_due n at input [] word ≡ Add r x)
  pub sets_other : (n at word x : ℕ) (input : Bool)
      → ¬ (step_due n at input [] word ≡ Store record { 0 = at + digit (not input) } x)
  -- it has set its mark, and sets one again, votes, or looks at its own
  pub sets_twice : (n at word x : ℕ) (input : Bool) (first : Entry) (r : Reg)
      → ¬ (step_due n at input (first ∷ []) word ≡ Store r x)
  pub votes_unlooked : (n at word x : ℕ) (input : Bool) (first : Entry) (r : Reg)
      → ¬ (step_due n at input (first ∷ []) word ≡ Add r x)
  pub looks_at_own : (n at word : ℕ) (input : Bool) (first : Entry)
      → ¬ (step_due n at input (first ∷ []) word ≡ Load record { 0 = at + digit input })
  -- it has looked, and looks again
  pub looks_again : (n at word : ℕ) (input : Bool) (first second : Entry) (r : Reg)
      → ¬ (step_due n at input (first ∷ second ∷ []) word ≡ Load r)
  -- the kinds of these steps come in another order
  pub misnames_the_mark : (n at : ℕ) (input : Bool)
      → ¬ (kind_due n at input [] ≡ kind.ReadOtherMark)
  pub misnames_the_look : (n at : ℕ) (input : Bool) (first : Entry)
      → ¬ (kind_due n at input (first ∷ []) ≡ kind.SetMark)
  pub misnames_the_vote : (n at : ℕ) (input : Bool) (first second : Entry)
      → ¬ (kind_due n at input (first ∷ second ∷ []) ≡ kind.ReadOtherMark)
  pub reads_no_votes : (n at : ℕ) (input : Bool) (first second : Entry)
      → ¬ (kind_due n at input (first ∷ second ∷ []) ≡ kind.ReadVotes)
