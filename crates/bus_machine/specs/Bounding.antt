-- How many steps a sender takes in a tenure towards its page.
use Rattle.std.specs.Prelude.{◌≡◌, ℕ, ◌+◌, ◌-◌, ◌≤◌, Bool, true, false, Option, Some, None, List}
use Rattle.std.specs.Prelude.{[], ◌∷◌, filter, length, slice_get, ◌==◌, if◌then◌else◌}
use Rattle.bus_core.specs.Senders.{Sender}
use Rattle.bus_presence.specs.Reclamation.{Entry}
use Rattle.bus_register.specs.declared.kinds.Kind.{Kind}
use Rattle.bus_register.specs.declared.kinds.Kind.TheVariants as kind
use Rattle.bus_register.specs.declared.registers.Op.{Op}
use Rattle.bus_register.specs.declared.registers.Op.TheVariants.{Load, Store, Add, Cas}
use Rattle.bus_tenure.specs.Core.{Election}
use Rattle.bus_tenure.specs.declared.phases.Phase.TheVariants.{Electing}
use Rattle.bus_world.specs.Headline.{Action, HasPut, HasMarked, Stepped}
use Rattle.bus_machine.specs.Machine.{Machine, Trails}

-- the step is one of who has the page
abbrev pub is_of_holder : Kind → Bool
is_of_holder kind.StoreLogWord = true
is_of_holder kind.StoreLength = true
is_of_holder kind.GivePageBack = true
is_of_holder kind.ReadPassed = true
is_of_holder k = false

-- the action is a step in this tenure towards its page: one of its election, or the one that takes
-- the page
abbrev pub is_towards : ℕ → Action → Bool
is_towards t (HasPut number bytes) = false
is_towards t (HasMarked mark) = false
is_towards t (Stepped None k found chose answer) = false
is_towards t (Stepped (Some u) k found chose answer) = if is_of_holder k then false else u == t

-- how many of them a sender took
abbrev pub steps_towards : ℕ → List Action → ℕ
steps_towards t actions = length (filter (is_towards t) actions)

-- Of these trails: no sender takes more steps towards the page of a tenure, the one that takes it
-- included; and while its election runs, or has chosen it, one turn at least is left, and those
-- that are left and those that it took are no more.
pub record AreBounded {E : Type 0} (X : Election E) (bound : ℕ) (m : Machine E) (T : Trails) :
    Type 0 where
  pub most : (s t : ℕ) → steps_towards t (T.actions s) ≤ bound
  pub left : (s : ℕ) (v : Sender E) (t : ℕ) (e : E) → slice_get m.senders s ≡ Some v
      → v.core.phase ≡ Electing t e
      → (1 ≤ X.turns_left e) × (steps_towards t (T.actions s) + X.turns_left e ≤ bound)

-- ---- steps of a pin, where rows are used again
-- the tenure whose presence a sender stored last, after this step: a presence is 1 more than its
-- tenure
abbrev pub named_by : Op → Option ℕ → Option ℕ
named_by (Load r) now = now
named_by (Store r number) now = if number == 0 then now else Some (number - 1)
named_by (Add r number) now = now
named_by (Cas r was number) now = now

abbrev pub is_tenure : ℕ → Option ℕ → Bool
is_tenure t None = false
is_tenure t (Some u) = u == t

-- how many of these steps are of this tenure, where another was named before
abbrev pub pins_from : ℕ → Option ℕ → List Entry → ℕ
pins_from t now [] = 0
pins_from t now (e ∷ entries) =
    (if is_tenure t (named_by e.op now) then 1 else 0) + pins_from t (named_by e.op now) entries

-- how many steps of its pin of this tenure a sender took: the store of the tenure's presence, and
-- those up to the next such store
abbrev pub steps_of_pin : ℕ → List Entry → ℕ
steps_of_pin t entries = pins_from t None entries

-- no step of a pin comes before a tenure was named
abbrev pub IsNamedFirst : List Entry → Type 0
IsNamedFirst [] = Unit {0}
IsNamedFirst (e ∷ entries) = (t : ℕ) × (named_by e.op None ≡ Some t)

-- Of these trails: beside those steps a sender takes three at most for its pin of a tenure, and
-- each step of a pin is of some tenure.
pub record PinsAreBounded (T : Trails) : Type 0 where
  pub most : (s t : ℕ) → steps_of_pin t (T.pins s) ≤ 3
  pub first : (s : ℕ) → IsNamedFirst (T.pins s)
