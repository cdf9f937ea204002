-- What the leave of a receiver does, and that it is for good.
use Rattle.std.specs.Prelude.{◌≡◌, ◌≢◌, ℕ, Bool, true, false, Option, Some, None, List, All}
use Rattle.std.specs.Prelude.{slice_get, slice_index}
use Rattle.bus_register.specs.Protocol.{Protocol}
use Rattle.bus_register.specs.declared.limits.TheConstants.{PASSED_ALL}
use Rattle.bus_adoptcommit.specs.declared.verdicts.Verdict.{Verdict}
use Rattle.bus_deliverylog.specs.Receiving.{Receiving, with_leave}
use Rattle.bus_tenure.specs.Core.{Election}
use Rattle.bus_tenure.specs.Elections.{Elector}
use Rattle.bus_world.specs.World.{Event, Recv, Gone}
use Rattle.bus_world.specs.declared.events.Answer.{Answer}
use Rattle.bus_world.specs.declared.events.Answer.TheVariants as answer
use Rattle.bus_world.specs.declared.events.StepFault.{StepFault}
use Rattle.bus_world.specs.declared.events.StepFault.TheVariants as fault
use Rattle.bus_machine.specs.Machine.{Machine, Happens, Reached, Trails}
use Rattle.bus_machine.specs.Playing.{Refused, AllAnswered, trails_after}

abbrev pub is_gone : Option Receiving → Bool
is_gone None = false
is_gone (Some v) = v.gone

-- the receiver r has left
abbrev pub has_left : {E : Type 0} → Machine E → ℕ → Bool
has_left m r = is_gone (slice_get m.receivers r)

-- The leave of a receiver that had not left was answered: it has left now, its passed place, if it
-- has one, shows 2^64 - 1, and nothing else has changed.
pub record JustLeft {E : Type 0} (old : Machine E) (r : ℕ) (a : Answer) (new : Machine E) :
    Type 0 where
  pub answered : a ≡ answer.Gone
  pub receiver : Receiving
  pub there : slice_get old.receivers r ≡ Some receiver
  pub stayed : receiver.gone ≡ false
  pub left : slice_get new.receivers r ≡ Some (with_leave receiver)
  pub others : (q : ℕ) → q ≢ r → slice_get new.receivers q ≡ slice_get old.receivers q
  pub shows : (place : ℕ) → receiver.passed_at ≡ Some place
      → slice_index new.words place ≡ PASSED_ALL
  pub words : (place : ℕ) → receiver.passed_at ≢ Some place
      → slice_index new.words place ≡ slice_index old.words place
  pub nothing_else : new ≡ record old { words = new.words; receivers = new.receivers }

-- a receiver holds what it held, and was answered nothing more
pub record StaysGone {E : Type 0} (old : Machine E) (T : Trails) (r : ℕ) (new : Machine E)
    (T' : Trails) : Type 0 where
  pub left : has_left new r ≡ true
  pub state : slice_get new.receivers r ≡ slice_get old.receivers r
  pub heard : T'.heard r ≡ T.heard r

-- an event is refused as Gone, and for nothing else
abbrev pub IsRefusedAsGone : {E : Type 0} → Machine E → Event → Type 0
IsRefusedAsGone m e =
    (why : StepFault) → (Refused m e why → why ≡ fault.Gone) × (why ≡ fault.Gone → Refused m e why)

-- each leave is one, and whoever has left stays so, whatever events happen next: they are no forks,
-- by which alone another receiver gets the number
pub record LeavesAreForGood {S : Type 0} (X : Election (Elector S)) (P : Protocol S Bool Verdict) :
    Type 0 where
  pub leaves : (old new : Machine (Elector S)) (r : ℕ) (a : Answer) → Happens X old (Gone r) a new
      → JustLeft old r a new
  pub stays : (old new : Machine (Elector S)) (events : List Event)
      (run : AllAnswered X P old events new) (T : Trails) (r : ℕ) → has_left old r ≡ true
      → StaysGone old T r new (trails_after X P old events new run T)
  pub recv_refused : (m : Machine (Elector S)) (r : ℕ) → has_left m r ≡ true
      → IsRefusedAsGone m (Recv r)
  pub leave_refused : (m : Machine (Elector S)) (r : ℕ) → has_left m r ≡ true
      → IsRefusedAsGone m (Gone r)
  -- a receiver that has not left may leave, whatever led to the machine: its leave is not refused,
  -- and there is what it does and is answered
  pub may_leave : (m : Machine (Elector S)) (T : Trails) (r : ℕ) (v : Receiving) → Reached X m T
      → slice_get m.receivers r ≡ Some v → v.gone ≡ false
      → ((why : StepFault) → ¬ Refused m (Gone r) why)
      × ((new : Machine (Elector S)) × Happens X m (Gone r) answer.Gone new)
  -- nobody leaves but by a leave of its own
  pub goes_on : (old new : Machine (Elector S)) (events : List Event) (r : ℕ)
      → AllAnswered X P old events new → All (λ e. e ≢ Gone r) events
      → has_left new r ≡ has_left old r

-- what is no such thing
pub record LeaveRefuses {E : Type 0} (X : Election E) : Type 0 where
  -- a leave that does nothing
  pub idle_leave : (m : Machine E) (r : ℕ) (a : Answer) → ¬ Happens X m (Gone r) a m
  -- one after which the passed place does not show 2^64 - 1
  pub unshown_leave : (old new : Machine E) (r place : ℕ) (v : Receiving) (a : Answer)
      → slice_get old.receivers r ≡ Some v → v.passed_at ≡ Some place
      → slice_index new.words place ≢ PASSED_ALL → ¬ Happens X old (Gone r) a new
  -- a turn or a second leave of a receiver that has left
  pub late_turn : (old new : Machine E) (r : ℕ) (a : Answer) → has_left old r ≡ true
      → ¬ Happens X old (Recv r) a new
  pub second_leave : (old new : Machine E) (r : ℕ) (a : Answer) → has_left old r ≡ true
      → ¬ Happens X old (Gone r) a new
  -- the fault Gone of a receiver that has not left, or that there is not
  pub recv_untimely : (m : Machine E) (r : ℕ) → has_left m r ≡ false
      → ¬ Refused m (Recv r) fault.Gone
  pub leave_untimely : (m : Machine E) (r : ℕ) → has_left m r ≡ false
      → ¬ Refused m (Gone r) fault.Gone
