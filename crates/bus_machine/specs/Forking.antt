-- What a fork that is done keeps, and what none is.
use Rattle.std.specs.Prelude.{◌≡◌, ◌≢◌, ℕ, ◌≤◌, Bool, true, false, Some, None, List, []}
use Rattle.std.specs.Prelude.{slice_get, slice_index}
use Rattle.bus_batch.specs.Frames.{Order}
use Rattle.bus_deliverylog.specs.Receiving.{Receiving}
use Rattle.bus_register.specs.declared.registers.SenderNo.{SenderNo}
use Rattle.bus_tenure.specs.Core.{Election}
use Rattle.bus_machine.specs.Leaves.{has_left}
use Rattle.bus_machine.specs.Machine.{Machine, Trails, Reached, Forks, trails_joined, passed_by}
use Rattle.bus_machine.specs.Promise.{IsPromisedBy}

-- The trails that led to the old machine lead to the new one, with what was given to the maker for
-- what was given to the new receiver, and with what the last receiver of that number was given for
-- that of a number of nobody; and there is such a number. What was promised of the old machine is
-- promised of the new one, by the same order and the same owners of frames.
pub record KeepsForked {E : Type 0} (X : Election E) (old : Machine E) (T : Trails) (i j : ℕ)
    (new : Machine E) : Type 0 where
  pub reached : (n : ℕ) → slice_get old.receivers n ≡ None → T.heard n ≡ []
      → Reached X new (trails_joined i j n T)
  pub promised : (n : ℕ) (order : Order) (owners : List (ℕ × SenderNo))
      → slice_get old.receivers n ≡ None → T.heard n ≡ [] → IsPromisedBy X old T order owners
      → IsPromisedBy X new (trails_joined i j n T) order owners
  pub nobody : (n : ℕ) × (slice_get old.receivers n ≡ None) × (T.heard n ≡ [])

-- No fork is
pub record ForkRefuses (E : Type 0) : Type 0 where
  -- one to a number that is not above that of its maker
  pub downwards : (old new : Machine E) (i j : ℕ) (did : Bool) → j ≤ i → ¬ Forks old i j did new
  -- one of a receiver that has left
  pub left : (old new : Machine E) (i j : ℕ) (did : Bool) → has_left old i ≡ true
      → ¬ Forks old i j did new
  -- one that is done though the last receiver of that number has not left, or there is none
  pub taken : (old new : Machine E) (i j : ℕ) → has_left old j ≡ false
      → ¬ Forks old i j true new
  -- one that is not done though that has left
  pub free : (old new : Machine E) (i j : ℕ) → has_left old j ≡ true → ¬ Forks old i j false new
  -- one that is done and changes nothing
  pub idle : (m : Machine E) (i j : ℕ) → ¬ Forks m i j true m
  -- one that changes what its maker is, or another receiver
  pub others : (old new : Machine E) (i j r : ℕ) (did : Bool) → r ≢ j
      → slice_get new.receivers r ≢ slice_get old.receivers r → ¬ Forks old i j did new
  -- one after which the new receiver is at another place of the log than its maker, or has another
  -- part of a frame that is under way, or takes others for those that have left
  pub elsewhere : (old new : Machine E) (i j : ℕ) (maker made : Receiving)
      → slice_get old.receivers i ≡ Some maker → slice_get new.receivers j ≡ Some made
      → made.place ≢ maker.place → ¬ Forks old i j true new
  pub forgetful : (old new : Machine E) (i j : ℕ) (maker made : Receiving)
      → slice_get old.receivers i ≡ Some maker → slice_get new.receivers j ≡ Some made
      → made.frames ≢ maker.frames → ¬ Forks old i j true new
  -- one that shows another number in the new one's passed place than what its maker has passed
  pub unshown : (old new : Machine E) (i j place : ℕ) (maker : Receiving)
      → slice_get old.receivers i ≡ Some maker
      → passed_by old.layout old.reuse j ≡ Some place
      → slice_index new.words place ≢ maker.passed → ¬ Forks old i j true new
