-- What is promised of no machine, whatever else happened: of each named wrong behaviour one
-- instance.
use Rattle.std.specs.Prelude.{◌≡◌, ◌≢◌, ℕ, ◌+◌, ◌*◌, ◌%◌, ◌<◌, ◌≤◌, Some, None, List, [], ◌∷◌, ◌++◌}
use Rattle.std.specs.Prelude.{length, slice_get}
use Rattle.bus_batch.specs.Frames.{Frame, AreFrames, items_of, log_words}
use Rattle.bus_core.specs.Keeping.{reclaimer_in}
use Rattle.bus_core.specs.Reusing.Keeping.{held_of}
use Rattle.bus_core.specs.Reusing.Participants.{sizes_with}
use Rattle.bus_core.specs.Senders.{Sender, Does, situation}
use Rattle.bus_core.specs.Table.{line_now}
use Rattle.bus_presence.specs.Reclamation.{row_of}
use Rattle.bus_register.specs.Words.{register}
use Rattle.bus_register.specs.declared.registers.Op.{Op}
use Rattle.bus_tenure.specs.Core.{Election}
use Rattle.bus_tenure.specs.Situations.{Elects}
use Rattle.bus_tenure.specs.declared.phases.Phase.TheVariants.{Electing}
use Rattle.bus_world.specs.Headline.{Elected, Took}
use Rattle.bus_machine.specs.Machine.{Machine, Trails, stage_of}
use Rattle.bus_machine.specs.Promise.{IsPromised}

-- with both kinds of rows
pub record OwnersRefuse {E : Type 0} (X : Election E) (m : Machine E) (T : Trails) : Type 0 where
  -- senders saw the election of one tenure end with two owners
  pub two_owners : (t s s' o o' : ℕ) → Elected (T.actions s) t o → Elected (T.actions s') t o'
      → o ≢ o' → ¬ IsPromised X m T
  -- an owner that is told did not take the page of its tenure
  pub owner_without_page : (t s : ℕ) → m.reuse ≡ None → slice_get m.owners t ≡ Some s
      → ((place : ℕ) → ¬ Took (T.actions s) t place) → ¬ IsPromised X m T

-- with so many rows that are used again
pub record RowsRefuse {E : Type 0} (X : Election E) (m : Machine E) (T : Trails) (rows : ℕ) :
    Type 0 where
  -- the election of a tenure runs of a sender that has taken no step of a pin
  pub enters_without_presence : (p : ℕ) (v : Sender E) (t : ℕ) (e : E)
      → slice_get m.senders p ≡ Some v → v.core.phase ≡ Electing t e → T.pins p ≡ []
      → ¬ IsPromised X m T
  -- elections of two tenures of one row run
  pub two_tenures_of_a_row : (p q : ℕ) (v w : Sender E) (t u : ℕ) (e f : E)
      → slice_get m.senders p ≡ Some v → v.core.phase ≡ Electing t e
      → slice_get m.senders q ≡ Some w → w.core.phase ≡ Electing u f → t % rows ≡ u % rows → t ≢ u
      → ¬ IsPromised X m T
  -- the next step of an election is on a word past the row of its tenure
  pub steps_past_the_row : (p t word : ℕ) (v : Sender E) (e : E) (o : Op)
      → slice_get m.senders p ≡ Some v → situation X v ≡ Does (Elects t e)
      → (line_now X v).op word ≡ Some o
      → row_of (sizes_with m.layout rows) t + m.layout.width ≤ register o → ¬ IsPromised X m T
  -- the page of a tenure is held after each row was used, and its holder reclaims none
  pub holds_without_reclaimer : (p : ℕ) (v : Sender E) (t : ℕ) → slice_get m.senders p ≡ Some v
      → held_of v.core.phase ≡ Some t
      → stage_of m ≡ 2 * t + 1 → rows ≤ t + 1 → reclaimer_in v.reuse ≡ None → ¬ IsPromised X m T

pub record PromiseRefuses {E : Type 0} (X : Election E) (m : Machine E) (T : Trails) : Type 0 where
  pub owners : OwnersRefuse X m T
  pub rows : (rows : ℕ) → m.reuse ≡ Some rows → RowsRefuse X m T rows
  -- a frame has more messages than a batch of the bus may have
  pub long_frame : (front rest : List Frame) (f : Frame)
      → AreFrames m.layout.senders (front ++ f ∷ rest) → log_words (front ++ f ∷ rest) ≡ T.log
      → m.layout.batch < length (items_of f) → ¬ IsPromised X m T
