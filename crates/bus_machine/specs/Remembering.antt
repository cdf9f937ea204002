-- What a sender goes by is so: by what happened its batch is closed or on its way, and the tenures
-- are past that it enters no more.
use Rattle.std.specs.Prelude.{◌≡◌, ◌≢◌, ◌⊎◌, ℕ, ◌+◌, ◌*◌, ◌<◌, ◌≤◌, true, false, Option, Some}
use Rattle.std.specs.Prelude.{None, List, length}
use Rattle.bus_batch.specs.Batches.{next_of, IsShut}
use Rattle.bus_batch.specs.Frames.{Order, Spells, has_gone}
use Rattle.bus_batch.specs.declared.batches.Phase.TheVariants.{Closed}
use Rattle.bus_batch.specs.declared.messages.Mark.{Mark}
use Rattle.bus_core.specs.Keeping.{queue_of}
use Rattle.bus_core.specs.Reusing.Telling.{HasPublished}
use Rattle.bus_core.specs.Seen.{tenure_begun}
use Rattle.bus_core.specs.Senders.{Sender}
use Rattle.bus_core.specs.declared.reuses.Reuse.{Reuse}
use Rattle.bus_register.specs.declared.registers.SenderNo.{SenderNo}
use Rattle.bus_tenure.specs.Core.{is_leaving}
use Rattle.bus_tenure.specs.Seen.{tenure_of}
use Rattle.bus_tenure.specs.declared.phases.Phase.TheVariants.{Resting}
use Rattle.bus_world.specs.Headline.{Action, Asked, Elected, puts}
use Rattle.bus_machine.specs.Machine.{Machine, base_of, stage_of}

-- the order that this log spells, which is all that was published, has ended
pub record HasEnded {E : Type 0} (m : Machine E) (log : List ℕ) : Type 0 where
  pub order : Order
  pub owners : List (ℕ × SenderNo)
  pub spelled : Spells m.layout.senders log order owners
  pub ended : order.ended ≡ true

-- sender s has left in the order that it spells
pub record HasLeftIt {E : Type 0} (m : Machine E) (log : List ℕ) (s : ℕ) : Type 0 where
  pub order : Order
  pub owners : List (ℕ × SenderNo)
  pub spelled : Spells m.layout.senders log order owners
  pub left : has_gone s order ≡ true

-- its leave mark is published, and the page not given back
pub record LeavesNow {E : Type 0} (v : Sender E) : Type 0 where
  pub tenure : ℕ
  pub published : HasPublished tenure v.core.phase
  pub leaves : is_leaving v.core.queue.phase ≡ true

-- by its actions sender s saw the election of this tenure end with another owner, at such a stage,
-- at which the tenure had opened
pub record HasLost (stage s : ℕ) (actions : List Action) (t : ℕ) : Type 0 where
  pub opened : 2 * t ≤ stage
  pub owner : ℕ
  pub elected : Elected actions t owner
  pub other : owner ≢ s

-- the tenure has ended, or sender s has lost it
abbrev pub IsPastFor : ℕ → ℕ → List Action → ℕ → Type 0
IsPastFor stage s actions t = (2 * t + 2 ≤ stage) ⊎ HasLost stage s actions t

-- no tenure is left to sender s: all have ended, or the last has been opened and s has lost it
abbrev pub NoneIsLeft : {E : Type 0} → Machine E → ℕ → List Action → Type 0
NoneIsLeft m s actions =
    (2 * m.layout.rows ≤ stage_of m)
    ⊎ ((t : ℕ) × (m.layout.rows ≡ t + 1) × HasLost (stage_of m) s actions t)

-- so many rows it uses again, where it does
abbrev pub rows_in : Option Reuse → Option ℕ
rows_in None = None
rows_in (Some r) = Some r.rows

-- it goes by its own number and by the layout of the machine, and marks its frames with that number
pub record IsItself {E : Type 0} (m : Machine E) (s : ℕ) (v : Sender E) : Type 0 where
  pub me : v.core.me ≡ s
  pub layout : v.core.layout ≡ m.layout
  pub marks : v.core.queue.sender.0 ≡ s

-- sender s, which is this one and has done this, where this was published
pub record Remembers {E : Type 0} (m : Machine E) (log : List ℕ) (s : ℕ) (v : Sender E)
    (actions : List Action) : Type 0 where
  -- it is who it is, and uses as many rows again as the machine
  pub is : IsItself m s v
  pub rows : rows_in v.reuse ≡ m.reuse
  -- its next message has the number of its base and how many it has put
  pub numbers : next_of v.core.queue ≡ base_of m s + length (puts actions)
  -- its batch is closed only once the order has ended, or the sender has left in it
  pub closed : v.core.queue.phase ≡ Closed → HasEnded m log ⊎ HasLeftIt m log s
  -- where the sender has left, its batch is closed, or the sender has yet to give the page back
  -- with its mark published
  pub gone : HasLeftIt m log s → (v.core.queue.phase ≡ Closed) ⊎ LeavesNow v
  -- once it has asked to close or to leave, nothing more is put into it
  pub asked : (mark : Mark) → Asked mark actions → IsShut v.core.queue
  -- each tenure below the first that it may enter has ended, or it has lost it
  pub past : (t : ℕ) → t < v.core.least → IsPastFor (stage_of m) s actions t
  -- a tenure that it has begun, be it by its pin, was opened, and so was the one that it is in
  pub begun : (t : ℕ) → tenure_begun v ≡ Some t → 2 * t ≤ stage_of m
  pub entered : (t : ℕ) → tenure_of v.core.phase ≡ Some t → 2 * t ≤ stage_of m
  -- its batch is on its way in a tenure, and at rest it is not
  pub busy : (t : ℕ) → tenure_of v.core.phase ≡ Some t → v.core.queue.busy ≡ true
  pub idle : v.core.phase ≡ Resting → v.core.queue.busy ≡ false
  -- A put, a close and a leave see its batch by queue_of. To them it is on its way just where a
  -- tenure is begun, be it by its pin: from the turn that begins one until the answer that ends it.
  pub seen_busy : (t : ℕ) → tenure_begun v ≡ Some t → (queue_of v.core.queue v.reuse).busy ≡ true
  pub seen_idle : tenure_begun v ≡ None → (queue_of v.core.queue v.reuse).busy ≡ false
