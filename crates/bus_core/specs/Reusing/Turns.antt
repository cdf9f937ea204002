-- What a participant holds, and parts of its turns by which the table of a sender goes: on which
-- word a step lies, what tenure it has begun, and what it answers.
use Rattle.std.specs.Prelude.{ℕ, true, Option, Some, None}
use Rattle.bus_register.specs.declared.registers.Op.{Op}
use Rattle.bus_register.specs.declared.registers.Op.TheVariants.{Load, Store, Add, Cas}
use Rattle.bus_register.specs.declared.registers.SenderNo.{SenderNo}
use Rattle.bus_batch.specs.Batches.{Pending}
use Rattle.bus_presence.specs.Reclaimers.{Reclaiming}
use Rattle.bus_presence.specs.Reclamation.{ReclamationSizes}
use Rattle.bus_presence.specs.declared.reclaimers.Behind.{Behind}
use Rattle.bus_presence.specs.declared.pins.Pin.{Pin}
use Rattle.bus_presence.specs.declared.pins.Pin.TheVariants.{Away, Announcing, Validating, Pinned}
use Rattle.bus_presence.specs.declared.pins.Pin.TheVariants.{Unpinning, Invalidated}
use Rattle.bus_tenure.specs.Core.{Core}
use Rattle.bus_tenure.specs.Seen.{tenure_of}
use Rattle.bus_tenure.specs.declared.turns.Turn.{Turn}
use Rattle.bus_tenure.specs.declared.turns.Turn.TheVariants as turn
use Rattle.bus_core.specs.Reusing.Participants.{sizes_with}
use Rattle.bus_core.specs.declared.reuses.Passing.{Passing}

-- what a participant holds
pub record Participant (E : Type 0) : Type 0 where
  pub core : Core E
  -- how far its pin of a tenure has come
  pub pin : Pin
  -- as the holder of a page it makes the row of the next tenure ready
  pub reclaimer : Option Reclaiming
  -- as the holder of a page it has loaded so many passed places
  pub passed : Passing
  -- who owns the tenure that it has lost and parts from
  pub lost : Option SenderNo
  -- how many rows there are
  pub rows : ℕ

abbrev pub sizes_of : {E : Type 0} → Participant E → ReclamationSizes
sizes_of v = sizes_with v.core.layout v.rows

-- ---- its steps
-- a step on the word that lies at another place
abbrev pub on_place : (ℕ → ℕ) → Op → Op
on_place place (Load at) = Load record { 0 = place at.0 }
on_place place (Store at x) = Store record { 0 = place at.0 } x
on_place place (Add at x) = Add record { 0 = place at.0 } x
on_place place (Cas at x y) = Cas record { 0 = place at.0 } x y

abbrev pub op_placed : (ℕ → ℕ) → Option Op → Option Op
op_placed place None = None
op_placed place (Some o) = Some (on_place place o)

-- the tenure that it has begun: from the load of the stage that was a tenure's which it may enter
abbrev pub tenure_begun_by : {E : Type 0} → Core E → Pin → Option ℕ
tenure_begun_by c Away = tenure_of c.phase
tenure_begun_by c (Announcing t) = Some t
tenure_begun_by c (Validating t) = Some t
tenure_begun_by c (Pinned t) = Some t
tenure_begun_by c (Unpinning t) = Some t
tenure_begun_by c (Invalidated t) = Some t

-- ---- its answers
-- The answer Lost comes once, with the step that clears the presence: the batch comes back then.
-- Likewise a sender that saw another tenure's stage answers Waiting with the step that clears its
-- presence.
abbrev pub answer_of_loss : ℕ → Option SenderNo → Turn
answer_of_loss t None = turn.Going
answer_of_loss t (Some o) = turn.Lost t o

-- the holder waits for the sender whose presence names the past tenure of the row
abbrev pub answer_of_reclaim : Option Behind → Turn
answer_of_reclaim None = turn.Going
answer_of_reclaim (Some b) = turn.Behind b.tenure record { 0 = b.sender }

-- ---- puts, marks and the page
-- its batch, which is on its way from the load of the stage that begins a tenure until the answer
-- that ends it
abbrev pub queue_seen : Pending → Pin → Pending
queue_seen q Away = q
queue_seen q (Announcing t) = record q { busy = true }
queue_seen q (Validating t) = record q { busy = true }
queue_seen q (Pinned t) = record q { busy = true }
queue_seen q (Unpinning t) = record q { busy = true }
queue_seen q (Invalidated t) = record q { busy = true }
