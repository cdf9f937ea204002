-- The frame of a batch.
use Rattle.std.proofs.Common.{◌≡◌, ℕ, ◌+◌, List, [], ◌∷◌, length, map, refl, sym, ap, arith}
use Rattle.std.proofs.lemmas.List.{length-map}
use Rattle.std.proofs.lemmas.Grind.{common_steps}
use Rattle.bus_register.specs.declared.registers.SenderNo.{SenderNo}
use Rattle.bus_batch.specs.Messages.{numbered_messages}
use Rattle.bus_batch.specs.declared.messages.Mark.TheVariants as mark
use Rattle.bus_batch.specs.Frames.{body_items, items_of, item_of, ends, leaves}
use Rattle.bus_batch.proofs.BatchLaws.{length-numbered}
use Rattle.bus_batch.specs.Batches.{Pending, IsKept, body_of, frame_of}
use Rattle.bus_batch.specs.declared.batches.Phase.{Phase}
use Rattle.bus_batch.specs.declared.batches.Phase.TheVariants.{Open, Marking, Closed}
use Rattle.bus_tenure.specs.Core.{is_closing, is_leaving}
use Rattle.bus_world.specs.Log.{AreCounted}

counted_items : (owner : SenderNo) (base : ℕ) (ms : List (List ℕ))
    → AreCounted base (map (item_of owner) (numbered_messages base ms))
counted_items owner base [] = tt
counted_items owner base (m ∷ ms) = (refl, counted_items owner (base + 1) ms)

counted_at : (ph : Phase) (q : Pending)
    → AreCounted q.first (body_items q.sender (body_of ph q.first q.messages))
counted_at Open q = counted_items q.sender q.first q.messages
counted_at (Marking m) q = tt
counted_at Closed q = counted_items q.sender q.first q.messages

-- its items count on from the batch's first number
pub counted_frame : (q : Pending) (t : ℕ) → AreCounted q.first (items_of (frame_of q t))
counted_frame q t = counted_at q.phase q

items_at : (ph : Phase) (q : Pending) → q.phase ≡ ph → IsKept q
    → length (body_items q.sender (body_of ph q.first q.messages)) ≡ length q.messages
items_at Open q e is = grind (arith, common_steps, length-map, length-numbered)
items_at (Marking m) q e is = sym (ap length (is.alone m e))
items_at Closed q e is = grind (arith, common_steps, length-map, length-numbered)

-- as many items as messages
pub length-items : (q : Pending) (t : ℕ) → IsKept q
    → length (items_of (frame_of q t)) ≡ length q.messages
length-items q t is = items_at q.phase q refl is

ends_at : (ph : Phase) (q : Pending) → ends (body_of ph q.first q.messages) ≡ is_closing ph
ends_at Open q = refl
ends_at (Marking mark.End) q = refl
ends_at (Marking mark.Leave) q = refl
ends_at Closed q = refl

pub ends-body : (q : Pending) → ends (body_of q.phase q.first q.messages) ≡ is_closing q.phase
ends-body q = ends_at q.phase q

leaves_at : (ph : Phase) (q : Pending) → leaves (body_of ph q.first q.messages) ≡ is_leaving ph
leaves_at Open q = refl
leaves_at (Marking mark.End) q = refl
leaves_at (Marking mark.Leave) q = refl
leaves_at Closed q = refl

pub leaves-body : (q : Pending) → leaves (body_of q.phase q.first q.messages) ≡ is_leaving q.phase
leaves-body q = leaves_at q.phase q
