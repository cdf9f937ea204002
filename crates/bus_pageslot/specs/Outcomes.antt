-- What a bus leaves behind.
use Rattle.std.specs.Prelude.{◌≡◌, ℕ, ◌+◌, ◌<◌, ◌≤◌, true, List, Some, length, slice_get}
use Rattle.std.specs.Prelude.{slice_index}
use Rattle.bus_register.specs.declared.limits.TheConstants.{MOST_SENDERS}
use Rattle.bus_register.specs.declared.registers.SenderNo.{SenderNo}
use Rattle.bus_batch.specs.declared.messages.Item.{Item}
use Rattle.bus_batch.specs.Frames.{Order, Spells, has_gone}
use Rattle.bus_deliverylog.specs.Orders.{of_sender}
use Rattle.bus_tenure.specs.declared.pages.Page.{Page}

-- how many senders it had, the numbers that it began with, the place from which on the words of its
-- log stand, these words up to the length, and its page
pub record Outcome : Type 0 where
  pub senders : ℕ
  pub bases : List ℕ
  pub floor : ℕ
  pub log : List ℕ
  pub page : Page

-- A page knows a whole order, of a sitting whose numbers begin with these: the next number of each
-- sender behind it, which senders have left in it, and whether it has ended.
pub record KnowsWhole (base : ℕ → ℕ) (page : Page) (order : Order) : Type 0 where
  pub next : (s : ℕ) → s < MOST_SENDERS
      → slice_index page.next s ≡ base s + length (of_sender s order)
  pub left : (s : ℕ) → s < MOST_SENDERS → slice_get page.left s ≡ Some (has_gone s order)
  pub ended : page.ended ≡ order.ended

-- A page knows an order of which this is the last part: each sender's items here have its last
-- numbers, who has left here has left, and what has ended here has ended.
pub record KnowsRest (base : ℕ → ℕ) (page : Page) (order : Order) : Type 0 where
  pub numbered : (s k : ℕ) (i : Item) → s < MOST_SENDERS
      → slice_get (of_sender s order) k ≡ Some i
      → i.number + length (of_sender s order) ≡ slice_index page.next s + k
  pub counts : (s : ℕ) → s < MOST_SENDERS
      → base s + length (of_sender s order) ≤ slice_index page.next s
  pub left : (s : ℕ) → s < MOST_SENDERS → has_gone s order ≡ true
      → slice_get page.left s ≡ Some true
  pub ended : order.ended ≡ true → page.ended ≡ true

-- The words that stand spell an order, and they spell one alone. It is the whole order where they
-- stand from the first one on, and else what its last frames say. The page knows of it, and how
-- many words there were in all; its floor is no further than where the words begin that stand; and
-- each frame is of one of the tenures that it counts.
pub record IsOutcome (z : Outcome) : Type 0 where
  pub order : Order
  pub owners : List (ℕ × SenderNo)
  pub spells : Spells z.senders z.log order owners
  pub words : z.page.words ≡ z.floor + length z.log
  pub floor : z.page.floor ≤ z.floor
  pub rest : KnowsRest (slice_index z.bases) z.page order
  pub whole : z.floor ≡ 0 → KnowsWhole (slice_index z.bases) z.page order
  pub tenures : (place t : ℕ) (o : SenderNo) → slice_get owners place ≡ Some (t, o)
      → t < z.page.tenures
