-- What receivers were given, and what of it still stands.
use Rattle.std.specs.Prelude.{◌≡◌, ◌≢◌, ℕ, ◌≤◌, Some, List, [], drop, take, slice_get}
use Rattle.bus_batch.specs.Frames.{Frame, Order, AreFrames, log_words, log_pieces, order_in}
use Rattle.bus_deliverylog.specs.Orders.{IsPrefixOfOrder}
use Rattle.bus_deliverylog.specs.Receiving.{Receiving}
use Rattle.bus_world.specs.Headline.{order_given}
use Rattle.bus_machine.specs.Machine.{Machine, Trails, floor_of}

-- It was given what the words below its place say that were published; and of that this order has
-- the items and leave marks of those that stand, from the floor of the log on. It has ended where
-- the receiver was answered the end, whatever stands.
pub record StillGiven {E : Type 0} (m : Machine E) (T : Trails) (r : ℕ) (order : Order) :
    Type 0 where
  pub receiver : Receiving
  pub there : slice_get m.receivers r ≡ Some receiver
  pub frames : List Frame
  pub lawful : AreFrames m.layout.senders frames
  pub words_are : log_words frames ≡ T.log
  pub given : order_given (T.heard r) ≡ order_in (take receiver.place (log_pieces frames))
  pub still : order.entries
      ≡ (order_in (drop (floor_of m) (take receiver.place (log_pieces frames)))).entries
  pub ended : order.ended ≡ (order_given (T.heard r)).ended

-- By all that was published, of which these are the frames, each receiver was given just what the
-- words say that stand before its place. So of two who has read less was given a beginning of what
-- the other was given; and from a fork on its maker and the new one were given the same, as far as
-- both have read.
pub record AreGivenAlike {E : Type 0} (m : Machine E) (T : Trails) : Type 0 where
  pub frames : List Frame
  pub lawful : AreFrames m.layout.senders frames
  pub words_are : log_words frames ≡ T.log
  pub given : (r : ℕ) (v : Receiving) → slice_get m.receivers r ≡ Some v
      → order_given (T.heard r) ≡ order_in (take v.place (log_pieces frames))
  pub alike : (r q : ℕ) (v w : Receiving) → slice_get m.receivers r ≡ Some v
      → slice_get m.receivers q ≡ Some w → v.place ≤ w.place
      → IsPrefixOfOrder (order_given (T.heard r)) (order_given (T.heard q))

-- and none were given alike
pub record GivenRefuse {E : Type 0} (m : Machine E) (T : Trails) : Type 0 where
  -- of which one was given something, and has read no word
  pub unread : (r : ℕ) (v : Receiving) → slice_get m.receivers r ≡ Some v → v.place ≡ 0
      → (order_given (T.heard r)).entries ≢ [] → ¬ AreGivenAlike m T
  -- of which two have read as many words, and were given two orders
  pub apart : (r q : ℕ) (v w : Receiving) → slice_get m.receivers r ≡ Some v
      → slice_get m.receivers q ≡ Some w → v.place ≡ w.place
      → order_given (T.heard r) ≢ order_given (T.heard q) → ¬ AreGivenAlike m T
