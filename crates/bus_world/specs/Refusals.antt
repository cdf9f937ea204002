-- What the promise refuses: named wrong behaviours of which it is false, whatever else happened.
use Rattle.std.specs.Prelude.{◌≡◌, ◌≢◌, ℕ, ◌+◌, ◌<◌, ◌≤◌, Some, List, ◌∷◌, true, length, map}
use Rattle.std.specs.Prelude.{slice_get, take}
use Rattle.bus_register.specs.declared.registers.SenderNo.{SenderNo}
use Rattle.bus_batch.specs.declared.messages.Item.{Item}
use Rattle.bus_batch.specs.declared.messages.Mark.TheVariants as mark
use Rattle.bus_batch.specs.Frames.{Order, Entry, Says, Leaves, items_in}
use Rattle.bus_deliverylog.specs.Orders.{of_sender}
use Rattle.bus_deliverylog.specs.declared.receiving.RecvTurn.{RecvTurn}
use Rattle.bus_deliverylog.specs.declared.receiving.RecvTurn.TheVariants as recv
use Rattle.bus_world.specs.Headline.{Action, HasPut, puts, Announced, Elected, Took, Asked}
use Rattle.bus_world.specs.Headline.{order_given, heads, Promises}

-- of any actions and answers, with any order and owners, in a sitting that begins with any numbers
pub record PromiseRefuses (base : ℕ → ℕ) (actions : ℕ → List Action) (heard : ℕ → List RecvTurn)
    (order : Order) (owners : List (ℕ × SenderNo)) : Type 0 where
  -- senders saw one election end with two owners
  pub two_owners : (t s s' o o' : ℕ) → Elected (actions s) t o → Elected (actions s') t o' → o ≢ o'
      → ¬ Promises base actions heard order owners
  -- the owner never announced itself
  pub unannounced : (t s o : ℕ) → Elected (actions s) t o → ¬ Announced (actions o) t
      → ¬ Promises base actions heard order owners
  -- a page was taken by a sender that did not see itself elected
  pub unelected : (t s place : ℕ) → Took (actions s) t place → ¬ Elected (actions s) t s
      → ¬ Promises base actions heard order owners
  -- one page was taken twice, by two senders or by one
  pub taken_twice : (t s s' place place' : ℕ) → Took (actions s) t place
      → Took (actions s') t place' → ¬ ((s ≡ s') × (place ≡ place'))
      → ¬ Promises base actions heard order owners
  -- a later frame is of the same tenure as an earlier one, or of one before that
  pub tenure_not_rising : (j k t u : ℕ) (o p : SenderNo) → slice_get owners j ≡ Some (t, o)
      → slice_get owners k ≡ Some (u, p) → j < k → u ≤ t
      → ¬ Promises base actions heard order owners
  -- a put was answered another number than its sender's base and how many that had put before
  pub wrong_number : (s place number : ℕ) (bytes : List ℕ)
      → slice_get (actions s) place ≡ Some (HasPut number bytes)
      → number ≢ base s + length (puts (take place (actions s)))
      → ¬ Promises base actions heard order owners
  -- two receivers were given two entries at one place of their orders
  pub two_orders : (r r' k : ℕ) (e e' : Entry)
      → slice_get (order_given (heard r)).entries k ≡ Some e
      → slice_get (order_given (heard r')).entries k ≡ Some e' → e ≢ e'
      → ¬ Promises base actions heard order owners
  -- two receivers were told two tenures or owners at one place
  pub two_heads : (r r' k : ℕ) (h h' : ℕ × SenderNo) → slice_get (heads (heard r)) k ≡ Some h
      → slice_get (heads (heard r')) k ≡ Some h' → h ≢ h'
      → ¬ Promises base actions heard order owners
  -- a receiver was given an item of a sender twice, or a later one before an earlier one
  pub repeated : (r s j k : ℕ) (i i' : Item)
      → slice_get (of_sender s (order_given (heard r))) j ≡ Some i
      → slice_get (of_sender s (order_given (heard r))) k ≡ Some i' → j < k → i'.number ≡ i.number
      → ¬ Promises base actions heard order owners
  pub reversed : (r s j k : ℕ) (i i' : Item)
      → slice_get (of_sender s (order_given (heard r))) j ≡ Some i
      → slice_get (of_sender s (order_given (heard r))) k ≡ Some i' → j < k → i'.number < i.number
      → ¬ Promises base actions heard order owners
  -- one before it was skipped
  pub skipped : (r s k : ℕ) (i : Item) → slice_get (of_sender s (order_given (heard r))) k ≡ Some i
      → base s + k < i.number
      → ¬ Promises base actions heard order owners
  -- its number is below those of this sitting
  pub starts_anew : (r s k : ℕ) (i : Item)
      → slice_get (of_sender s (order_given (heard r))) k ≡ Some i → i.number < base s
      → ¬ Promises base actions heard order owners
  -- it is one more than the sender had put, or has another message than the sender had put there
  pub invented : (r s k : ℕ) (i : Item) → slice_get (of_sender s (order_given (heard r))) k ≡ Some i
      → length (puts (actions s)) ≤ k
      → ¬ Promises base actions heard order owners
  pub altered : (r s k : ℕ) (i : Item) (message : List ℕ)
      → slice_get (of_sender s (order_given (heard r))) k ≡ Some i
      → slice_get (puts (actions s)) k ≡ Some message → i.message ≢ message
      → ¬ Promises base actions heard order owners
  -- after the end a receiver was answered something else
  pub after_the_end : (r j k : ℕ) (answer : RecvTurn) → slice_get (heard r) j ≡ Some recv.End
      → j < k → slice_get (heard r) k ≡ Some answer
      → answer ≢ recv.End → ¬ Promises base actions heard order owners
  -- one was given the end, and another an entry behind all that the first was given
  pub short_of_the_end : (r r' k : ℕ) (e : Entry) → (order_given (heard r)).ended ≡ true
      → slice_get (order_given (heard r')).entries k ≡ Some e
      → length (order_given (heard r)).entries ≤ k → ¬ Promises base actions heard order owners
  -- the end was given, and no sender had closed
  pub unclosed : (r : ℕ) → (order_given (heard r)).ended ≡ true
      → ((s : ℕ) → ¬ Asked mark.End (actions s)) → ¬ Promises base actions heard order owners
  -- after a sender's leave mark an item of it was given, or its leave mark again
  pub after_leaving : (r j k : ℕ) (s : SenderNo) (i : Item)
      → slice_get (order_given (heard r)).entries j ≡ Some (Leaves s) → j < k
      → slice_get (order_given (heard r)).entries k ≡ Some (Says i) → i.sender ≡ s
      → ¬ Promises base actions heard order owners
  pub leaves_twice : (r j k : ℕ) (s : SenderNo)
      → slice_get (order_given (heard r)).entries j ≡ Some (Leaves s) → j < k
      → slice_get (order_given (heard r)).entries k ≡ Some (Leaves s)
      → ¬ Promises base actions heard order owners
  -- the leave mark was given of a sender that had not asked to leave, or of one that had put more
  -- messages than were given
  pub unasked_leave : (r k : ℕ) (s : SenderNo)
      → slice_get (order_given (heard r)).entries k ≡ Some (Leaves s)
      → ¬ Asked mark.Leave (actions s.0)
      → ¬ Promises base actions heard order owners
  pub left_behind : (r k : ℕ) (s : SenderNo)
      → slice_get (order_given (heard r)).entries k ≡ Some (Leaves s)
      → length (of_sender s.0 (order_given (heard r))) < length (puts (actions s.0))
      → ¬ Promises base actions heard order owners
  -- the item of the first frame is not its owner's, or the leave mark in it is another sender's
  pub foreign_item :
      (t : ℕ) (o : SenderNo) (rest : List (ℕ × SenderNo)) (i : Item) (later : List Entry)
      → owners ≡ (t, o) ∷ rest
      → order.entries ≡ Says i ∷ later → i.sender ≢ o → ¬ Promises base actions heard order owners
  pub foreign_leave : (t : ℕ) (o s : SenderNo) (rest : List (ℕ × SenderNo)) (later : List Entry)
      → owners ≡ (t, o) ∷ rest
      → order.entries ≡ Leaves s ∷ later → s ≢ o → ¬ Promises base actions heard order owners
  -- a sender that has left by the first frame has a later one, be it one of items or of the end
  pub goes_on_after_leaving :
      (t u k : ℕ) (o s : SenderNo) (rest : List (ℕ × SenderNo)) (later : List Entry)
      → owners ≡ (t, o) ∷ rest
      → order.entries ≡ Leaves s ∷ later → slice_get rest k ≡ Some (u, o)
      → ¬ Promises base actions heard order owners

-- Of a bus of which no sitting was before, the promise says that numbers count from 0.
pub record FromZero : Type 0 where
  pub items : (actions : ℕ → List Action) (heard : ℕ → List RecvTurn) (order : Order)
      (owners : List (ℕ × SenderNo)) → Promises (λ s. 0) actions heard order owners
      → (s k : ℕ) (i : Item) → slice_get (of_sender s order) k ≡ Some i → i.number ≡ k
  pub puts_are : (actions : ℕ → List Action) (heard : ℕ → List RecvTurn) (order : Order)
      (owners : List (ℕ × SenderNo)) → Promises (λ s. 0) actions heard order owners
      → (s place number : ℕ) (bytes : List ℕ)
      → slice_get (actions s) place ≡ Some (HasPut number bytes)
      → number ≡ length (puts (take place (actions s)))

-- Where nobody has asked to leave, the order is of items alone.
pub record ItemsAlone : Type 0 where
  pub entries : (base : ℕ → ℕ) (actions : ℕ → List Action) (heard : ℕ → List RecvTurn)
      (order : Order) (owners : List (ℕ × SenderNo))
      → Promises base actions heard order owners → ((s : ℕ) → ¬ Asked mark.Leave (actions s))
      → order.entries ≡ map Says (items_in order.entries)
