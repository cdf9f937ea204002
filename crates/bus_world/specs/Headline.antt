-- THE HEADLINE of the bus, said of what happened and of nothing else: of what each sender did and
-- what each receiver was answered, of one order, and of one list of tenures with their owners. No
-- words, no tables, no local states. Terms: total-order broadcast with FIFO order (Hadzilacos and
-- Toueg 1994), consensus (Aspnes 2010).
use Rattle.std.specs.Prelude.{◌≡◌, ◌≢◌, ℕ, ◌+◌, ◌<◌, Bool, true, false, Option, Some, List, []}
use Rattle.std.specs.Prelude.{◌∷◌, ◌++◌, length, map, take, flat_map, slice_get, All}
use Rattle.std.specs.List.{list_any}
use Rattle.bus_register.specs.declared.kinds.Kind.{Kind}
use Rattle.bus_register.specs.declared.kinds.Kind.TheVariants as kind
use Rattle.bus_register.specs.declared.registers.SenderNo.{SenderNo}
use Rattle.bus_batch.specs.declared.messages.Item.{Item}
use Rattle.bus_batch.specs.declared.messages.Mark.{Mark}
use Rattle.bus_batch.specs.declared.messages.Mark.TheVariants as mark
use Rattle.bus_batch.specs.Frames.{Order, Entry, Says, Leaves, sender_of}
use Rattle.bus_deliverylog.specs.Orders.{of_sender, IsPrefixOfOrder}
use Rattle.bus_deliverylog.specs.declared.receiving.RecvTurn.{RecvTurn}
use Rattle.bus_deliverylog.specs.declared.receiving.RecvTurn.TheVariants as recv
use Rattle.bus_tenure.specs.declared.turns.Turn.{Turn}

-- ---- what a sender did: a list of actions, the first first
pub data Action : Type 0 where
  -- a put of these bytes was accepted, and this number was its answer
  HasPut : (number : ℕ) → (bytes : List ℕ) → Action
  -- a mark was accepted: a close asks for the end mark, a leave for the leave mark
  HasMarked : Mark → Action
  -- A turn took a step on a word: in this tenure, if one was begun; what the step was for; the
  -- number that it found; the owner with which it ended the election of its tenure, if it did; and
  -- what the turn answered. A turn without a step is no action.
  Stepped : (tenure : Option ℕ) → Kind → (found : ℕ) → (chose : Option ℕ) → (answer : Turn) → Action

abbrev pub put_of : Action → List (List ℕ)
put_of (HasPut number bytes) = bytes ∷ []
put_of (HasMarked asked) = []
put_of (Stepped tenure k found chose answer) = []

-- the messages that it put, in its order
abbrev pub puts : List Action → List (List ℕ)
puts trail = flat_map put_of trail

-- it announced itself in tenure t
pub record Announced (trail : List Action) (t : ℕ) : Type 0 where
  pub place : ℕ
  pub found : ℕ
  pub chose : Option ℕ
  pub answer : Turn
  pub at : slice_get trail place ≡ Some (Stepped (Some t) kind.Announce found chose answer)

-- a step of it ended the election of tenure t with owner o
pub record Elected (trail : List Action) (t o : ℕ) : Type 0 where
  pub place : ℕ
  pub step : Kind
  pub found : ℕ
  pub answer : Turn
  pub at : slice_get trail place ≡ Some (Stepped (Some t) step found (Some o) answer)

-- by the step at this place of its trail it took the page of tenure t
pub record Took (trail : List Action) (t place : ℕ) : Type 0 where
  pub found : ℕ
  pub chose : Option ℕ
  pub answer : Turn
  pub at : slice_get trail place ≡ Some (Stepped (Some t) kind.TakePage found chose answer)

-- it asked for this mark: it closed, or it asked to leave
abbrev pub Asked : Mark → List Action → Type 0
Asked asked trail = (place : ℕ) × (slice_get trail place ≡ Some (HasMarked asked))

-- ---- what a receiver was answered: a list of answers, the first first
abbrev pub entry_heard : RecvTurn → List Entry
entry_heard recv.Going = []
entry_heard recv.Empty = []
entry_heard (recv.Head tenure owner) = []
entry_heard (recv.Item item) = Says item ∷ []
entry_heard (recv.Leave sender) = Leaves sender ∷ []
entry_heard recv.End = []

abbrev pub end_heard : RecvTurn → Bool
end_heard recv.Going = false
end_heard recv.Empty = false
end_heard (recv.Head tenure owner) = false
end_heard (recv.Item item) = false
end_heard (recv.Leave sender) = false
end_heard recv.End = true

abbrev pub head_heard : RecvTurn → List (ℕ × SenderNo)
head_heard recv.Going = []
head_heard recv.Empty = []
head_heard (recv.Head tenure owner) = (tenure, owner) ∷ []
head_heard (recv.Item item) = []
head_heard (recv.Leave sender) = []
head_heard recv.End = []

-- the order that it was given: the items and leave marks that were answered, and whether the end
-- was
abbrev pub order_given : List RecvTurn → Order
order_given trail = record {
  entries = flat_map entry_heard trail;
  ended = list_any end_heard trail;
}

-- the tenures and owners that were answered
abbrev pub heads : List RecvTurn → List (ℕ × SenderNo)
heads trail = flat_map head_heard trail

-- ---- orders
-- one list begins another
pub record IsPrefix {A : Type 0} (front whole : List A) : Type 0 where
  pub rest : List A
  pub together : front ++ rest ≡ whole

-- Each sender's items are numbered from its base, none skipped and none repeated, and their
-- messages are the first that it put, in its order (integrity, and FIFO order).
pub record Faithful (base : ℕ → ℕ) (order : Order) (put : ℕ → List (List ℕ)) : Type 0 where
  pub numbered : (s k : ℕ) (i : Item) → slice_get (of_sender s order) k ≡ Some i
      → i.number ≡ base s + k
  pub messages : (s : ℕ) → IsPrefix (map (λ i. i.message) (of_sender s order)) (put s)

-- Owners, entries and an end that belong to each other: each owner's frame has items of that owner
-- alone, one or more, or that it has left, and then no later frame is its own; the entries of all
-- frames follow one another; the frame of the end has none, and is the last.
pub data AreFramed : List (ℕ × SenderNo) → List Entry → Bool → Type 0 where
  Nothing : AreFramed [] [] false
  TheEnd : (t : ℕ) (o : SenderNo) → AreFramed ((t, o) ∷ []) [] true
  Batch : (t : ℕ) (o : SenderNo) (own : List Item) (owners : List (ℕ × SenderNo))
      (entries : List Entry) (ended : Bool) → 0 < length own → All (λ i. i.sender ≡ o) own
      → AreFramed owners entries ended
      → AreFramed ((t, o) ∷ owners) (map Says own ++ entries) ended
  LastOf : (t : ℕ) (o : SenderNo) (owners : List (ℕ × SenderNo)) (entries : List Entry)
      (ended : Bool)
      → All (λ p. p.1 ≢ o) owners → AreFramed owners entries ended
      → AreFramed ((t, o) ∷ owners) (Leaves o ∷ entries) ended

-- the sender whose frame is the last closed
pub record IsClosedByLast (actions : ℕ → List Action) (owners : List (ℕ × SenderNo)) : Type 0 where
  pub front : List (ℕ × SenderNo)
  pub tenure : ℕ
  pub owner : SenderNo
  pub last : owners ≡ front ++ (tenure, owner) ∷ []
  pub closed : Asked mark.End (actions owner.0)

-- ---- the promise, of the actions of each sender and the answers of each receiver, by number,
-- where a sender's first message has the number base s: 0, but in a sitting that goes on with the
-- numbers of another
pub record Promises (base : ℕ → ℕ) (actions : ℕ → List Action) (heard : ℕ → List RecvTurn)
    (order : Order) (owners : List (ℕ × SenderNo)) : Type 0 where
  -- 1. Each tenure has at most one owner: all who saw its election end, saw it end with the same
  -- sender, ..
  pub one_owner : (t s s' o o' : ℕ) → Elected (actions s) t o → Elected (actions s') t o' → o ≡ o'
  -- .. which had announced itself in that tenure.
  pub announced : (t s o : ℕ) → Elected (actions s) t o → Announced (actions o) t
  -- Whoever took the page of a tenure saw itself elected in it, and nobody else took it, nor it
  -- twice.
  pub took_own : (t s place : ℕ) → Took (actions s) t place → Elected (actions s) t s
  pub took_once : (t s s' place place' : ℕ) → Took (actions s) t place → Took (actions s') t place'
      → (s ≡ s') × (place ≡ place')
  -- 2. The listed owners took the pages of their tenures, and the tenures rise along the list.
  pub owned : (k t : ℕ) (o : SenderNo) → slice_get owners k ≡ Some (t, o)
      → (place : ℕ) × Took (actions o.0) t place
  pub rising : (j k t u : ℕ) (o p : SenderNo) → slice_get owners j ≡ Some (t, o)
      → slice_get owners k ≡ Some (u, p) → j < k → t < u
  -- 3. What each receiver was given is a prefix of the one order, and the heads that it was told
  -- are a prefix of the one list.
  pub delivered : (r : ℕ) → IsPrefixOfOrder (order_given (heard r)) order
  pub told : (r : ℕ) → IsPrefix (heads (heard r)) owners
  -- 4. Each sender's messages in the order are the first that it put, in its order, none skipped
  -- and none repeated.
  pub faithful : Faithful base order (λ s. puts (actions s))
  -- The number that an accepted message was answered is its sender's base and how many that had put
  -- before it.
  pub numbered : (s place number : ℕ) (bytes : List ℕ)
      → slice_get (actions s) place ≡ Some (HasPut number bytes)
      → number ≡ base s + length (puts (take place (actions s)))
  -- 5. Nothing follows the end: an order is its entries and whether it has ended, after the end a
  -- receiver is answered the end alone, ..
  pub silent : (r j k : ℕ) (answer : RecvTurn) → slice_get (heard r) j ≡ Some recv.End → j < k
      → slice_get (heard r) k ≡ Some answer → answer ≡ recv.End
  -- .. and an order that has ended was closed by the owner of its last frame.
  pub closed : order.ended ≡ true → IsClosedByLast actions owners
  -- Nothing of a sender follows its leave mark, ..
  pub gone : (s : SenderNo) (j k : ℕ) (e : Entry) → slice_get order.entries j ≡ Some (Leaves s)
      → j < k → slice_get order.entries k ≡ Some e
      → sender_of e ≢ s
  -- .. whoever has one in the order had asked to leave, ..
  pub asked : (s : SenderNo) (k : ℕ) → slice_get order.entries k ≡ Some (Leaves s)
      → Asked mark.Leave (actions s.0)
  -- .. and has all in it that it put.
  pub whole : (s : SenderNo) (k : ℕ) → slice_get order.entries k ≡ Some (Leaves s)
      → map (λ i. i.message) (of_sender s.0 order) ≡ puts (actions s.0)
  -- 6. The order's entries are those of the owners' frames, each frame's items its owner's.
  pub framed : AreFramed owners order.entries order.ended
