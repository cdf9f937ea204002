-- Histories of calls, and which of them are linearizable (Herlihy and Wing 1990).
use Rattle.std.specs.Prelude.{◌≡◌, ◌≢◌, ◌⊎◌, ℕ, ◌+◌, ◌*◌, ◌<◌, ◌≤◌, Bool, true, false, Some, List}
use Rattle.std.specs.Prelude.{[], ◌∷◌, ◌++◌, length, map, slice_get}
use Rattle.bus_batch.specs.declared.messages.Item.{Item}
use Rattle.bus_batch.specs.Frames.{Order, items_in}
use Rattle.bus_world.specs.Headline.{IsPrefix}
use Rattle.bus_replica.specs.Replicas.{Operations}
use Rattle.bus_replica.specs.Linearized.{IsLinearized, IsRead}

-- ---- calls
-- What a call did. It executed the operation of these bytes, which it put by this number, and
-- answered this; or it read, and showed this state.
pub data Did (S A : Type 0) : Type 0 where
  Executed : (number : ℕ) → (bytes : List ℕ) → (answer : A) → Did S A
  Read : (shown : S) → Did S A

abbrev pub is_execution : {S A : Type 0} → Did S A → Bool
is_execution (Executed number bytes answer) = true
is_execution (Read shown) = false

-- A call of this worker: it began behind the moment of the one number, and had returned by the
-- moment of the other.
pub record Call (S A : Type 0) : Type 0 where
  pub worker : ℕ
  pub began : ℕ
  pub returned : ℕ
  pub did : Did S A

-- ---- sequential histories
-- these operations, one after another, lead from the one state to the other, each with its answer
abbrev pub Runs : {S A : Type 0} → Operations S A → S → List (Item × A) → S → Type 0
Runs Applies old [] new = old ≡ new
Runs {S} Applies old (operation ∷ history) new =
    (next : S) × Applies old operation.0.sender.0 operation.0.message operation.1 next
    × Runs Applies next history new

-- the operations of a history, without their answers
abbrev pub operations_of : {A : Type 0} → List (Item × A) → List Item
operations_of {A} history = map (λ (h : Item × A). h.0) history

-- ---- points
-- Each call takes effect at one point of a sequential history. The point of the operation that i
-- operations stand before is 2 i + 1; the point between operations that i stand before is 2 i.
-- An execution: its operation stands at its point, with its answer.
pub record ExecutesAt {A : Type 0} (history : List (Item × A)) (worker number : ℕ) (bytes : List ℕ)
    (answer : A) (point : ℕ) : Type 0 where
  pub before : List (Item × A)
  pub item : Item
  pub after : List (Item × A)
  pub stands : history ≡ before ++ (item, answer) ∷ after
  pub worker_is : item.sender.0 ≡ worker
  pub number_is : item.number ≡ number
  pub bytes_are : item.message ≡ bytes
  pub point_is : point ≡ 2 * length before + 1

-- A read: it shows the state that the operations before its point lead to.
pub record ReadsAt {S A : Type 0} (Applies : Operations S A) (first : S)
    (history : List (Item × A)) (shown : S) (point : ℕ) : Type 0 where
  pub before : List (Item × A)
  pub after : List (Item × A)
  pub stands : history ≡ before ++ after
  pub leads : Runs Applies first before shown
  pub point_is : point ≡ 2 * length before

abbrev pub TakesEffectAt : {S A : Type 0} → Operations S A → S → List (Item × A) → ℕ → Did S A → ℕ
    → Type 0
TakesEffectAt Applies first history worker (Executed number bytes answer) point =
    ExecutesAt history worker number bytes answer point
TakesEffectAt Applies first history worker (Read shown) point =
    ReadsAt Applies first history shown point

-- the point of the one call is before that of the other; two reads may have the same
abbrev pub IsBefore : {S A : Type 0} → Did S A → Did S A → ℕ → ℕ → Type 0
IsBefore (Executed number bytes answer) did point other = point < other
IsBefore (Read shown) (Executed number bytes answer) point other = point < other
IsBefore (Read shown) (Read shown') point other = point ≤ other

-- ---- linearizable
-- There is one sequential history of the object, from a first state, whose operations begin these:
-- so it has no others, and none of them twice. Each call takes effect at a point of it: an
-- execution was answered what its operation answers there, and a read showed the state that is
-- there. No two executions have the same point. And the calls keep their order in time: where the
-- one had returned by the moment behind which the other began, its point is before the other's.
pub record IsLinearizable {S A : Type 0} (IsFirst : S → Type 0) (Applies : Operations S A)
    (operations : List Item) (calls : List (Call S A)) : Type 0 where
  pub first : S
  pub begins : IsFirst first
  pub history : List (Item × A)
  pub last : S
  pub legal : Runs Applies first history last
  pub taken : IsPrefix (operations_of history) operations
  -- of each call, by its place in the list
  pub point : ℕ → ℕ
  pub effect : (i : ℕ) (c : Call S A) → slice_get calls i ≡ Some c
      → TakesEffectAt Applies first history c.worker c.did (point i)
  pub alone : (i j : ℕ) (c d : Call S A) → slice_get calls i ≡ Some c → slice_get calls j ≡ Some d
      → is_execution c.did ≡ true → is_execution d.did ≡ true → point i ≡ point j → i ≡ j
  pub in_time : (i j : ℕ) (c d : Call S A) → slice_get calls i ≡ Some c → slice_get calls j ≡ Some d
      → c.returned ≤ d.began → IsBefore c.did d.did (point i) (point j)

-- ---- what is known of calls
-- moments, by number: the order of each begins those of the later ones
abbrev pub AreMoments : (ℕ → Order) → Type 0
AreMoments orders =
    (m n : ℕ) → m ≤ n → IsPrefix (items_in (orders m).entries) (items_in (orders n).entries)

-- between the orders of its two moments a call did as `execute` does, or as a read
abbrev pub IsDoneBetween : {S A : Type 0} → (S → Type 0) → Operations S A → Order → Order → ℕ
    → Did S A → Type 0
IsDoneBetween {S} IsFirst Applies earlier later worker (Executed number bytes answer) =
    (state : S) × IsLinearized IsFirst Applies earlier later worker number bytes answer state
IsDoneBetween IsFirst Applies earlier later worker (Read shown) =
    IsRead IsFirst Applies earlier later shown

-- each of these calls; and by this moment all of them had returned
pub record AreDoneBy {S A : Type 0} (IsFirst : S → Type 0) (Applies : Operations S A)
    (orders : ℕ → Order) (last : ℕ) (calls : List (Call S A)) : Type 0 where
  pub done : (i : ℕ) (c : Call S A) → slice_get calls i ≡ Some c
      → IsDoneBetween IsFirst Applies (orders c.began) (orders c.returned) c.worker c.did
  pub returned : (i : ℕ) (c : Call S A) → slice_get calls i ≡ Some c → c.returned ≤ last

-- a worker executes one operation after another
abbrev pub AreInTurn : {S A : Type 0} → List (Call S A) → Type 0
AreInTurn {S} {A} calls =
    (i j : ℕ) (c d : Call S A) → slice_get calls i ≡ Some c → slice_get calls j ≡ Some d → i ≢ j
    → is_execution c.did ≡ true → is_execution d.did ≡ true → c.worker ≡ d.worker
    → (c.returned ≤ d.began) ⊎ (d.returned ≤ c.began)

-- ---- what is refused, and what is not
-- of a counter, which each operation raises by one; it answers the count that it leaves
abbrev pub IsZero : ℕ → Type 0
IsZero count = count ≡ 0

abbrev pub Counts : Operations ℕ ℕ
Counts old worker bytes answer new = (answer ≡ old + 1) × (new ≡ old + 1)

-- the call at this place executed, and was answered this count; or it read, and showed this one
pub record ExecutedAs (calls : List (Call ℕ ℕ)) (i : ℕ) (c : Call ℕ ℕ) (count : ℕ) : Type 0 where
  pub number : ℕ
  pub bytes : List ℕ
  pub at : slice_get calls i ≡ Some c
  pub did : c.did ≡ Executed number bytes count

pub record ReadAs (calls : List (Call ℕ ℕ)) (i : ℕ) (c : Call ℕ ℕ) (count : ℕ) : Type 0 where
  pub at : slice_get calls i ≡ Some c
  pub did : c.did ≡ Read count

abbrev pub IsCounted : List Item → List (Call ℕ ℕ) → Type 0
IsCounted operations calls = IsLinearizable IsZero Counts operations calls

pub record HistoriesRefuse (operations : List Item) (calls : List (Call ℕ ℕ)) : Type 0 where
  -- a stale read: an execution had returned before it began, and it shows less than that answered
  pub stale_read : (i j : ℕ) (c d : Call ℕ ℕ) (answer shown : ℕ) → ExecutedAs calls i c answer
      → ReadAs calls j d shown → c.returned ≤ d.began → shown < answer
      → ¬ IsCounted operations calls
  -- a read ahead of its time: it had returned before an execution began, and shows that already
  pub early_read : (i j : ℕ) (c d : Call ℕ ℕ) (answer shown : ℕ) → ExecutedAs calls i c answer
      → ReadAs calls j d shown → d.returned ≤ c.began → answer ≤ shown
      → ¬ IsCounted operations calls
  -- a read that goes back: another had returned before it began, and it shows less than that
  pub read_back : (i j : ℕ) (c d : Call ℕ ℕ) (shown later : ℕ) → ReadAs calls i c shown
      → ReadAs calls j d later → c.returned ≤ d.began → later < shown
      → ¬ IsCounted operations calls
  -- a lost operation: two executions with the same answer, as if one had not been
  pub lost_operation : (i j : ℕ) (c d : Call ℕ ℕ) (answer : ℕ) → i ≢ j → ExecutedAs calls i c answer
      → ExecutedAs calls j d answer → ¬ IsCounted operations calls
  -- an answer of another place: an execution had returned before another began, and that answers
  -- as if it stood before it
  pub other_place : (i j : ℕ) (c d : Call ℕ ℕ) (answer later : ℕ) → ExecutedAs calls i c answer
      → ExecutedAs calls j d later → c.returned ≤ d.began → later ≤ answer
      → ¬ IsCounted operations calls
  -- a foreign operation: an execution of one that is none of these
  pub foreign_operation : (i : ℕ) (c : Call ℕ ℕ) (answer : ℕ) (e : ExecutedAs calls i c answer)
      → ((place : ℕ) (item : Item) → slice_get operations place ≡ Some item
      → item.sender.0 ≡ c.worker → item.number ≡ e.number → ⊥)
      → ¬ IsCounted operations calls
  -- an operation from nowhere: a read shows one, and there was none
  pub from_nowhere : (i : ℕ) (c : Call ℕ ℕ) (shown : ℕ) → ReadAs calls i c shown
      → operations ≡ [] → 0 < shown → ¬ IsCounted operations calls
  -- one that was applied twice: a read shows more than one, and there was one
  pub applied_twice : (i : ℕ) (c : Call ℕ ℕ) (shown : ℕ) (item : Item) → ReadAs calls i c shown
      → operations ≡ item ∷ [] → 1 < shown → ¬ IsCounted operations calls

-- An execution of the only operation, which begins at the moment 0 and returns by this one; and a
-- read that begins at that one, and shows so many.
abbrev pub two_calls : Item → (reader returned began shown : ℕ) → List (Call ℕ ℕ)
two_calls item reader returned began shown =
    record {
      worker = item.sender.0;
      began = 0;
      returned = returned;
      did = Executed item.number item.message 1;
    }
    ∷ record { worker = reader; began = began; returned = began + 1; did = Read shown } ∷ []

pub record HistoriesAccept (item : Item) (reader : ℕ) : Type 0 where
  -- behind the execution a read shows one
  pub behind : IsCounted (item ∷ []) (two_calls item reader 1 1 1)
  -- beside it one or none
  pub beside : (shown : ℕ) → shown ≤ 1 → IsCounted (item ∷ []) (two_calls item reader 2 1 shown)
