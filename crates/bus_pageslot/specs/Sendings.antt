-- Messages that a sender puts and sends, in batches.
use Rattle.std.specs.Prelude.{◌≡◌, ℕ, ◌+◌, ◌<◌, ◌≤◌, ◌-◌, Bool, true, false, List, [], ◌∷◌, ◌++◌}
use Rattle.std.specs.Prelude.{length, take, slice_get, Option, Some, None, IsSome, ◌⊎◌}
use Rattle.bus_register.specs.declared.limits.TheConstants.{MOST_BYTES}
use Rattle.bus_batch.specs.Batches.{CanPut, IsPutFault, CanClose, next_of}
use Rattle.bus_batch.specs.declared.batches.PutFault.{PutFault}
use Rattle.bus_batch.specs.declared.batches.PutFault.TheVariants as put
use Rattle.bus_batch.specs.declared.messages.Mark.TheVariants as mark
use Rattle.bus_core.specs.Seen.{tenure_begun}
use Rattle.bus_core.specs.Senders.{Sender}
use Rattle.bus_tenure.specs.Core.{is_closing}
use Rattle.bus_tenure.specs.declared.turns.Turn.{Turn}
use Rattle.bus_tenure.specs.declared.turns.Turn.TheVariants as turn
use Rattle.bus_world.specs.Headline.{HasPut, HasMarked, puts}
use Rattle.bus_automaton.specs.Processes.{Process}
use Rattle.bus_pageslot.specs.Seats.{SenderSeat, actions_of}
use Rattle.bus_pageslot.specs.Steps.{puts_from}
use Rattle.bus_pageslot.specs.Turns.{Tellings, Sends}
use Rattle.bus_pageslot.specs.declared.seats.SendFault.{SendFault}
use Rattle.bus_pageslot.specs.declared.seats.SendFault.TheVariants as fault
use Rattle.bus_pageslot.specs.declared.seats.Unsent.{Unsent}
use Rattle.bus_tenure.specs.Classes.{is_refusal}

-- the messages that wait in its batch
abbrev pub waiting_of : {C : Type 0} → Process C → SenderSeat C → List (List ℕ)
waiting_of P s = (P.queue s.core).messages

-- a sender took these bytes into its batch, with no step
pub record Takes {C : Type 0} (P : Process C) (old : SenderSeat C) (bytes : List ℕ)
    (new : SenderSeat C) : Type 0 where
  pub could : CanPut (P.queue old.core) (length bytes)
  pub core : new.core ≡ P.with_message old.core bytes
  pub seat : new.seat ≡ old.seat
  pub action : actions_of P new ≡ actions_of P old ++ HasPut (next_of (P.queue old.core)) bytes ∷ []

-- ---- one batch
-- The same messages wait as before. Or this sender has ended the order, with the end mark that
-- waited: a close is taken only where no message waits, and no message is taken beside it.
abbrev pub KeptAfter : {C : Type 0} → Process C → SenderSeat C → Turn → SenderSeat C → Type 0
KeptAfter P old answer new =
    (waiting_of P new ≡ waiting_of P old)
    ⊎ ((answer ≡ turn.Closed) × (is_closing (P.queue old.core).phase ≡ true))

-- the batch was sent off: turns up to a last one, after which no message waits
pub record SendsOff {C : Type 0} (P : Process C) (T : Tellings C) (old new : SenderSeat C) :
    Type 0 where
  pub answer : Turn
  pub sends : Sends P T old answer new
  pub none : waiting_of P new ≡ []

-- the batch was not sent off: turns up to a last one, after which the same messages wait as before,
-- one at least
pub record Keeps {C : Type 0} (P : Process C) (T : Tellings C) (old : SenderSeat C) (answer : Turn)
    (new : SenderSeat C) : Type 0 where
  pub sends : Sends P T old answer new
  pub refused : is_refusal answer ≡ true
  pub waits : 0 < length (waiting_of P new)
  pub same : waiting_of P new ≡ waiting_of P old

-- this is why the batch was not sent off
abbrev pub KeepsFor : {C : Type 0} → Process C → Tellings C → SenderSeat C → SendFault
    → SenderSeat C → Type 0
KeepsFor P T old (fault.Put why) new = ⊥
KeepsFor P T old (fault.Turn answer) new = Keeps P T old answer new

-- ---- batches, one after another
-- how many messages its batch has at most
abbrev pub limit_of : {C : Type 0} → Process C → SenderSeat C → ℕ
limit_of P s = (P.queue s.core).limit

-- Puts of just these messages, in this order, led from one sender to another. It had sent off first
-- what waited before; and between the puts it sent off a batch where as many messages waited as it
-- may have, and nowhere else.
pub data FillsBatches {C : Type 0} (P : Process C) (T : Tellings C) (first : SenderSeat C) :
    List (List ℕ) → SenderSeat C → Type 0 where
  SentBefore : (new : SenderSeat C) → SendsOff P T first new → FillsBatches P T first [] new
  Put : (messages : List (List ℕ)) (old : SenderSeat C) (bytes : List ℕ) (new : SenderSeat C)
      → FillsBatches P T first messages old → Takes P old bytes new
      → FillsBatches P T first (messages ++ bytes ∷ []) new
  SentFull : (messages : List (List ℕ)) (old : SenderSeat C) (new : SenderSeat C)
      → FillsBatches P T first messages old → length (waiting_of P old) ≡ limit_of P old
      → SendsOff P T old new → FillsBatches P T first messages new

-- so it has put just these, behind what it had put before, and sent off what was left of them
pub record HasSent {C : Type 0} (P : Process C) (T : Tellings C) (first : SenderSeat C)
    (messages : List (List ℕ)) (new : SenderSeat C) : Type 0 where
  pub old : SenderSeat C
  pub fills : FillsBatches P T first messages old
  pub rest : SendsOff P T old new
  pub puts_are : puts (actions_of P new) ≡ puts (actions_of P first) ++ messages

-- ---- where it stops
-- a batch is to be sent off: it is full, or no message comes next
abbrev pub IsDue : {C : Type 0} → Process C → Option (List ℕ) → SenderSeat C → Type 0
IsDue P (Some bytes) s = length (waiting_of P s) ≡ limit_of P s
IsDue P None s = Unit {0}

-- the message that comes next was refused, where the batch has room for it and it is not too long
pub record Refuses {C : Type 0} (P : Process C) (s : SenderSeat C) (next : Option (List ℕ))
    (why : PutFault) : Type 0 where
  pub bytes : List ℕ
  pub next_is : next ≡ Some bytes
  pub short : length bytes ≤ MOST_BYTES
  pub room : length (waiting_of P s) < limit_of P s
  pub cause : IsPutFault (P.queue s.core) (length bytes) why

-- once it has put these messages it does not go on to the one that comes next, or to the end, and
-- this is why
abbrev pub StopsAt : {C : Type 0} → Process C → Tellings C → SenderSeat C → List (List ℕ)
    → Option (List ℕ) → SendFault → SenderSeat C → Type 0
StopsAt P T first messages next (fault.Put why) new =
    FillsBatches P T first messages new × Refuses P new next why
StopsAt {C} P T first messages next (fault.Turn answer) new =
    (old : SenderSeat C) × FillsBatches P T first messages old × IsDue P next old
    × Keeps P T old answer new

-- it stopped where so many of the messages were put: what waited before was not sent off, or it
-- does not go on
abbrev pub Stops : {C : Type 0} → Process C → Tellings C → SenderSeat C → List (List ℕ) → ℕ
    → SendFault → SenderSeat C → Type 0
Stops P T first messages count fault new =
    ((count ≡ 0) × KeepsFor P T first fault new)
    ⊎ StopsAt P T first (take count messages) (slice_get messages count) fault new

-- such a fault can be: a batch with room is full for no message, and no message is too long
abbrev pub can_come : SendFault → Bool
can_come (fault.Put put.Closed) = true
can_come (fault.Put put.Busy) = true
can_come (fault.Put put.TooLong) = false
can_come (fault.Put put.BatchFull) = false
can_come (fault.Turn answer) = is_refusal answer

-- of what waited before, and then these messages, the last ones wait, and those before them do not
pub record WaitsOf {C : Type 0} (P : Process C) (first : SenderSeat C) (messages : List (List ℕ))
    (new : SenderSeat C) : Type 0 where
  pub gone : List (List ℕ)
  pub waits : waiting_of P first ++ messages ≡ gone ++ waiting_of P new

-- so it has put the first of these messages, and no other; and it stopped where and why it says
pub record HasSentPart {C : Type 0} (P : Process C) (T : Tellings C) (first : SenderSeat C)
    (messages : List (List ℕ)) (unsent : Unsent) (new : SenderSeat C) : Type 0 where
  pub few : unsent.put ≤ length messages
  pub stops : Stops P T first messages unsent.put unsent.fault new
  pub can : can_come unsent.fault ≡ true
  pub puts_are : puts (actions_of P new) ≡ puts (actions_of P first) ++ take unsent.put messages
  pub waits : WaitsOf P first (take unsent.put messages) new
  pub sent_is : unsent.sent ≡ unsent.put - length (waiting_of P new)

-- ---- what was not sent, carried on
-- Takes of just these messages, in this order and with no step, led from one sender to another.
pub data TakesAll {C : Type 0} (P : Process C) (first : SenderSeat C) : List (List ℕ) → SenderSeat C
    → Type 0 where
  TakesNone : TakesAll P first [] first
  TakesMore : (messages : List (List ℕ)) (old : SenderSeat C) (bytes : List ℕ) (new : SenderSeat C)
      → TakesAll P first messages old
      → Takes P old bytes new → TakesAll P first (messages ++ bytes ∷ []) new

-- A sender took all that waits with another, behind what waited there, and nothing else: these
-- messages have the next numbers there.
pub record Carries {C : Type 0} (P : Process C) (from old new : SenderSeat C) : Type 0 where
  pub takes : TakesAll P old (waiting_of P from) new
  pub actions : actions_of P new
      ≡ actions_of P old ++ puts_from (next_of (P.queue old.core)) (waiting_of P from)
  pub waits : waiting_of P new ≡ waiting_of P old ++ waiting_of P from

-- some wait, and they fit beside what waits there
pub record MayFit {C : Type 0} (P : Process C) (from old : SenderSeat C) : Type 0 where
  pub some : 0 < length (waiting_of P from)
  pub room : length (waiting_of P old) + length (waiting_of P from) ≤ limit_of P old

-- why it took none of them: the sender that they wait with has begun a tenure, or they do not fit
-- there, or its batch takes no message at all
abbrev pub CarryRefused : {E : Type 0} → Process (Sender E) → (from old : SenderSeat (Sender E))
    → PutFault → Type 0
CarryRefused P from old put.Closed = MayFit P from old × IsPutFault (P.queue old.core) 0 put.Closed
CarryRefused P from old put.Busy =
    IsSome (tenure_begun from.core)
    ⊎ (MayFit P from old × IsPutFault (P.queue old.core) 0 put.Busy)
CarryRefused P from old put.TooLong = ⊥
CarryRefused P from old put.BatchFull =
    limit_of P old < length (waiting_of P old) + length (waiting_of P from)

-- ---- a close that is sent off at once
-- a sender took a close, with no step
pub record Closes {C : Type 0} (P : Process C) (old new : SenderSeat C) : Type 0 where
  pub could : CanClose (P.queue old.core)
  pub core : new.core ≡ P.with_mark old.core mark.End
  pub seat : new.seat ≡ old.seat
  pub action : actions_of P new ≡ actions_of P old ++ HasMarked mark.End ∷ []

-- it took a close, and then turns up to a last one, which answered so
pub record ClosesAndSends {C : Type 0} (P : Process C) (T : Tellings C) (old : SenderSeat C)
    (answer : Turn) (new : SenderSeat C) : Type 0 where
  pub closed : SenderSeat C
  pub closes : Closes P old closed
  pub sends : Sends P T closed answer new
