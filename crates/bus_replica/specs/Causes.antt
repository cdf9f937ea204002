-- Why a call of a replica is answered a fault.
use Rattle.std.specs.Prelude.{◌≡◌, ◌⊎◌, ℕ, ◌<◌, Bool, true, false, None, Result, Err}
use Rattle.bus_adoptcommit.specs.ThreeWord.{kind_at, op_of, fed_of}
use Rattle.bus_adoptcommit.specs.ThreeWordKeeps.{three_word}
use Rattle.bus_batch.specs.Batches.{IsShut, Pending}
use Rattle.bus_batch.specs.declared.batches.PutFault.{PutFault}
use Rattle.bus_batch.specs.declared.batches.PutFault.TheVariants as put
use Rattle.bus_deliverylog.specs.declared.receiving.RecvTurn.TheVariants as recv
use Rattle.bus_tenure.specs.declared.turns.Turn.{Turn}
use Rattle.bus_tenure.specs.declared.turns.Turn.TheVariants as turn
use Rattle.bus_core.specs.Seen.{tenure_begun}
use Rattle.bus_automaton.specs.Processes.{Process}
use Rattle.bus_automaton.specs.ThreeWordBuses.{Held}
use Rattle.bus_pageslot.specs.Listening.{Hears}
use Rattle.bus_pageslot.specs.Rule.{Sat}
use Rattle.bus_pageslot.specs.Seats.{SenderSeat}
use Rattle.bus_pageslot.specs.Turns.{Tellings, Turned, tells_with}
use Rattle.bus_replica.specs.Replicas.{Replicated, GoesOn, WorksOn, PutsStay, HaveAllLeft}
use Rattle.bus_replica.specs.Replicas.{has_heard_leave}
use Rattle.bus_replica.specs.declared.faults.Fault.{Fault}
use Rattle.bus_replica.specs.declared.faults.Fault.TheVariants as fault

-- what the answers of a worker's sender tell
abbrev pub tells : Tellings Held
tells = tells_with (λ s. kind_at s.progress) (λ s word. op_of s) (λ s got word. fed_of s got)
    three_word

-- ---- what was answered on the way from one replica to another
-- the receiver was answered the end
pub record HearsEnd {C : Type 0} (old new : Sat C) : Type 0 where
  pub before : Sat C
  pub goes_on : GoesOn old before
  pub last : Hears before recv.End new

-- a turn of the sender was answered so
pub record WasAnswered {C : Type 0} (P : Process C) (T : Tellings C) (leaves : Bool)
    (old : SenderSeat C) (answer : Turn) (new : SenderSeat C) : Type 0 where
  pub at : SenderSeat C
  pub word : ℕ
  pub after : SenderSeat C
  pub before : WorksOn P T leaves old at
  pub turned : Turned P T at word answer after
  pub behind : WorksOn P T leaves after new

-- the sender was to take a message or a mark, and its batch refused that, since it is shut
pub record WasShut {C : Type 0} (P : Process C) (T : Tellings C) (leaves : Bool)
    (old new : SenderSeat C) : Type 0 where
  pub at : SenderSeat C
  pub before : WorksOn P T leaves old at
  pub shut : IsShut (P.queue at.core)
  pub behind : WorksOn P T leaves at new

-- The order has ended, or this worker has left it: its receiver was answered the end; its sender
-- was answered that the order has ended or that it has left; or its sender was refused.
abbrev pub HasEnded : {C S : Type 0} → Process C → Tellings C → (leaves : Bool)
    → Replicated C S → Replicated C S → Type 0
HasEnded P T leaves old new =
    HearsEnd old.me new.me
    ⊎ (WasAnswered P T leaves old.sender turn.Closed new.sender
    ⊎ (((tenure : ℕ) × WasAnswered P T leaves old.sender (turn.Left tenure) new.sender)
    ⊎ WasShut P T leaves old.sender new.sender))

-- ---- a function that is asked whether to go on; Tells f told f' where a call of f may tell that,
-- and leaves f'
-- calls of it that told to go on
pub data SaysOn {F : Type 0} (Tells : F → Bool → F → Type 0) (first : F) : F → Type 0 where
  Unasked : SaysOn Tells first first
  SaidYes : (old new : F) → SaysOn Tells first old → Tells old true new → SaysOn Tells first new

-- and one that told to stop
pub record SaysStop {F : Type 0} (Tells : F → Bool → F → Type 0) (first : F) : Type 0 where
  pub asked : F
  pub before : SaysOn Tells first asked
  pub left : F
  pub told : Tells asked false left

-- ---- the fault of a call
-- each where its cause holds; where the operation is too long, and where it was told to stop, as
-- the call says
abbrev pub IsCause : {C S : Type 0} → Process C → Tellings C → (Long Stops : Type 0)
    → Replicated C S → Replicated C S → Fault → Type 0
IsCause P T Long Stops old new fault.TooLong = Long
IsCause P T Long Stops old new fault.Ended = HasEnded P T false old new
IsCause P T Long Stops old new fault.Spent =
    WasAnswered P T false old.sender turn.Spent new.sender
IsCause P T Long Stops old new fault.Stopped = Stops
IsCause P T Long Stops old new (fault.MissingWorker worker) = ⊥

-- why a batch takes no messages that are short: it is shut, or has no room for them now
abbrev pub RefusesPut : Pending → PutFault → Type 0
RefusesPut b put.Closed = IsShut b
RefusesPut b put.Busy = Unit {0}
RefusesPut b put.TooLong = ⊥
RefusesPut b put.BatchFull = Unit {0}

-- Of the call that finishes, of so many workers. It was told to stop before it was answered that
-- this worker has left, and of those before it it was.
pub record IsFirstMissing {C S : Type 0} (workers : ℕ) (new : Replicated C S) (worker : ℕ) :
    Type 0 where
  pub some : worker < workers
  pub missing : has_heard_leave new.me.0 worker ≡ false
  pub first : HaveAllLeft new.me.0 worker

abbrev pub IsEndCause : {C S : Type 0} → Process C → Tellings C → (Stops : Type 0)
    → (workers : ℕ) → Replicated C S → Replicated C S → Fault → Type 0
IsEndCause P T Stops workers old new fault.TooLong = ⊥
IsEndCause P T Stops workers old new fault.Ended = HasEnded P T false old new
IsEndCause P T Stops workers old new fault.Spent =
    WasAnswered P T true old.sender turn.Spent new.sender
IsEndCause P T Stops workers old new fault.Stopped = Stops
IsEndCause P T Stops workers old new (fault.MissingWorker worker) =
    Stops × IsFirstMissing workers new worker.0

-- It was told that the operation is too long, and is as it was: given, applied and put nothing.
pub record RefusesLong {S V : Type 0} (P : Process Held) (T : Tellings Held)
    (old : Replicated Held S) (result : Result V Fault) (new : Replicated Held S) : Type 0 where
  pub told : result ≡ Err fault.TooLong
  pub me : new.me ≡ old.me
  pub state : new.state ≡ old.state
  pub puts : PutsStay P T old.sender new.sender
  -- and where no tenure was begun it did nothing at all
  pub still : tenure_begun old.sender.core ≡ None → new.sender ≡ old.sender
