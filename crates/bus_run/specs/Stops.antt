-- Which fault a run answers with.
use Rattle.std.specs.Prelude.{◌≡◌, ◌≢◌, ◌⊎◌, ◌<◌, ◌≤◌, ℕ, ⊤, Bool, true, false, Option, None, Some}
use Rattle.std.specs.Prelude.{List, All, length, take, slice_get}
use Rattle.std.specs.List.{list_any}
use Rattle.bus_register.specs.declared.limits.TheConstants.{MOST_SENDERS}
use Rattle.bus_batch.specs.Frames.{Order}
use Rattle.bus_deliverylog.specs.Orders.{of_sender}
use Rattle.bus_pageslot.specs.Seats.{SenderSeat, actions_of}
use Rattle.bus_pageslot.specs.Outcomes.{Outcome}
use Rattle.bus_receiver.specs.Hearing.{Hearing}
use Rattle.bus_world.specs.Headline.{puts}
use Rattle.bus_automaton.specs.declared.plans.Plan.{Plan}
use Rattle.bus_world.specs.declared.shapes.MakeFault.{MakeFault}
use Rattle.bus_world.specs.declared.shapes.Shape.{Shape}
use Rattle.bus_run.specs.Audit.{shape_of_run, OfOrder, IsSpelled, SendsEach, IsClosed, IsFirstFault}
use Rattle.bus_automaton.specs.ThreeWordBuses.{Held, process}
use Rattle.bus_run.specs.Left.{run_plan, RunServes, RunRefuses, batch_of, Shown, IsLeftBy}
use Rattle.bus_run.specs.Left.{IsLeftBehind, IsToldByAll}
use Rattle.bus_run.specs.Numbers.{numbers_below}
use Rattle.bus_run.specs.declared.audits.AuditFault.{AuditFault}
use Rattle.bus_run.specs.declared.audits.AuditFault.TheVariants.{Count, NotEnded, Left}
use Rattle.bus_run.specs.declared.faults.RunFault.{RunFault}
use Rattle.bus_run.specs.declared.faults.RunFault.TheVariants as run
use Rattle.bus_run.specs.declared.faults.SenderFault.{SenderFault}
use Rattle.bus_run.specs.declared.faults.SenderFault.TheVariants.{Gate, Stopped}

-- ---- workers that have ended
-- each has the number of its place
abbrev pub AreInOrder : {D : Type 0} → (D → ℕ) → List D → Type 0
AreInOrder {D} number send_workers =
    (k : ℕ) (d : D) → slice_get send_workers k ≡ Some d → number d ≡ k

-- all senders have come back, in order, and all receivers, and there is one of each
pub record IsWhole {D E : Type 0} (number : D → ℕ) (shape : Shape) (send_workers : List D)
    (receive_workers : List E) : Type 0 where
  pub all_send : length send_workers ≡ shape.senders
  pub in_order : AreInOrder number send_workers
  pub all_hear : length receive_workers ≡ shape.receivers
  pub one_hears : 0 < shape.receivers
  pub one_sends : 0 < shape.senders

abbrev pub is_gate : Option SenderFault → Bool
is_gate (Some Gate) = true
is_gate other = false

-- some sender noted that a gate let it not through
abbrev pub has_gate : {D : Type 0} → (D → Option SenderFault) → List D → Bool
has_gate noted send_workers = list_any (λ d. is_gate (noted d)) send_workers

-- nothing stopped a sender
abbrev pub AreUnstopped : {D : Type 0} → (D → Option SenderFault) → List D → Type 0
AreUnstopped noted send_workers = All (λ d. noted d ≡ None) send_workers

-- what stopped the senders: a gate before all else, and then the lowest that noted a stop
abbrev pub IsFirstStop : {D : Type 0} → (D → Option SenderFault) → List D → RunFault → Type 0
IsFirstStop noted send_workers run.Gate = has_gate noted send_workers ≡ true
IsFirstStop {D} noted send_workers (run.Stopped s) =
    (has_gate noted send_workers ≡ false) × AreUnstopped noted (take s send_workers) × (d : D)
    × (slice_get send_workers s ≡ Some d) × (noted d ≡ Some Stopped)
IsFirstStop noted send_workers other = ⊥

-- ---- all the workers, of which no sender was stopped
-- a sender has put just the numbers below this one, and none of them waits
abbrev pub HasSent : ℕ → SenderSeat Held → Type 0
HasSent messages s =
    (length (batch_of s).messages ≡ 0) × (puts (actions_of process s) ≡ numbers_below messages)

-- the lowest that has not sent all
abbrev pub IsFirstUnsent : {D : Type 0} → (D → Type 0) → List D → ℕ → Type 0
IsFirstUnsent {D} Sent send_workers s =
    All Sent (take s send_workers) × (d : D) × (slice_get send_workers s ≡ Some d) × (Sent d → ⊥)

-- A bus of this plan was ended by a seat of which this is true, and its page was not at home.
pub record LeavesNoPage (plan : Plan) (Ends : Shown → Type 0) : Type 0 where
  pub seen : Shown
  pub ends : Ends seen
  pub log : List ℕ
  pub left : IsLeftBy plan seen log None

-- It was ended by such a seat, with its page at home, and left words that spell an order, of which
-- this is true.
pub record LeavesOrder (plan : Plan) (Ends : Shown → Type 0) (P : Order → Type 0) : Type 0 where
  pub left : Outcome
  pub senders : left.senders ≡ plan.shape.senders
  pub behind : IsLeftBehind plan left
  pub ends : Ends behind.seen
  pub spelled : IsSpelled left
  pub holds : OfOrder left P

-- the order has not ended
abbrev pub IsOpen : Order → Type 0
IsOpen order = order.ended ≡ false

-- the order has ended and has so many items of each sender below this one, and of this one it has
-- not
abbrev pub IsFirstMiscount : ℕ → ℕ → Order → Type 0
IsFirstMiscount s messages order =
    IsClosed order × SendsEach s messages order × (length (of_sender s order) ≢ messages)

-- all of so many senders have sent all, the order has ended and says so, and a receiver noted
-- something else, or a sender has left
abbrev pub IsFirstUnfair : ℕ → ℕ → List Hearing → AuditFault → Order → Type 0
IsFirstUnfair senders messages heards why order =
    IsClosed order × SendsEach senders messages order × IsFirstFault order heards why

-- Why a run with such workers did not end well, the first cause that holds: a sender has not sent
-- all; there was no room for what the receivers noted; the bus that the first receiver ended had
-- its page out, or an order that has not ended, which the first sender answers for; or what it left
-- is not what was sent, or not what was noted.
module _ {D : Type 0} (sender : D → SenderSeat Held) (shape : Shape) (messages room : ℕ)
    (send_workers : List D) (seats : List Shown) (heards : List Hearing) where
  abbrev pub Sent : D → Type 0
  Sent d = HasSent messages (sender d)

  abbrev pub Ends : Shown → Type 0
  Ends seen = IsToldByAll sender shape.senders messages send_workers seats seen

  -- all were sent, and the notes have room
  abbrev pub IsSentAndNoted : Type 0
  IsSentAndNoted = All Sent send_workers × (length heards ≤ room)

  abbrev pub IsLate : RunFault → Type 0
  IsLate run.NoMemory = All Sent send_workers × (room < length heards)
  IsLate (run.Stopped s) = (s < shape.senders) × (IsFirstUnsent Sent send_workers s
      ⊎ (IsSentAndNoted × (s ≡ 0)
      × (LeavesNoPage (run_plan shape) Ends ⊎ LeavesOrder (run_plan shape) Ends IsOpen))
      ⊎ (IsSentAndNoted × LeavesOrder (run_plan shape) Ends (IsFirstMiscount s messages)))
  IsLate (run.Audit why) =
      IsSentAndNoted
      × LeavesOrder (run_plan shape) Ends (IsFirstUnfair shape.senders messages heards why)
  IsLate other = ⊥

-- why the text of a report is not made
abbrev pub IsTextFault : Outcome → List Hearing → RunFault → Type 0
IsTextFault left heards run.NoMemory = ⊤
IsTextFault left heards (run.Audit why) = OfOrder left (λ order. IsFirstFault order heards why)
IsTextFault left heards other = ⊥

-- ---- a run
-- one of so many receivers, and a sender of a bus
abbrev pub IsNamed : ℕ → AuditFault → Type 0
IsNamed receivers (Count receiver sender) = (receiver < receivers) × (sender < MOST_SENDERS)
IsNamed receivers (NotEnded receiver) = receiver < receivers
IsNamed receivers (Left sender) = sender < MOST_SENDERS

-- what can go wrong once there is a bus of so many senders and receivers
abbrev pub IsStop : ℕ → ℕ → RunFault → Type 0
IsStop senders receivers run.NoMemory = ⊤
IsStop senders receivers run.Spawn = ⊤
IsStop senders receivers run.Gate = ⊤
IsStop senders receivers (run.Stopped s) = s < senders
IsStop senders receivers (run.Audit why) = IsNamed receivers why
IsStop senders receivers other = ⊥

-- A run that did not end well had no bus, for the first cause that holds, or went wrong on a bus of
-- a served shape.
abbrev pub IsRunFault : ℕ → ℕ → RunFault → Type 0
IsRunFault senders receivers fault =
    ((why : MakeFault) × (fault ≡ run.Make why) × RunRefuses (shape_of_run senders receivers) why)
    ⊎ (IsStop senders receivers fault × RunServes (shape_of_run senders receivers))
