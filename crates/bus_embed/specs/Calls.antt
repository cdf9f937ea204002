-- What calls of a sender and of a receiver answer, as numbers.
use Rattle.std.specs.Prelude.{◌≡◌, ℕ, ℤ, ◌+◌, ◌<◌, ◌≤◌, ◌⊎◌, Bool, true, false, List, [], ◌∷◌}
use Rattle.std.specs.Prelude.{◌++◌, None, Some, length, drop, map, Result, Err, IfOk, IfErr, OnOk}
use Rattle.std.specs.Prelude.{OnErr, IsSome}
use Rattle.std.specs.Ordering.{nat_cmp}
use Rattle.bus_register.specs.declared.registers.Op.{Op}
use Rattle.bus_adoptcommit.specs.ThreeWord.{kind_at, op_of, fed_of}
use Rattle.bus_adoptcommit.specs.ThreeWordKeeps.{three_word}
use Rattle.bus_batch.specs.Batches.{next_of, CanPut, IsPutFault, CanClose, IsCloseFault}
use Rattle.bus_batch.specs.declared.messages.Item.{Item}
use Rattle.bus_batch.specs.declared.messages.Mark.{Mark}
use Rattle.bus_batch.specs.declared.batches.PutFault.{PutFault}
use Rattle.bus_batch.specs.declared.batches.PutFault.TheVariants as put
use Rattle.bus_batch.specs.declared.batches.CloseFault.{CloseFault}
use Rattle.bus_deliverylog.specs.declared.receiving.RecvTurn.{RecvTurn}
use Rattle.bus_deliverylog.specs.Receiving.{recv_goes_on}
use Rattle.bus_tenure.specs.Core.{is_closed}
use Rattle.bus_tenure.specs.declared.turns.Turn.{Turn}
use Rattle.bus_core.specs.Seen.{tenure_begun}
use Rattle.bus_core.specs.Telling.{FeedTells, RestTells}
use Rattle.bus_world.specs.Headline.{HasPut, HasMarked, puts}
use Rattle.bus_pageslot.specs.Listening.{Hears, GoesOnTo}
use Rattle.bus_pageslot.specs.Looks.{LooksForRoom}
use Rattle.bus_pageslot.specs.Room.{Fits}
use Rattle.bus_pageslot.specs.Rule.{Sat, receiver_view_in, known_in, table_layout_in}
use Rattle.bus_pageslot.specs.Seats.{SenderSeat, TookAndTold, table_of, first_number_of}
use Rattle.bus_pageslot.specs.Seats.{actions_of, stored_of}
use Rattle.bus_pageslot.specs.Sendings.{waiting_of, Carries, CarryRefused}
use Rattle.bus_pageslot.specs.Turns.{Tellings, tells_with, TakesUpTo}
use Rattle.bus_receiver.specs.Forking.{HasForked, FindsNoSeat}
use Rattle.bus_receiver.specs.HearingRuns.{item_in}
use Rattle.bus_receiver.specs.Listening.{IsTold, HaveMet}
use Rattle.bus_handles.specs.Handles.{SeatOfBus}
use Rattle.bus_embed.specs.declared.codes.TheConstants as code
use Rattle.bus_embed.specs.declared.answers.TurnAnswer.{TurnAnswer}
use Rattle.bus_embed.specs.declared.answers.HeardItem.{HeardItem}
use Rattle.bus_embed.specs.declared.answers.HeardAnswer.{HeardAnswer}
use Rattle.bus_embed.specs.declared.senders.SenderShown.{SenderShown}
use Rattle.bus_embed.specs.declared.receivers.ReceiverShown.{ReceiverShown}
use Rattle.bus_embed.specs.Answers.{turn_code, heard_code, put_code, close_code, one_bus_code}
use Rattle.bus_embed.specs.Answers.{order_number, written, turn_answer, heard_answer, item_told}
use Rattle.bus_automaton.specs.ThreeWordBuses.{Held, process, automaton, election}
use Rattle.bus_automaton.specs.declared.plans.Plan.{Plan}

-- ---- a sender: what the calls of its handle promise, each in one
-- a put of these bytes came to this number, or to this fault
pub record Puts (old : SenderSeat Held) (bytes : List ℕ) (given : Result ℕ PutFault)
    (new : SenderSeat Held) : Type 0 where
  pub number : IfOk given (λ n. n ≡ next_of (process.queue old.core))
  pub counts : IfOk given
      (λ n. n ≡ first_number_of process old + length (puts (actions_of process old)))
  pub taken : OnOk given (new.core ≡ process.with_message old.core bytes)
  pub action : IfOk given
      (λ n. actions_of process new ≡ actions_of process old ++ HasPut n bytes ∷ [])
  pub could : OnOk given (CanPut (process.queue old.core) (length bytes))
  pub fault : IfErr given (IsPutFault (process.queue old.core) (length bytes))
  pub refused : OnErr given (new.core ≡ old.core)
  pub seat : new.seat ≡ old.seat

-- a close was taken, or a leave, by the mark that it asks for, or came to this fault
pub record Closes (asked : Mark) (old : SenderSeat Held) (given : Result (Unit {0}) CloseFault)
    (new : SenderSeat Held) : Type 0 where
  pub taken : OnOk given (new.core ≡ process.with_mark old.core asked)
  pub action : OnOk given (actions_of process new ≡ actions_of process old ++ HasMarked asked ∷ [])
  pub could : OnOk given (CanClose (process.queue old.core))
  pub fault : IfErr given (IsCloseFault (process.queue old.core))
  pub refused : OnErr given (new.core ≡ old.core)
  pub seat : new.seat ≡ old.seat

-- what waits with a sender was put into the batch of another, behind what waits there, or came to
-- this fault; to Busy where that sender has begun a tenure
pub record CarriesOn (from old : SenderSeat Held) (given : Result (Unit {0}) PutFault)
    (new : SenderSeat Held) : Type 0 where
  pub carried : OnOk given (Carries process from old new)
  pub begun : IsSome (tenure_begun from.core) → given ≡ Err put.Busy
  pub fault : IfErr given (CarryRefused process from old)
  pub refused : OnErr given (new.core ≡ old.core)
  pub seat : new.seat ≡ old.seat

-- what the answers of its turns tell
abbrev pub tells : Tellings Held
tells = tells_with (λ s. kind_at s.progress) (λ s word. op_of s) (λ s got word. fed_of s got)
    three_word

-- a turn with this random word was answered so
pub record Turns (old : SenderSeat Held) (word : ℕ) (turn : Turn) (new : SenderSeat Held) :
    Type 0 where
  pub table : table_of new ≡ table_of old
  pub rests : process.op old.core word ≡ None
      → (new ≡ old) × (turn ≡ process.rest old.core) × RestTells old.core turn
  pub steps : (op : Op) → process.op old.core word ≡ Some op
      → TookAndTold process (FeedTells election) old word turn new

-- ---- the same with the answer as a code; before is what a place had that the answer is written to
pub record PutAnswered (old : SenderSeat Held) (bytes : List ℕ) (answer before after : ℕ)
    (new : SenderSeat Held) : Type 0 where
  pub given : Result ℕ PutFault
  pub puts : Puts old bytes given new
  pub code : answer ≡ put_code given
  pub number : after ≡ written before given

pub record CloseAnswered (asked : Mark) (old : SenderSeat Held) (answer : ℕ)
    (new : SenderSeat Held) : Type 0 where
  pub given : Result (Unit {0}) CloseFault
  pub closes : Closes asked old given new
  pub code : answer ≡ close_code given

pub record CarryAnswered (from old : SenderSeat Held) (answer : ℕ) (new : SenderSeat Held) :
    Type 0 where
  pub given : Result (Unit {0}) PutFault
  pub carries : CarriesOn from old given new
  pub code : answer ≡ put_code given

pub record TurnAnswered (old : SenderSeat Held) (word answer : ℕ) (told : TurnAnswer)
    (new : SenderSeat Held) : Type 0 where
  pub turn : Turn
  pub turns : Turns old word turn new
  pub code : answer ≡ turn_code turn
  pub says : told ≡ turn_answer turn

-- of several turns, up to so many more
pub record TurnsAnswered (old : SenderSeat Held) (word more answer : ℕ) (told : TurnAnswer)
    (new : SenderSeat Held) : Type 0 where
  pub turn : Turn
  pub table : table_of new ≡ table_of old
  pub takes : TakesUpTo process tells old word more turn new
  pub code : answer ≡ turn_code turn
  pub says : told ≡ turn_answer turn

-- a look whether its batch has room: by what was found on tables of a bus of which the rule held,
-- it has some, or none; its seat shows what it looked at
abbrev pub HasLookedAs : SenderSeat Held → Bool → SenderSeat Held → Type 0
HasLookedAs old fits new = (plan : Plan) × LooksForRoom process (automaton plan) old fits new

-- Its answer: NEVER_FITS where the frame of its batch is longer than the log, and then nothing has
-- changed; and by a look where it is not.
pub record RoomAnswered (old : SenderSeat Held) (answer : ℕ) (new : SenderSeat Held) : Type 0 where
  pub table : table_of new ≡ table_of old
  pub fits : Fits process old.core → ((answer ≡ code.OK) × HasLookedAs old true new)
      ⊎ ((answer ≡ code.FULL) × HasLookedAs old false new)
  pub never : ¬ Fits process old.core → (answer ≡ code.NEVER_FITS) × (new ≡ old)

-- what it shows
pub record ShowsSender (s : SenderSeat Held) (shown : SenderShown) : Type 0 where
  pub pending : shown.pending ≡ length (waiting_of process s)
  pub next_number : shown.next_number ≡ next_of (process.queue s.core)
  pub words : shown.words ≡ stored_of s
  pub turns_left : shown.turns_left ≡ process.turns_left s.core
  pub number : shown.number ≡ process.me s.core
  pub closed : shown.is_closed ≡ is_closed (process.queue s.core).phase
  pub wants_word : shown.wants_word ≡ process.wants_word s.core

-- ---- a receiver
pub record HeardOnce (old : Sat Held) (answer : ℕ) (told : HeardAnswer) (new : Sat Held) :
    Type 0 where
  pub turn : RecvTurn
  pub hears : Hears old turn new
  pub code : answer ≡ heard_code turn
  pub says : told ≡ heard_answer turn

-- So many looks gave these items and led from one seat to another. A look is some turns, or none,
-- that took words which say nothing by themselves, and one turn more. Each was begun while there
-- was room for an item behind those before, and its last turn was answered so that more may be
-- there.
pub data HearsOn (first : Sat Held) (room : ℕ) : ℕ → List Item → Sat Held → Type 0 where
  Here : HearsOn first room 0 [] first
  More : (n : ℕ) (items : List Item) (old at : Sat Held) (answer : RecvTurn) (new : Sat Held)
      → HearsOn first room n items old → length items < room → GoesOnTo old at
      → Hears at answer new → recv_goes_on answer ≡ true
      → HearsOn first room (n + 1) (items ++ item_in answer) new

-- At most so many such looks, and what ended them: there was no more room, or all looks were taken,
-- which is answered Going; or one more look, which is one of so many too, and for which there was
-- room, and its last turn was answered Empty or End.
pub data Hearing (first : Sat Held) (room looks : ℕ) : List Item → ℕ → Sat Held → Type 0 where
  Fills : (n : ℕ) (items : List Item) (new : Sat Held) → HearsOn first room n items new → n ≤ looks
      → (length items ≡ room) ⊎ (n ≡ looks) → Hearing first room looks items code.GOING new
  Stops : (n : ℕ) (items : List Item) (old at : Sat Held) (answer : RecvTurn) (new : Sat Held)
      → HearsOn first room n items old → length items < room → n < looks → GoesOnTo old at
      → Hears at answer new → recv_goes_on answer ≡ false
      → Hearing first room looks items (heard_code answer) new

-- the same with the items written over the first places of a list
pub record HearsInto (old : Sat Held) (before : List HeardItem) (looks many answer : ℕ)
    (after : List HeardItem) (new : Sat Held) : Type 0 where
  pub items : List Item
  pub hears : Hearing old (length before) looks items answer new
  pub many_are : many ≡ length items
  pub written : after ≡ map item_told items ++ drop many before

-- what it shows
pub record ShowsReceiver (m : Sat Held) (shown : ReceiverShown) : Type 0 where
  pub known : shown.known ≡ length (known_in m.0)
  pub place : shown.place ≡ (receiver_view_in m.0).place
  pub ended : shown.has_ended ≡ (receiver_view_in m.0).ended
  pub passed : shown.passed ≡ (receiver_view_in m.0).passed
  -- 0 of a bus that is no ring
  pub never : (table_layout_in m.0).passers ≡ 0 → shown.passed ≡ 0

-- Why it made no other one: NO_SEAT, as each number of its ring above its own was found taken; or
-- NO_MEMORY, and then nothing has changed.
abbrev pub IsForkFault : SeatOfBus Held → SeatOfBus Held → ℕ → Type 0
IsForkFault old new fault = ((fault ≡ code.NO_SEAT) × FindsNoSeat old.me new.me)
    ⊎ ((fault ≡ code.NO_MEMORY) × (new ≡ old))

-- it made another one of this bus, or came to this fault
pub record Forks (old : SeatOfBus Held) (given : Result (SeatOfBus Held) ℕ) (new : SeatOfBus Held) :
    Type 0 where
  pub bus : IfOk given (λ made. made.bus ≡ old.bus)
  pub made : IfOk given (λ made. HasForked old.me made.me new.me)
  pub fault : IfErr given (IsForkFault old new)

-- ---- two handles, of one bus or not
-- a receiver was told by a sender, which stayed as it was
pub record IsToldBy (sender : SenderSeat Held) (old : Sat Held) (sender' : SenderSeat Held)
    (new : Sat Held) : Type 0 where
  pub told : IsTold process sender.core (actions_of process sender) (stored_of sender) old new
  pub core : sender'.core ≡ sender.core
  pub me : sender'.seat.me ≡ sender.seat.me
  pub table : table_of sender' ≡ table_of sender

-- of one bus it was told, and of two neither changed
abbrev pub Tells : Bool → SenderSeat Held → Sat Held → SenderSeat Held → Sat Held → Type 0
Tells true sender old sender' new = IsToldBy sender old sender' new
Tells false sender old sender' new = (sender' ≡ sender) × (new ≡ old)

pub record TellAnswered (of_one_bus : Bool) (sender : SenderSeat Held) (old : Sat Held) (answer : ℕ)
    (sender' : SenderSeat Held) (new : Sat Held) : Type 0 where
  pub tells : Tells of_one_bus sender old sender' new
  pub code : answer ≡ one_bus_code of_one_bus

-- two receivers of one bus met, and how far each had read is compared; of two nothing changed
abbrev pub Meets : Bool → Sat Held → Sat Held → ℤ → ℤ → Sat Held → Sat Held → Type 0
Meets true old theirs before after new theirs' =
    HaveMet old theirs new theirs'
    × (after
    ≡ order_number (nat_cmp (receiver_view_in old.0).place (receiver_view_in theirs.0).place))
Meets false old theirs before after new theirs' =
    (new ≡ old) × (theirs' ≡ theirs) × (after ≡ before)

pub record MeetAnswered (of_one_bus : Bool) (old theirs : Sat Held) (answer : ℕ) (before after : ℤ)
    (new theirs' : Sat Held) : Type 0 where
  pub meets : Meets of_one_bus old theirs before after new theirs'
  pub code : answer ≡ one_bus_code of_one_bus
