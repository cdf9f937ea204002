-- Answers and faults as numbers, and what else an answer says.
use Rattle.std.specs.Prelude.{ℕ, ℤ, pos, negsuc, Bool, true, false, List, ◌++◌, length, take, drop}
use Rattle.std.specs.Prelude.{replicate, Result, Ok, Err}
use Rattle.std.specs.declared.cmp.Ordering.{Ordering}
use Rattle.std.specs.declared.cmp.Ordering.TheVariants.{Less, Equal, Greater}
use Rattle.bus_register.specs.declared.limits.TheConstants.{MOST_BYTES}
use Rattle.bus_batch.specs.declared.messages.Item.{Item}
use Rattle.bus_batch.specs.declared.batches.PutFault.{PutFault}
use Rattle.bus_batch.specs.declared.batches.PutFault.TheVariants as put
use Rattle.bus_batch.specs.declared.batches.CloseFault.{CloseFault}
use Rattle.bus_batch.specs.declared.batches.CloseFault.TheVariants as close
use Rattle.bus_deliverylog.specs.declared.receiving.RecvTurn.{RecvTurn}
use Rattle.bus_deliverylog.specs.declared.receiving.RecvTurn.TheVariants as heard
use Rattle.bus_tenure.specs.declared.turns.Turn.{Turn}
use Rattle.bus_tenure.specs.declared.turns.Turn.TheVariants as turn
use Rattle.bus_world.specs.declared.shapes.MakeFault.{MakeFault}
use Rattle.bus_world.specs.declared.shapes.MakeFault.TheVariants as make
use Rattle.bus_handles.specs.declared.answers.BusNotEnded.{BusNotEnded}
use Rattle.bus_handles.specs.declared.answers.BusNotEnded.TheVariants as left
use Rattle.bus_handles.specs.declared.answers.RingFault.{RingFault}
use Rattle.bus_handles.specs.declared.answers.RingFault.TheVariants as ring
use Rattle.bus_embed.specs.declared.codes.TheConstants as code
use Rattle.bus_embed.specs.declared.answers.TurnAnswer.{TurnAnswer}
use Rattle.bus_embed.specs.declared.answers.HeardItem.{HeardItem}
use Rattle.bus_embed.specs.declared.answers.HeardAnswer.{HeardAnswer}

-- ---- codes
abbrev pub turn_code : Turn → ℕ
turn_code turn.Idle = code.IDLE
turn_code turn.Waiting = code.WAITING
turn_code turn.Going = code.GOING
turn_code (turn.Lost tenure owner) = code.LOST
turn_code (turn.Own tenure) = code.OWN
turn_code (turn.Delivered tenure first last) = code.DELIVERED
turn_code (turn.Left tenure) = code.LEFT
turn_code turn.Full = code.FULL
turn_code turn.Closed = code.CLOSED
turn_code turn.Spent = code.SPENT
turn_code (turn.Behind tenure sender) = code.BEHIND

abbrev pub heard_code : RecvTurn → ℕ
heard_code heard.Going = code.GOING
heard_code heard.Empty = code.EMPTY
heard_code (heard.Head tenure owner) = code.HEAD
heard_code (heard.Item item) = code.ITEM
heard_code (heard.Leave sender) = code.LEAVE
heard_code heard.End = code.END

abbrev pub make_code : MakeFault → ℕ
make_code make.Senders = code.BAD_SENDERS
make_code make.Receivers = code.BAD_RECEIVERS
make_code make.Rounds = code.BAD_ROUNDS
make_code make.Rows = code.BAD_ROWS
make_code make.LogWords = code.BAD_LOG_WORDS
make_code make.Batch = code.BAD_BATCH
make_code make.NotEnded = code.NOT_ENDED
make_code make.Numbers = code.NUMBERS_USED
make_code make.NoMemory = code.NO_MEMORY

abbrev pub open_code : RingFault → ℕ
open_code (ring.Make why) = make_code why
open_code ring.ShortLog = code.SHORT_RING

abbrev pub put_fault_code : PutFault → ℕ
put_fault_code put.Closed = code.PUT_CLOSED
put_fault_code put.Busy = code.PUT_BUSY
put_fault_code put.TooLong = code.PUT_TOO_LONG
put_fault_code put.BatchFull = code.PUT_BATCH_FULL

-- of a put, or of messages that are carried on
abbrev pub put_code : {A : Type 0} → Result A PutFault → ℕ
put_code (Ok taken) = code.OK
put_code (Err fault) = put_fault_code fault

abbrev pub close_code : {A : Type 0} → Result A CloseFault → ℕ
close_code (Ok taken) = code.OK
close_code (Err close.Closed) = code.CLOSE_CLOSED
close_code (Err close.Busy) = code.CLOSE_BUSY
close_code (Err close.Pending) = code.CLOSE_PENDING

abbrev pub end_code : {A : Type 0} → Result A BusNotEnded → ℕ
end_code (Ok ended) = code.OK
end_code (Err left.InUse) = code.IN_USE
end_code (Err left.PageOut) = code.PAGE_OUT

-- of a call that wants two handles of one bus
abbrev pub one_bus_code : Bool → ℕ
one_bus_code true = code.OK
one_bus_code false = code.OTHER_BUS

-- ---- how two places compare
abbrev pub order_number : Ordering → ℤ
order_number Less = negsuc 0
order_number Equal = pos 0
order_number Greater = pos 1

-- ---- what a place has that is written where a call succeeded, and else stays
abbrev pub written : {A E : Type 0} → A → Result A E → A
written old (Ok new) = new
written old (Err why) = old

-- ---- what else an answer says
-- of a turn of a sender: its numbers, and 0 where it has none
abbrev pub turn_answer : Turn → TurnAnswer
turn_answer turn.Idle = record { tenure = 0; first = 0; last = 0; sender = 0 }
turn_answer turn.Waiting = record { tenure = 0; first = 0; last = 0; sender = 0 }
turn_answer turn.Going = record { tenure = 0; first = 0; last = 0; sender = 0 }
turn_answer (turn.Lost tenure owner) =
    record { tenure = tenure; first = 0; last = 0; sender = owner.0 }
turn_answer (turn.Own tenure) = record { tenure = tenure; first = 0; last = 0; sender = 0 }
turn_answer (turn.Delivered tenure first last) =
    record { tenure = tenure; first = first; last = last; sender = 0 }
turn_answer (turn.Left tenure) = record { tenure = tenure; first = 0; last = 0; sender = 0 }
turn_answer turn.Full = record { tenure = 0; first = 0; last = 0; sender = 0 }
turn_answer turn.Closed = record { tenure = 0; first = 0; last = 0; sender = 0 }
turn_answer turn.Spent = record { tenure = 0; first = 0; last = 0; sender = 0 }
turn_answer (turn.Behind tenure sender) =
    record { tenure = tenure; first = 0; last = 0; sender = sender.0 }

-- a list written over the first places of another, as far as that goes
abbrev pub over : {A : Type 0} → List A → List A → List A
over new old = take (length old) new ++ drop (length new) old

-- a message as 56 bytes: zeros stand behind it
abbrev pub padded : List ℕ → List ℕ
padded bytes = over bytes (replicate MOST_BYTES 0)

-- an item of the order
abbrev pub item_told : Item → HeardItem
item_told item = record {
  number = item.number;
  sender = item.sender.0;
  length = length item.message;
  bytes = padded item.message;
}

abbrev pub no_item : HeardItem
no_item = record { number = 0; sender = 0; length = 0; bytes = replicate MOST_BYTES 0 }

-- of a turn of a receiver
abbrev pub heard_answer : RecvTurn → HeardAnswer
heard_answer heard.Going = record { tenure = 0; owner = 0; item = no_item }
heard_answer heard.Empty = record { tenure = 0; owner = 0; item = no_item }
heard_answer (heard.Head tenure owner) = record { tenure = tenure; owner = owner.0; item = no_item }
heard_answer (heard.Item item) = record { tenure = 0; owner = 0; item = item_told item }
heard_answer (heard.Leave sender) = record { tenure = 0; owner = sender.0; item = no_item }
heard_answer heard.End = record { tenure = 0; owner = 0; item = no_item }
