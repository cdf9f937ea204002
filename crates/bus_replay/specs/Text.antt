-- What `replay` prints.
use Rattle.std.specs.Prelude.{ℕ, Bool, true, false, List, [], ◌∷◌, ◌++◌, length, codes, decimal}
use Rattle.std.specs.Prelude.{flat_map, if◌then◌else◌}
use Rattle.std.specs.List.{enumerate_from, range_with_len}
use Rattle.bus_batch.specs.declared.batches.CloseFault.{CloseFault}
use Rattle.bus_batch.specs.declared.batches.CloseFault.TheVariants as close
use Rattle.bus_batch.specs.declared.batches.PutFault.{PutFault}
use Rattle.bus_batch.specs.declared.batches.PutFault.TheVariants as put
use Rattle.bus_batch.specs.declared.messages.Mark.TheVariants as mark
use Rattle.bus_batch.specs.Frames.{Order, Entry, Says, Leaves, items_in}
use Rattle.bus_deliverylog.specs.Text.{item_text, recv_text}
use Rattle.bus_tenure.specs.Text.{turn_text}
use Rattle.bus_world.specs.World.{Event, Put, Ask, Turn, Recv, Stop, Gone}
use Rattle.bus_world.specs.declared.events.Answer.{Answer}
use Rattle.bus_world.specs.declared.events.Answer.TheVariants as answer
use Rattle.bus_world.specs.declared.events.StepFault.{StepFault}
use Rattle.bus_world.specs.declared.events.StepFault.TheVariants as fault
use Rattle.bus_world.specs.declared.shapes.MakeFault.{MakeFault}
use Rattle.bus_world.specs.declared.shapes.MakeFault.TheVariants as make
use Rattle.bus_replay.specs.declared.histories.Given.{Given}

-- ---- numbers

-- a number behind a space
abbrev pub behind : ℕ → List ℕ
behind n = 32 ∷ decimal n

-- ---- answers

abbrev pub answer_text : Answer → List ℕ
answer_text (answer.Number n) = codes "number" ++ behind n
answer_text answer.Closing = codes "closing"
answer_text answer.Leaving = codes "leaving"
answer_text (answer.Turn t) = turn_text t
answer_text (answer.Recv t) = recv_text t
answer_text answer.Stopped = codes "stopped"
answer_text answer.Gone = codes "gone"

-- who is asked
abbrev pub event_text : Event → List ℕ
event_text (Put s bytes) = codes "put" ++ behind s
event_text (Ask s mark.End) = codes "close" ++ behind s
event_text (Ask s mark.Leave) = codes "leave" ++ behind s
event_text (Turn s word) = codes "turn" ++ behind s
event_text (Recv r) = codes "recv" ++ behind r
event_text (Stop s) = codes "stop" ++ behind s
event_text (Gone r) = codes "gone" ++ behind r

-- the line of a command that was answered
abbrev pub answer_line : Event → Answer → List ℕ
answer_line e a = event_text e ++ codes ": " ++ answer_text a ++ 10 ∷ []

-- ---- forks
-- whether a receiver has forked
abbrev pub fork_text : Bool → List ℕ
fork_text true = codes "forked"
fork_text false = codes "no seat"

-- the line of a fork that was answered
abbrev pub fork_line : (maker number : ℕ) → Bool → List ℕ
fork_line i j did =
    codes "fork" ++ behind i ++ behind j ++ codes ": " ++ fork_text did ++ 10 ∷ []

-- ---- refusals

abbrev pub put_fault_name : PutFault → List ℕ
put_fault_name put.Closed = codes "Closed"
put_fault_name put.Busy = codes "Busy"
put_fault_name put.TooLong = codes "TooLong"
put_fault_name put.BatchFull = codes "BatchFull"

abbrev pub close_fault_name : CloseFault → List ℕ
close_fault_name close.Closed = codes "Closed"
close_fault_name close.Busy = codes "Busy"
close_fault_name close.Pending = codes "Pending"

abbrev pub step_fault_name : StepFault → List ℕ
step_fault_name fault.NoSuchSender = codes "NoSuchSender"
step_fault_name fault.NoSuchReceiver = codes "NoSuchReceiver"
step_fault_name fault.Stopped = codes "Stopped"
step_fault_name (fault.Put why) = put_fault_name why
step_fault_name (fault.Close why) = close_fault_name why
step_fault_name fault.Gone = codes "Gone"
step_fault_name fault.NotAbove = codes "NotAbove"

-- want of memory is no refusal of a script, and is never printed
abbrev pub make_fault_name : MakeFault → List ℕ
make_fault_name make.Senders = codes "Senders"
make_fault_name make.Receivers = codes "Receivers"
make_fault_name make.Rounds = codes "Rounds"
make_fault_name make.Rows = codes "Rows"
make_fault_name make.LogWords = codes "LogWords"
make_fault_name make.Batch = codes "Batch"
make_fault_name make.NotEnded = codes "NotEnded"
make_fault_name make.Numbers = codes "Numbers"
make_fault_name make.NoMemory = codes "NoMemory"

-- ---- the closing lines

abbrev pub owners_line : List ℕ → List ℕ
owners_line owners = codes "owners" ++ flat_map behind owners ++ 10 ∷ []

abbrev pub end_text : Bool → List ℕ
end_text true = codes " end"
end_text false = []

abbrev pub order_end : Bool → List ℕ
order_end true = codes "order end" ++ 10 ∷ []
order_end false = []

-- the line of an item, or that a sender has left
abbrev pub entry_line : Entry → List ℕ
entry_line (Says item) = codes "order " ++ item_text item ++ 10 ∷ []
entry_line (Leaves s) = codes "order leave" ++ behind s.0 ++ 10 ∷ []

-- a line for each entry, and one for the end
abbrev pub order_text : Order → List ℕ
order_text q = flat_map entry_line q.entries ++ order_end q.ended

abbrev pub count_line : ℕ → ℕ → Bool → List ℕ
count_line r items ended = codes "given" ++ behind r ++ behind items ++ end_text ended ++ 10 ∷ []

-- the line of a seat, if it has or had a receiver
abbrev pub seat_line : ℕ → Given → List ℕ
seat_line r g = if g.taken then count_line r g.items g.ended else []

-- such a line for each of so many seats, in order
abbrev pub counts_text : List Given → List ℕ
counts_text given = flat_map (λ g. seat_line g.0 g.1) (enumerate_from 0 given)

-- how many items a receiver was given, and whether the end
abbrev pub given_line : ℕ → Order → List ℕ
given_line r q = count_line r (length (items_in q.entries)) q.ended

-- A line for each of so many seats that has or had a receiver, in order: how many items its last
-- receiver was given, and whether the end.
abbrev pub given_text : (taken : ℕ → Bool) (given : ℕ → Order) → (seats : ℕ) → List ℕ
given_text taken given seats =
    flat_map (λ r. if taken r then given_line r (given r) else []) (range_with_len 0 seats)
