-- What is said of a call that did not do what it was asked for.
use Rattle.std.specs.Prelude.{ℕ, List, ◌++◌, codes}
use Rattle.bus_batch.specs.Faults.{close_fault_text}
use Rattle.bus_tenure.specs.Text.{turn_text}
use Rattle.bus_world.specs.Faults.{make_fault_text}
use Rattle.bus_handles.specs.declared.answers.ForkFault.{ForkFault}
use Rattle.bus_handles.specs.declared.answers.ForkFault.TheVariants as fork
use Rattle.bus_handles.specs.declared.answers.NotDelivered.{NotDelivered}
use Rattle.bus_handles.specs.declared.answers.NotDelivered.TheVariants as delivered
use Rattle.bus_handles.specs.declared.answers.OrderNotEnded.{OrderNotEnded}
use Rattle.bus_handles.specs.declared.answers.OrderNotEnded.TheVariants as order
use Rattle.bus_handles.specs.declared.answers.BusNotEnded.{BusNotEnded}
use Rattle.bus_handles.specs.declared.answers.BusNotEnded.TheVariants as bus
use Rattle.bus_handles.specs.declared.answers.RingFault.{RingFault}
use Rattle.bus_handles.specs.declared.answers.RingFault.TheVariants as ring
use Rattle.bus_handles.specs.declared.pages.NoPage.{NoPage}
use Rattle.bus_handles.specs.declared.pages.NoPage.TheVariants as page

abbrev pub not_delivered_text : NotDelivered → List ℕ
not_delivered_text delivered.Idle = codes "nothing is delivered: no message waits"
not_delivered_text (delivered.Left tenure) = codes "nothing is delivered: the sender has left"
not_delivered_text delivered.Full = codes "nothing is delivered: the log is full"
not_delivered_text delivered.Closed =
    codes "nothing is delivered: the order has ended, or the sender has left"
not_delivered_text delivered.Spent = codes "nothing is delivered: all rows are spent"
not_delivered_text delivered.NeverFits =
    codes "nothing is delivered: the batch is longer than the log"

abbrev pub order_not_ended_text : OrderNotEnded → List ℕ
order_not_ended_text (order.Close why) = codes "the close is not taken: " ++ close_fault_text why
order_not_ended_text (order.Turn answer) = codes "the close is not sent: " ++ turn_text answer

abbrev pub no_page_text : NoPage → List ℕ
no_page_text page.NotEnded = codes "the order has not ended"
no_page_text (page.Unanswered number) = codes "a sender was not answered that the order has ended"

abbrev pub bus_not_ended_text : BusNotEnded → List ℕ
bus_not_ended_text bus.InUse = codes "other handles have the bus still"
bus_not_ended_text bus.PageOut = codes "a sender has not given the page back"

abbrev pub fork_fault_text : ForkFault → List ℕ
fork_fault_text fork.NoSeat = codes "each number above the receiver's own was taken"
fork_fault_text fork.NoMemory = codes "no memory"

abbrev pub ring_fault_text : RingFault → List ℕ
ring_fault_text (ring.Make why) = make_fault_text why
ring_fault_text ring.ShortLog =
    codes "a ring shorter than its longest frame: one word, and eight a message"
