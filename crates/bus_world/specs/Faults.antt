-- What faults of buses are called where they are shown to a reader.
use Rattle.std.specs.Prelude.{ℕ, List, codes}
use Rattle.bus_batch.specs.Faults.{put_fault_text, close_fault_text}
use Rattle.bus_world.specs.declared.events.StepFault.{StepFault}
use Rattle.bus_world.specs.declared.events.StepFault.TheVariants as fault
use Rattle.bus_world.specs.declared.shapes.MakeFault.{MakeFault}
use Rattle.bus_world.specs.declared.shapes.MakeFault.TheVariants as make

abbrev pub make_fault_text : MakeFault → List ℕ
make_fault_text make.Senders = codes "not 1 to 64 senders"
make_fault_text make.Receivers = codes "not 1 to 64 receivers"
make_fault_text make.Rounds = codes "not 1 to 8 rounds"
make_fault_text make.Rows = codes "not 1 to 256 rows, or 2 to 8 used again"
make_fault_text make.LogWords = codes "not 16 to 65536 log words"
make_fault_text make.Batch =
    codes "not 1 to 64 messages in a batch, or not 16 in a log that is no ring"
make_fault_text make.NotEnded = codes "earlier sitting not ended"
make_fault_text make.Numbers = codes "numbers used up"
make_fault_text make.NoMemory = codes "no memory"

abbrev pub step_fault_text : StepFault → List ℕ
step_fault_text fault.NoSuchSender = codes "no such sender"
step_fault_text fault.NoSuchReceiver = codes "no such receiver"
step_fault_text (fault.Put why) = put_fault_text why
step_fault_text (fault.Close why) = close_fault_text why
step_fault_text fault.Stopped = codes "sender stopped"
step_fault_text fault.Gone = codes "receiver gone"
step_fault_text fault.NotAbove = codes "number not above"
