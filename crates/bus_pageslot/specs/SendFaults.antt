-- What is said of a sender that does not go on: what is the matter, and why.
use Rattle.std.specs.Prelude.{ℕ, List, ◌++◌, codes}
use Rattle.bus_batch.specs.Faults.{put_fault_text}
use Rattle.bus_tenure.specs.Text.{turn_text}
use Rattle.bus_pageslot.specs.declared.seats.SendFault.{SendFault}
use Rattle.bus_pageslot.specs.declared.seats.SendFault.TheVariants as fault

abbrev pub send_fault_text : SendFault → List ℕ
send_fault_text (fault.Put why) = codes "a message is not taken: " ++ put_fault_text why
send_fault_text (fault.Turn answer) = codes "messages wait that are not sent: " ++ turn_text answer
