-- What is printed where a command could not do its work.
use Rattle.std.specs.Prelude.{ℕ, List, codes}
use Rattle.bus_run.specs.declared.faults.RunFault.{RunFault}
use Rattle.bus_run.specs.declared.faults.RunFault.TheVariants.{Read, Write, TooMuch, NoMemory}
use Rattle.bus_run.specs.declared.faults.RunFault.TheVariants.{Make, Spawn, Gate, Stopped, Audit}
use Rattle.bus_world.specs.declared.shapes.MakeFault.{MakeFault}
use Rattle.bus_world.specs.declared.shapes.MakeFault.TheVariants as make

-- why there is no bus
abbrev pub make_text : MakeFault → List ℕ
make_text make.Senders = codes "shape refused"
make_text make.Receivers = codes "shape refused"
make_text make.Rounds = codes "shape refused"
make_text make.Rows = codes "shape refused"
make_text make.LogWords = codes "shape refused"
make_text make.Batch = codes "shape refused"
make_text make.NotEnded = codes "shape refused"
make_text make.Numbers = codes "shape refused"
make_text make.NoMemory = codes "no memory"

-- what is wrong where a command could not do its work
abbrev pub fault_text : RunFault → List ℕ
fault_text Read = codes "read failed"
fault_text Write = codes "write failed"
fault_text TooMuch = codes "input too long"
fault_text NoMemory = codes "no memory"
fault_text (Make why) = make_text why
fault_text Spawn = codes "thread not started"
fault_text Gate = codes "gate"
fault_text (Stopped sender) = codes "sender stopped"
fault_text (Audit why) = codes "audit failed"
