-- What faults of logs are called where they are shown to a reader.
use Rattle.std.specs.Prelude.{ℕ, List, ◌++◌, codes, decimal}
use Rattle.bus_deliverylog.specs.declared.orders.LogFault.{LogFault}
use Rattle.bus_deliverylog.specs.declared.orders.LogFault.TheVariants.{BadWord, Torn, NoMemory}

abbrev pub log_fault_text : LogFault → List ℕ
log_fault_text (BadWord place) = codes "bad word at " ++ decimal place
log_fault_text Torn = codes "the words end within a frame"
log_fault_text NoMemory = codes "no memory"
