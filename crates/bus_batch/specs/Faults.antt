-- What faults of batches are called where they are shown to a reader.
use Rattle.std.specs.Prelude.{ℕ, List, codes}
use Rattle.bus_batch.specs.declared.batches.PutFault.{PutFault}
use Rattle.bus_batch.specs.declared.batches.PutFault.TheVariants as put
use Rattle.bus_batch.specs.declared.batches.CloseFault.{CloseFault}
use Rattle.bus_batch.specs.declared.batches.CloseFault.TheVariants as close

abbrev pub put_fault_text : PutFault → List ℕ
put_fault_text put.Closed = codes "closed"
put_fault_text put.Busy = codes "the batch is on its way"
put_fault_text put.TooLong = codes "more than 56 bytes"
put_fault_text put.BatchFull = codes "the batch is full"

abbrev pub close_fault_text : CloseFault → List ℕ
close_fault_text close.Closed = codes "closed"
close_fault_text close.Busy = codes "the batch is on its way"
close_fault_text close.Pending = codes "messages wait"
