use Rattle.std.proofs.Common.{take}
use Rattle.bus_deliverylog.specs.Orders.{order_held, HasPlaces}
use Rattle.bus_deliverylog.specs.Logs.{Reads}
use Rattle.bus_deliverylog.proofs.reading.read_words.Given as goal

abbrev pub invariant-loop-place : goal.invariant-loop-place
invariant-loop-place l = record {
  reads : Reads l.senders (take l.place l.words) l.reader (order_held l.read.order)
      l.read.owners.items;
  places : HasPlaces l.read.order;
}
