use Rattle.std.proofs.Common.{◌≡◌, length}
use Rattle.std.specs.Prelude.{All}
use Rattle.bus_pageslot.specs.Rule.{known_in}
use Rattle.bus_receiver.specs.Listening.{bus_of}
use Rattle.bus_run.specs.Left.{HasLearnt, number_of, senders_of}
use Rattle.bus_run.specs.Told.{HasTold}
use Rattle.bus_run.proofs.closing.tell_all.Given as goal

abbrev pub invariant-loop-send_worker : goal.invariant-loop-send_worker
invariant-loop-send_worker g l = record {
  table : bus_of l.first ≡ g.B.OfBus.table;
  learnt : HasLearnt (length l.yielded) l.fn.first.me.0 l.first.me.0;
  told : All (λ send_worker. HasTold (senders_of send_worker.sender) (number_of send_worker.sender)
      l.messages (known_in l.first.me.0)) l.yielded;
}
