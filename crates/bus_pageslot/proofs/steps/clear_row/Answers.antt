use Rattle.std.proofs.Common.{◌+◌, refl, ◌∙◌}
use Rattle.bus_core.specs.Plain.{stored_on}
use Rattle.bus_core.specs.Senders.{Sender}
use Rattle.bus_tenure.specs.Elections.{Elector, election_with}
use Rattle.bus_pageslot.specs.Seats.{SenderSeat}
use Rattle.bus_pageslot.specs.Turns.{NoneYet, Next}
use Rattle.bus_pageslot.proofs.SeatSteps.PlainRows.{turned_plainly, length_stays}
use Rattle.bus_pageslot.proofs.steps.clear_row.Goals as goal

pub loop-taken-init : goal.loop-taken-init
loop-taken-init g c = (NoneYet, c.requires.shows, refl, refl, refl)

pub loop-taken-preserved : goal.loop-taken-preserved
loop-taken-preserved g c =
    let Q = g.Q.Ratifier.protocol in
    let X = election_with g.Q.Machine.kind_of g.Q.Machine.op g.Q.Machine.fed Q in
    let n = c.loop-taken.taken in
    let old : SenderSeat (Sender (Elector g.row.Q.Denot)) = record {
      core = stored_on X c.args.core.now n;
      seat = c.loop-taken.seat;
    } in
    let new : SenderSeat (Sender (Elector g.row.Q.Denot)) = record {
      core = stored_on X c.args.core.now (n + 1);
      seat = c.store_behind.new.seat;
    } in
    let stores = c.requires.row.stores n c.loop-taken-test.true in
    let took = c.store_behind.ensures.took in
    let before = c.loop-taken.invariant in (
      Next n old new before.0
          (turned_plainly g.Q.Machine.kind_of g.Q.Machine.op g.Q.Machine.fed Q old new stores.plain
          took),
      c.store_behind.ensures.shows,
      c.store_behind.ensures.table.0 ∙ before.2,
      c.store_behind.ensures.table.1 ∙ before.3,
      length_stays g.Q.Machine.kind_of g.Q.Machine.op g.Q.Machine.fed Q old new (c.args.at + n) 0
          stores took
          ∙ before.4,
    )
