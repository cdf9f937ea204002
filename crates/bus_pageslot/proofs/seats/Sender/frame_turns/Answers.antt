use Rattle.bus_automaton.specs.Buses.{process_with}
use Rattle.bus_pageslot.specs.Turns.{tells_with, NoneYet, Next}
use Rattle.bus_pageslot.proofs.SeatSteps.PlainRows.{turned_plainly, goes_on}
use Rattle.bus_pageslot.proofs.seats.Sender.frame_turns.Goals as goal

pub returns-then-most-eq0-clause-goes : goal.returns-then-most-eq0-clause-goes
returns-then-most-eq0-clause-goes g c = NoneYet

pub returns-then-not-store_on-clause-goes : goal.returns-then-not-store_on-clause-goes
returns-then-not-store_on-clause-goes g c =
    Next 0 c.args.self.now c.store_on.new.self NoneYet
    (turned_plainly g.Q.Machine.kind_of g.Q.Machine.op g.Q.Machine.fed g.Q.Ratifier.protocol
    c.args.self.now c.store_on.new.self c.requires.stores.plain c.store_on.ensures.took)

pub row_turns-requires-clause-stores : goal.row_turns-requires-clause-stores
row_turns-requires-clause-stores g c =
    (c.store_on.new.value, c.store_on.ensures.stores c.if-not-store_on.false)

pub returns-clause-goes : goal.returns-clause-goes
returns-clause-goes g c =
    let P = process_with g.Q.Machine.kind_of g.Q.Machine.op g.Q.Machine.fed g.Q.Ratifier.protocol in
    let T = tells_with g.Q.Machine.kind_of g.Q.Machine.op g.Q.Machine.fed g.Q.Ratifier.protocol in
    goes_on P T c.args.self.now 1 c.store_on.new.self c.row_turns.result c.row_turns.new.self
    (Next 0 c.args.self.now c.store_on.new.self NoneYet
    (turned_plainly g.Q.Machine.kind_of g.Q.Machine.op g.Q.Machine.fed g.Q.Ratifier.protocol
    c.args.self.now c.store_on.new.self c.requires.stores.plain c.store_on.ensures.took))
    c.row_turns.ensures.goes
