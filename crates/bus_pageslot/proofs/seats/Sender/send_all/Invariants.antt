use Rattle.std.proofs.Common.{◌≡◌, take}
use Rattle.bus_automaton.specs.Buses.{process_with}
use Rattle.bus_pageslot.specs.Turns.{tells_with}
use Rattle.bus_pageslot.specs.Seats.{table_of}
use Rattle.bus_pageslot.specs.Sendings.{FillsBatches}
use Rattle.bus_pageslot.proofs.seats.Sender.send_all.Given as goal

abbrev pub invariant-loop-put : goal.invariant-loop-put
invariant-loop-put g l =
    let P = process_with g.Q.Machine.kind_of g.Q.Machine.op g.Q.Machine.fed g.Q.Ratifier.protocol in
    let T = tells_with g.Q.Machine.kind_of g.Q.Machine.op g.Q.Machine.fed g.Q.Ratifier.protocol in
    FillsBatches P T l.fn.self (take l.put l.messages) l.self
    × (table_of l.self ≡ table_of l.fn.self)
