use Rattle.std.proofs.Common.{◌≡◌, ◌≤◌}
use Rattle.bus_automaton.specs.Buses.{process_with}
use Rattle.bus_pageslot.specs.Seats.{table_of}
use Rattle.bus_pageslot.specs.Turns.{tells_with, TakesOn}
use Rattle.bus_pageslot.proofs.seats.Sender.turns.Given as goal

abbrev pub invariant-loop : goal.invariant-loop
invariant-loop g l =
    let P = process_with g.Q.Machine.kind_of g.Q.Machine.op g.Q.Machine.fed g.Q.Ratifier.protocol in
    let T = tells_with g.Q.Machine.kind_of g.Q.Machine.op g.Q.Machine.fed g.Q.Ratifier.protocol in
    TakesOn P T l.fn.self l.fn.word l.taken l.turn l.self × (l.counter ≤ l.taken)
    × (l.taken ≤ l.fn.more) × (table_of l.self ≡ table_of l.fn.self)
