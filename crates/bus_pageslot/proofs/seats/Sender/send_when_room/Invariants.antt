use Rattle.std.proofs.Common.{◌≡◌}
use Rattle.bus_automaton.specs.Buses.{process_with, automaton_with}
use Rattle.bus_pageslot.specs.Room.{DrawsForRoom, GoesForRoom, Turning}
use Rattle.bus_pageslot.specs.Seats.{table_of}
use Rattle.bus_pageslot.specs.Turns.{tells_with}
use Rattle.bus_pageslot.proofs.seats.Sender.send_when_room.Given as goal

abbrev pub invariant-loop : goal.invariant-loop
invariant-loop g l =
    let P = process_with g.Q.Machine.kind_of g.Q.Machine.op g.Q.Machine.fed g.Q.Ratifier.protocol in
    let A =
    automaton_with g.Q.Machine.kind_of g.Q.Machine.op g.Q.Machine.fed g.Q.Ratifier.protocol
    l.fn.bus.plan in
    let T = tells_with g.Q.Machine.kind_of g.Q.Machine.op g.Q.Machine.fed g.Q.Ratifier.protocol in
    goal.F-IsAlwaysCallable g l.go_on
    × GoesForRoom P A T (goal.F-step g) l.fn.self l.fn.go_on Turning l.self l.go_on
    × (table_of l.self ≡ table_of l.fn.self)
    × DrawsForRoom P A T l.fn.self (g.R.Rng.stream l.fn.rng) l.self (g.R.Rng.stream l.rng)
