use Rattle.std.proofs.Common.{◌≡◌, ◌≤◌}
use Rattle.bus_automaton.specs.Buses.{process_with, automaton_with}
use Rattle.bus_pageslot.specs.Room.{DrawsForRoom, GoesForRoom, Looking}
use Rattle.bus_pageslot.specs.Seats.{table_of}
use Rattle.bus_pageslot.specs.Turns.{tells_with}
use Rattle.bus_pageslot.proofs.seats.Sender.finds_room.Given as goal

-- so many looks found no room
abbrev pub invariant-loop : goal.invariant-loop
invariant-loop g l =
    let P = process_with g.Q.Machine.kind_of g.Q.Machine.op g.Q.Machine.fed g.Q.Ratifier.protocol in
    let A =
    automaton_with g.Q.Machine.kind_of g.Q.Machine.op g.Q.Machine.fed g.Q.Ratifier.protocol
    l.fn.bus.plan in
    let T = tells_with g.Q.Machine.kind_of g.Q.Machine.op g.Q.Machine.fed g.Q.Ratifier.protocol in
    goal.F-IsAlwaysCallable g l.go_on
    × (l.counter ≤ 64)
    × (table_of l.self ≡ table_of l.fn.self)
    × ((first : _) (given : _)
    → GoesForRoom P A T (goal.F-step g) first given (Looking 0) l.fn.self l.fn.go_on
    → GoesForRoom P A T (goal.F-step g) first given (Looking l.counter) l.self l.go_on)
    × ((first : _) (given words : _) → DrawsForRoom P A T first given l.fn.self words
    → DrawsForRoom P A T first given l.self words)
