use Rattle.std.proofs.Common.{◌≡◌, ◌≤◌, Some}
use Rattle.bus_automaton.specs.Buses.{process_with, automaton_with}
use Rattle.bus_pageslot.specs.Looks.{IsSenders}
use Rattle.bus_pageslot.proofs.Sends.Looking.{Found}
use Rattle.bus_pageslot.proofs.buses.Bus.floor_seen.Given as goal

abbrev pub ghosts-look : goal.ghosts-look
ghosts-look g a = record { plan = Some a.self.now.plan }

abbrev pub invariant-loop-r : goal.invariant-loop-r
invariant-loop-r g l =
    let P = process_with g.Q.Machine.kind_of g.Q.Machine.op g.Q.Machine.fed g.Q.Ratifier.protocol in
    let A =
    automaton_with g.Q.Machine.kind_of g.Q.Machine.op g.Q.Machine.fed g.Q.Ratifier.protocol in
    (l.r ≤ l.passers)
    × ((l.seat.table_id ≡ l.fn.seat.table_id) × (l.seat.id ≡ l.fn.seat.id))
    × (l.seat.me.1 ≡ l.fn.seat.me.1)
    × (l.least ≤ l.length)
    × Found P (A l.fn.self.plan) l.fn.seat.me.0 l.r l.length l.least l.seat.me.0
    × IsSenders l.seat.me.0
