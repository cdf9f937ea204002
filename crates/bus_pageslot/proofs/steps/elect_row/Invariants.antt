use Rattle.std.proofs.Common.{◌≡◌, ◌≤◌, Some}
use Rattle.bus_automaton.specs.Buses.{process_with}
use Rattle.bus_core.specs.TenureRows.{row_told}
use Rattle.bus_tenure.specs.Elections.{election_with}
use Rattle.bus_pageslot.specs.Rule.{stored_in}
use Rattle.bus_pageslot.specs.Seats.{Shows}
use Rattle.bus_pageslot.specs.Turns.{tells_with, GoesPlainly, ElectsIn, IsElecting}
use Rattle.bus_pageslot.proofs.steps.elect_row.Given as goal

abbrev pub ghosts-elect_once : goal.ghosts-elect_once
ghosts-elect_once g a = record { core = Some a.core.now; word = a.word }

abbrev pub invariant-loop-taken : goal.invariant-loop-taken
invariant-loop-taken g l =
    let P = process_with g.Q.Machine.kind_of g.Q.Machine.op g.Q.Machine.fed g.Q.Ratifier.protocol in
    let T = tells_with g.Q.Machine.kind_of g.Q.Machine.op g.Q.Machine.fed g.Q.Ratifier.protocol in
    let X =
    election_with g.Q.Machine.kind_of g.Q.Machine.op g.Q.Machine.fed g.Q.Ratifier.protocol in
    GoesPlainly P T (IsElecting X) (record { core = l.fn.core; seat = l.fn.seat })
    l.taken (record { core = l.core; seat = l.seat })
    × Shows P l.core l.seat
    × (l.seat.table_id ≡ l.fn.seat.table_id) × (l.seat.id ≡ l.fn.seat.id)
    × (stored_in l.seat.me.0 ≡ stored_in l.fn.seat.me.0)
    × ElectsIn X l.core l.tenure
    × (l.row ≡ row_told l.core.core.layout l.core.reuse l.tenure) × (l.taken ≤ l.most)
