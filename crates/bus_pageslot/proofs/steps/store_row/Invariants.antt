use Rattle.std.proofs.Common.{◌≡◌, Some}
use Rattle.bus_automaton.specs.Buses.{process_with}
use Rattle.bus_core.specs.Plain.{IsPlain, stored_on}
use Rattle.bus_tenure.specs.Elections.{election_with}
use Rattle.bus_pageslot.specs.Rule.{stored_in}
use Rattle.bus_pageslot.specs.Seats.{Shows}
use Rattle.bus_pageslot.specs.Turns.{tells_with, GoesPlainly}
use Rattle.bus_pageslot.proofs.steps.store_row.Given as goal

abbrev pub ghosts-store_behind : goal.ghosts-store_behind
ghosts-store_behind g a =
    let X =
    election_with g.Q.Machine.kind_of g.Q.Machine.op g.Q.Machine.fed g.Q.Ratifier.protocol in
    record { core = Some (stored_on X a.core.now a.taken); word = 0 }

abbrev pub invariant-loop-taken : goal.invariant-loop-taken
invariant-loop-taken g l =
    let P = process_with g.Q.Machine.kind_of g.Q.Machine.op g.Q.Machine.fed g.Q.Ratifier.protocol in
    let T = tells_with g.Q.Machine.kind_of g.Q.Machine.op g.Q.Machine.fed g.Q.Ratifier.protocol in
    let X =
    election_with g.Q.Machine.kind_of g.Q.Machine.op g.Q.Machine.fed g.Q.Ratifier.protocol in
    GoesPlainly P T (IsPlain X) (record { core = l.core; seat = l.fn.seat }) l.taken
    (record { core = stored_on X l.core l.taken; seat = l.seat })
    × Shows P (stored_on X l.core l.taken) l.seat
    × (l.seat.table_id ≡ l.fn.seat.table_id) × (l.seat.id ≡ l.fn.seat.id)
    × (stored_in l.seat.me.0 ≡ stored_in l.fn.seat.me.0)
