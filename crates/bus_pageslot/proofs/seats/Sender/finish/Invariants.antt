use Rattle.std.proofs.Common.{◌≡◌, ℕ, ◌+◌, ◌≤◌}
use Rattle.bus_automaton.specs.Buses.{process_with}
use Rattle.bus_tenure.specs.Elections.{election_with}
use Rattle.bus_world.specs.Headline.{puts}
use Rattle.bus_pageslot.specs.Finishing.{turns_to_finish, GoesThrough}
use Rattle.bus_pageslot.specs.Seats.{table_of, actions_of}
use Rattle.bus_pageslot.specs.Turns.{tells_with, DrawsOn}
use Rattle.bus_pageslot.proofs.seats.Sender.finish.Given as goal

abbrev pub invariant-turns : goal.invariant-turns
invariant-turns g l =
    let P = process_with g.Q.Machine.kind_of g.Q.Machine.op g.Q.Machine.fed g.Q.Ratifier.protocol in
    let T = tells_with g.Q.Machine.kind_of g.Q.Machine.op g.Q.Machine.fed g.Q.Ratifier.protocol in
    let X =
    election_with g.Q.Machine.kind_of g.Q.Machine.op g.Q.Machine.fed g.Q.Ratifier.protocol in
    ((tenure : ℕ) × (count : ℕ)
    × GoesThrough P T tenure l.fn.self count l.self
    × (count + turns_to_finish X l.self.core ≤ turns_to_finish X l.fn.self.core))
    × (table_of l.self ≡ table_of l.fn.self)
    × (puts (actions_of P l.self) ≡ puts (actions_of P l.fn.self))
    × DrawsOn P T l.fn.self (g.R.Rng.stream l.fn.rng) l.self (g.R.Rng.stream l.rng)

abbrev pub decreases-turns : goal.decreases-turns
decreases-turns g l =
    let X =
    election_with g.Q.Machine.kind_of g.Q.Machine.op g.Q.Machine.fed g.Q.Ratifier.protocol in
    turns_to_finish X l.self.core
