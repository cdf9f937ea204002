use Rattle.bus_ownerbits.specs.Sizes.{election_bound}
use Rattle.bus_pageslot.proofs.Said.Histories.{elector, sizes}
use Rattle.bus_pageslot.proofs.Said.SafeSeats.{are_safe}
use Rattle.bus_pageslot.proofs.laws.rows_used_again_are_safe.Goals as goal

pub returns : goal.returns
returns g c plan rows s is r =
    let Q = g.Q.Ratifier.protocol in
    are_safe (elector g.Q.Machine.kind_of g.Q.Machine.op g.Q.Machine.fed Q plan)
    (sizes g.Q.Machine.kind_of g.Q.Machine.op g.Q.Machine.fed Q plan) plan.reuse plan.bases s
    (election_bound Q.steps) (c.tables_are_machines.ensures plan s r) rows is
