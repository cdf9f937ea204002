use Rattle.std.proofs.Common.{arith, sym, subst}
use Rattle.bus_core.specs.Plain.{IsPlain, StoresPlain}
use Rattle.bus_tenure.specs.Elections.{election_with}
use Rattle.bus_pageslot.specs.Turns.{NoneYet}
use Rattle.bus_pageslot.proofs.SeatSteps.PlainRows.{row_fewer}
use Rattle.bus_pageslot.proofs.seats.Sender.clear_turns.Goals as goal

pub clears_left-requires : goal.clears_left-requires
clears_left-requires g c =
    let X =
    election_with g.Q.Machine.kind_of g.Q.Machine.op g.Q.Machine.fed g.Q.Ratifier.protocol in
    subst (λ s. IsPlain X s.core) (sym c.self.view_is) c.requires.stores.1.plain

pub returns-then-many-eq0-clause-goes : goal.returns-then-many-eq0-clause-goes
returns-then-many-eq0-clause-goes g c = NoneYet

pub clear_row-requires-clause-row : goal.clear_row-requires-clause-row
clear_row-requires-clause-row g c =
    let X =
    election_with g.Q.Machine.kind_of g.Q.Machine.op g.Q.Machine.fed g.Q.Ratifier.protocol in
    let value = c.requires.stores.0 in
    let stores =
    subst (λ s. StoresPlain X s.core c.args.at value) (sym c.self.view_is) c.requires.stores.1 in
    row_fewer X c.self.inside.core c.args.at (λ n. 0) c.clears_left.result c.min-many.result
    (omega (arith, c.min-many.ensures)) (c.clears_left.ensures.row c.args.at value stores)

pub clear_row-requires-clause-room : goal.clear_row-requires-clause-room
clear_row-requires-clause-room g c =
    let X =
    election_with g.Q.Machine.kind_of g.Q.Machine.op g.Q.Machine.fed g.Q.Ratifier.protocol in
    let value = c.requires.stores.0 in
    let stores =
    subst (λ s. StoresPlain X s.core c.args.at value) (sym c.self.view_is) c.requires.stores.1 in
    let room = c.clears_left.ensures.room c.args.at value stores in
    let few = c.min-many.ensures in
    omega (arith, room, few)

pub clears_done-requires-clause-plain : goal.clears_done-requires-clause-plain
clears_done-requires-clause-plain g c =
    let X =
    election_with g.Q.Machine.kind_of g.Q.Machine.op g.Q.Machine.fed g.Q.Ratifier.protocol in
    subst (λ s. IsPlain X s.core) (sym c.self.view_is) c.requires.stores.1.plain
