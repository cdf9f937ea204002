use Rattle.std.proofs.Common.{◌<◌, arith, ◌∙◌}
use Rattle.bus_automaton.specs.Buses.{automaton_with}
use Rattle.bus_pageslot.proofs.Hears.PassTurns.{none_at_all}
use Rattle.bus_pageslot.proofs.seating.passed_place.Goals as goal

pub returns-then-index-passers : goal.returns-then-index-passers
returns-then-index-passers g c =
    let A = automaton_with g.Q.Machine.kind_of g.Q.Machine.op g.Q.Machine.fed g.Q.Ratifier.protocol
    c.args.plan in
    let L = c.threads_may_go_by.ensures.automaton c.args.plan in
    let passers = c.threads_may_go_by.ensures.passers c.args.plan in
    let many = c.passers-passers.ensures.is in
    let below = c.if-index-passers.true in
    let passed = c.requires.passed in
    let log = c.requires.log in
    let low : c.args.index < A.table_layout.passers = omega arith in
    let behind = L.passed_room c.args.index low in
    let room = L.room in (
      low,
      (omega arith),
      (omega arith),
    )

pub returns : goal.returns
returns g c =
    c.threads_may_go_by.ensures.passers c.args.plan
    ∙ none_at_all c.args.plan c.args.index c.requires.below
    (let many = c.passers-passers.ensures.is in let none = c.if-index-passers.false in omega arith)
