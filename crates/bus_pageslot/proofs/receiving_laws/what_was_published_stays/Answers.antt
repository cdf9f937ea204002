use Rattle.bus_automaton.specs.Buses.{process_with, automaton_with}
use Rattle.bus_pageslot.proofs.Said.Lasting.{step_begins, step_same, steps_begin}
use Rattle.bus_pageslot.proofs.receiving_laws.what_was_published_stays.Goals as goal

pub returns-clause-steps : goal.returns-clause-steps
returns-clause-steps g c plan s t on =
    let P = process_with g.Q.Machine.kind_of g.Q.Machine.op g.Q.Machine.fed g.Q.Ratifier.protocol in
    let A =
    automaton_with g.Q.Machine.kind_of g.Q.Machine.op g.Q.Machine.fed g.Q.Ratifier.protocol plan in
    steps_begin P A s t on

pub returns-clause-step : goal.returns-clause-step
returns-clause-step g c plan s t on =
    let P = process_with g.Q.Machine.kind_of g.Q.Machine.op g.Q.Machine.fed g.Q.Ratifier.protocol in
    let A =
    automaton_with g.Q.Machine.kind_of g.Q.Machine.op g.Q.Machine.fed g.Q.Ratifier.protocol plan in
    step_begins P A s t on

pub returns-clause-same : goal.returns-clause-same
returns-clause-same g c plan s t step other =
    let P = process_with g.Q.Machine.kind_of g.Q.Machine.op g.Q.Machine.fed g.Q.Ratifier.protocol in
    let A =
    automaton_with g.Q.Machine.kind_of g.Q.Machine.op g.Q.Machine.fed g.Q.Ratifier.protocol plan in
    step_same P A s t step other
