use Rattle.bus_automaton.specs.Buses.{process_with, automaton_with}
use Rattle.bus_pageslot.proofs.Said.Rings.{all_served, all_have_seats}
use Rattle.bus_pageslot.proofs.laws.rings_are_safe.Goals as goal

pub returns-clause-receiver : goal.returns-clause-receiver
returns-clause-receiver g c plan s seat v e r at is some =
    let P = process_with g.Q.Machine.kind_of g.Q.Machine.op g.Q.Machine.fed g.Q.Ratifier.protocol in
    let A =
    automaton_with g.Q.Machine.kind_of g.Q.Machine.op g.Q.Machine.fed g.Q.Ratifier.protocol plan in
    all_served P A (c.threads_may_go_by.ensures.automaton plan) s r seat v e at is some

pub returns-clause-all : goal.returns-clause-all
returns-clause-all g c plan s me r below =
    let P = process_with g.Q.Machine.kind_of g.Q.Machine.op g.Q.Machine.fed g.Q.Ratifier.protocol in
    let A =
    automaton_with g.Q.Machine.kind_of g.Q.Machine.op g.Q.Machine.fed g.Q.Ratifier.protocol plan in
    all_have_seats P A s r me below
