use Rattle.bus_automaton.specs.Buses.{process_with, automaton_with, layout_by, plan_passers}
use Rattle.bus_machine.proofs.Bases.Served.{served}
use Rattle.bus_tenure.specs.Elections.{elections, election_with}
use Rattle.bus_pageslot.proofs.Said.Fitting.{table_fits}
use Rattle.bus_pageslot.proofs.laws.what_stands_fits.Goals as goal

pub returns : goal.returns
unfolding process_with automaton_with
returns g c plan s r =
    let P = g.Q.Ratifier.protocol in
    let X = election_with g.Q.Machine.kind_of g.Q.Machine.op g.Q.Machine.fed P in
    table_fits X (elections P plan.shape.rounds) (layout_by P plan) plan.reuse plan.bases
    (served g.Q.Machine.kind_of g.Q.Machine.op g.Q.Machine.fed P g.met.Q.Machine.names_each_step
    g.met.Q.Ratifier.own_kinds plan.shape
    (c.election_is_lawful.ensures.lawful.laws plan.shape.rounds) plan.reuse (plan_passers plan)) s
    r
