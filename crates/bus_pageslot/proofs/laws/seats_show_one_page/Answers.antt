use Rattle.bus_automaton.specs.Buses.{process_with}
use Rattle.bus_pageslot.proofs.Ruled.OnePage.{actions_same, logs_alike, orders_same}
use Rattle.bus_pageslot.proofs.laws.seats_show_one_page.Goals as goal

pub returns-clause-actions : goal.returns-clause-actions
returns-clause-actions g c x base log other s h k = actions_same
    (process_with g.Q.Machine.kind_of g.Q.Machine.op g.Q.Machine.fed g.Q.Ratifier.protocol) x base
    log s other h k

pub returns-clause-logs : goal.returns-clause-logs
returns-clause-logs g c x base log other s h k = logs_alike
    (process_with g.Q.Machine.kind_of g.Q.Machine.op g.Q.Machine.fed g.Q.Ratifier.protocol) x base
    log s other h k

pub returns-clause-order : goal.returns-clause-order
returns-clause-order g c x base log other s h k one = orders_same
    (process_with g.Q.Machine.kind_of g.Q.Machine.op g.Q.Machine.fed g.Q.Ratifier.protocol) x base
    log s other h k one
