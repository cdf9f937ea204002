use Rattle.bus_automaton.specs.Buses.{process_with, automaton_with}
use Rattle.bus_pageslot.proofs.Said.Lasting.{seats_join, seats_part}
use Rattle.bus_pageslot.proofs.Ruled.Openings.{cut_leaves, tapped_by}
use Rattle.bus_pageslot.proofs.receiving_laws.seats_leave_what_was_published.Goals as goal

pub returns-clause-joins : goal.returns-clause-joins
returns-clause-joins g c plan s seat other v y e r at is there apart =
    let P = process_with g.Q.Machine.kind_of g.Q.Machine.op g.Q.Machine.fed g.Q.Ratifier.protocol in
    let A =
    automaton_with g.Q.Machine.kind_of g.Q.Machine.op g.Q.Machine.fed g.Q.Ratifier.protocol plan in
    seats_join P A (c.threads_may_go_by.ensures.automaton plan) s r seat other v y e
    at is there apart

pub returns-clause-parts : goal.returns-clause-parts
returns-clause-parts g c plan s seat v y e r is at =
    let P = process_with g.Q.Machine.kind_of g.Q.Machine.op g.Q.Machine.fed g.Q.Ratifier.protocol in
    let A =
    automaton_with g.Q.Machine.kind_of g.Q.Machine.op g.Q.Machine.fed g.Q.Ratifier.protocol plan in
    seats_part P A (c.threads_may_go_by.ensures.automaton plan) s r seat v y e is at

pub returns-clause-senders : goal.returns-clause-senders
returns-clause-senders g c plan s seat x made r at below =
    let P = process_with g.Q.Machine.kind_of g.Q.Machine.op g.Q.Machine.fed g.Q.Ratifier.protocol in
    let A =
    automaton_with g.Q.Machine.kind_of g.Q.Machine.op g.Q.Machine.fed g.Q.Ratifier.protocol plan in
    cut_leaves P A (c.threads_may_go_by.ensures.automaton plan) seat x made below s r at

pub returns-clause-receivers : goal.returns-clause-receivers
returns-clause-receivers g c plan s seat x made r at behind within =
    let P = process_with g.Q.Machine.kind_of g.Q.Machine.op g.Q.Machine.fed g.Q.Ratifier.protocol in
    let A =
    automaton_with g.Q.Machine.kind_of g.Q.Machine.op g.Q.Machine.fed g.Q.Ratifier.protocol plan in
    tapped_by P A (c.threads_may_go_by.ensures.automaton plan) seat x made behind s r at
    within
