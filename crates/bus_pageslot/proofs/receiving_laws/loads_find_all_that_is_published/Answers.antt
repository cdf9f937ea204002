use Rattle.bus_automaton.specs.Buses.{process_with, automaton_with}
use Rattle.bus_pageslot.proofs.Said.Lasting.{hears_whole, knows_whole, learns_whole, length_leaves}
use Rattle.bus_pageslot.proofs.Said.Lasting.{turn_leaves}
use Rattle.bus_pageslot.proofs.receiving_laws.loads_find_all_that_is_published.Goals as goal

pub returns-clause-finds : goal.returns-clause-finds
returns-clause-finds g c plan s seat x e r at =
    let P = process_with g.Q.Machine.kind_of g.Q.Machine.op g.Q.Machine.fed g.Q.Ratifier.protocol in
    let A =
    automaton_with g.Q.Machine.kind_of g.Q.Machine.op g.Q.Machine.fed g.Q.Ratifier.protocol plan in
    length_leaves P A (c.threads_may_go_by.ensures.automaton plan) s r seat x e at

pub returns-clause-turns : goal.returns-clause-turns
returns-clause-turns g c plan s seat x e r at going =
    let P = process_with g.Q.Machine.kind_of g.Q.Machine.op g.Q.Machine.fed g.Q.Ratifier.protocol in
    let A =
    automaton_with g.Q.Machine.kind_of g.Q.Machine.op g.Q.Machine.fed g.Q.Ratifier.protocol plan in
    turn_leaves P A (c.threads_may_go_by.ensures.automaton plan) s r seat x e at going

pub returns-clause-learns : goal.returns-clause-learns
returns-clause-learns g c plan t seat x e m q at h =
    let P = process_with g.Q.Machine.kind_of g.Q.Machine.op g.Q.Machine.fed g.Q.Ratifier.protocol in
    let A =
    automaton_with g.Q.Machine.kind_of g.Q.Machine.op g.Q.Machine.fed g.Q.Ratifier.protocol plan in
    learns_whole P A (c.threads_may_go_by.ensures.automaton plan) t q seat x e m at h

pub returns-clause-hears : goal.returns-clause-hears
returns-clause-hears g c plan t seat x e m q at h =
    let P = process_with g.Q.Machine.kind_of g.Q.Machine.op g.Q.Machine.fed g.Q.Ratifier.protocol in
    let A =
    automaton_with g.Q.Machine.kind_of g.Q.Machine.op g.Q.Machine.fed g.Q.Ratifier.protocol plan in
    hears_whole P A (c.threads_may_go_by.ensures.automaton plan) t q seat x e m at h

pub returns-clause-knows : goal.returns-clause-knows
returns-clause-knows g c plan s seat v e r at is long =
    let P = process_with g.Q.Machine.kind_of g.Q.Machine.op g.Q.Machine.fed g.Q.Ratifier.protocol in
    let A =
    automaton_with g.Q.Machine.kind_of g.Q.Machine.op g.Q.Machine.fed g.Q.Ratifier.protocol plan in
    knows_whole P A (c.threads_may_go_by.ensures.automaton plan) s r seat v e at is long
