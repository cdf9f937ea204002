use Rattle.bus_automaton.specs.Buses.{process_with, automaton_with}
use Rattle.bus_pageslot.proofs.Hears.Forking.{copy_leaves, fork_leaves}
use Rattle.bus_pageslot.proofs.Said.Lasting.{try_leaves}
use Rattle.bus_pageslot.proofs.Said.Rings.{stores_beside}
use Rattle.bus_pageslot.proofs.receiving_laws.forks_leave_what_was_published.Goals as goal

pub returns-clause-forks : goal.returns-clause-forks
returns-clause-forks g c plan s seat x e number r at stays up low free =
    let P = process_with g.Q.Machine.kind_of g.Q.Machine.op g.Q.Machine.fed g.Q.Ratifier.protocol in
    let A =
    automaton_with g.Q.Machine.kind_of g.Q.Machine.op g.Q.Machine.fed g.Q.Ratifier.protocol plan in
    fork_leaves P A (c.threads_may_go_by.ensures.automaton plan) s r seat x e at number stays up low
    free

pub returns-clause-tries : goal.returns-clause-tries
returns-clause-tries g c plan s seat x e number r at =
    let P = process_with g.Q.Machine.kind_of g.Q.Machine.op g.Q.Machine.fed g.Q.Ratifier.protocol in
    let A =
    automaton_with g.Q.Machine.kind_of g.Q.Machine.op g.Q.Machine.fed g.Q.Ratifier.protocol plan in
    try_leaves P A (c.threads_may_go_by.ensures.automaton plan) s r seat x e at number

pub returns-clause-apart : goal.returns-clause-apart
returns-clause-apart g c plan s number value r low =
    let P = process_with g.Q.Machine.kind_of g.Q.Machine.op g.Q.Machine.fed g.Q.Ratifier.protocol in
    let A =
    automaton_with g.Q.Machine.kind_of g.Q.Machine.op g.Q.Machine.fed g.Q.Ratifier.protocol plan in
    stores_beside P A (c.threads_may_go_by.ensures.automaton plan) s r number low value

pub returns-clause-copies : goal.returns-clause-copies
returns-clause-copies g c plan s seat x e r at flat =
    let P = process_with g.Q.Machine.kind_of g.Q.Machine.op g.Q.Machine.fed g.Q.Ratifier.protocol in
    let A =
    automaton_with g.Q.Machine.kind_of g.Q.Machine.op g.Q.Machine.fed g.Q.Ratifier.protocol plan in
    copy_leaves P A seat x e flat s r at
