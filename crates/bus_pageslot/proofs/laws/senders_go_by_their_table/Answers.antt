use Rattle.std.proofs.Common.{◌∙◌}
use Rattle.bus_automaton.specs.Buses.{process_with, automaton_with}
use Rattle.bus_pageslot.proofs.Ruled.OwnLayouts.{by_its_table, limit_by_its_table}
use Rattle.bus_pageslot.proofs.laws.senders_go_by_their_table.Goals as goal

pub returns-clause-layout : goal.returns-clause-layout
returns-clause-layout g c plan s seat v d sender_trail actions r shown more =
    let P = process_with g.Q.Machine.kind_of g.Q.Machine.op g.Q.Machine.fed g.Q.Ratifier.protocol in
    let A =
    automaton_with g.Q.Machine.kind_of g.Q.Machine.op g.Q.Machine.fed g.Q.Ratifier.protocol plan in
    by_its_table P A c.threads_may_go_by.ensures.process
    (c.threads_may_go_by.ensures.automaton plan) s r seat v sender_trail d actions shown more

pub returns-clause-limit : goal.returns-clause-limit
returns-clause-limit g c plan s seat v d sender_trail actions r shown more =
    let P = process_with g.Q.Machine.kind_of g.Q.Machine.op g.Q.Machine.fed g.Q.Ratifier.protocol in
    let A =
    automaton_with g.Q.Machine.kind_of g.Q.Machine.op g.Q.Machine.fed g.Q.Ratifier.protocol plan in
    limit_by_its_table P A c.threads_may_go_by.ensures.process
    (c.threads_may_go_by.ensures.automaton plan) s r seat v sender_trail d actions shown more
    ∙ c.threads_may_go_by.ensures.batch plan
