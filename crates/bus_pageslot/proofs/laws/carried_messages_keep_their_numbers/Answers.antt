use Rattle.std.proofs.Common.{◌++◌, ◌∙◌, ap, slice_index}
use Rattle.bus_batch.specs.Batches.{next_of}
use Rattle.bus_ownerbits.specs.Sizes.{election_bound}
use Rattle.bus_automaton.specs.Buses.{process_with, automaton_with}
use Rattle.bus_pageslot.specs.Steps.{puts_from}
use Rattle.bus_pageslot.specs.Sendings.{waiting_of}
use Rattle.bus_pageslot.proofs.Sends.FoundThere.{go_on, next_new}
use Rattle.bus_pageslot.proofs.Said.Histories.{elector, sizes, laws_are}
use Rattle.bus_pageslot.proofs.laws.carried_messages_keep_their_numbers.Goals as goal

pub returns-clause-waited : goal.returns-clause-waited
unfolding process_with
returns-clause-waited g c plan s seat v d sender_trail actions page r shown home more =
    let Q = g.Q.Ratifier.protocol in
    go_on (elector g.Q.Machine.kind_of g.Q.Machine.op g.Q.Machine.fed Q plan)
    (sizes g.Q.Machine.kind_of g.Q.Machine.op g.Q.Machine.fed Q plan) plan.reuse plan.bases
    (election_bound Q.steps)
    (laws_are g.Q.Machine.kind_of g.Q.Machine.op g.Q.Machine.fed Q plan
    (c.threads_may_go_by.ensures.automaton plan)) s
    (c.tables_are_machines.ensures plan s r) page home seat v sender_trail shown
    c.threads_may_go_by.ensures.process d actions more

pub returns-clause-carried : goal.returns-clause-carried
unfolding process_with automaton_with
returns-clause-carried g c plan page table p from old new fresh carries =
    let Q = g.Q.Ratifier.protocol in
    let P = process_with g.Q.Machine.kind_of g.Q.Machine.op g.Q.Machine.fed Q in
    let X = elector g.Q.Machine.kind_of g.Q.Machine.op g.Q.Machine.fed Q plan in
    let x = sizes g.Q.Machine.kind_of g.Q.Machine.op g.Q.Machine.fed Q plan in
    carries.actions
    ∙ ap (λ l. l ++ puts_from (next_of (P.queue old.core)) (waiting_of P from))
    (ap (λ t. t.actions) fresh.sender_trail)
    ∙ ap (λ n. puts_from n (waiting_of P from))
    (ap (λ d. next_of (P.queue d)) fresh.core ∙ next_new X x p plan.reuse (slice_index page.next p))
