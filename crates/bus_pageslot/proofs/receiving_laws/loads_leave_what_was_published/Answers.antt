use Rattle.std.proofs.Common.{slice_index}
use Rattle.bus_automaton.specs.Buses.{process_with, automaton_with}
use Rattle.bus_pageslot.proofs.Said.Lasting.{joined_leaves, look_leaves, turn_word_leaves}
use Rattle.bus_pageslot.proofs.Said.Lasting.{word_leaves}
use Rattle.bus_pageslot.proofs.receiving_laws.loads_leave_what_was_published.Goals as goal

pub returns-clause-word : goal.returns-clause-word
returns-clause-word g c plan s seat x e place r at may below =
    let P = process_with g.Q.Machine.kind_of g.Q.Machine.op g.Q.Machine.fed g.Q.Ratifier.protocol in
    let A =
    automaton_with g.Q.Machine.kind_of g.Q.Machine.op g.Q.Machine.fed g.Q.Ratifier.protocol plan in
    word_leaves P A (c.threads_may_go_by.ensures.automaton plan) s r seat x e at place may
    below

pub returns-clause-turns : goal.returns-clause-turns
returns-clause-turns g c plan s seat x e r at going may below =
    let P = process_with g.Q.Machine.kind_of g.Q.Machine.op g.Q.Machine.fed g.Q.Ratifier.protocol in
    let A =
    automaton_with g.Q.Machine.kind_of g.Q.Machine.op g.Q.Machine.fed g.Q.Ratifier.protocol plan in
    turn_word_leaves P A (c.threads_may_go_by.ensures.automaton plan) s r seat x e at going
    may below

pub returns-clause-looks : goal.returns-clause-looks
returns-clause-looks g c plan s seat at v r here =
    let P = process_with g.Q.Machine.kind_of g.Q.Machine.op g.Q.Machine.fed g.Q.Ratifier.protocol in
    let A =
    automaton_with g.Q.Machine.kind_of g.Q.Machine.op g.Q.Machine.fed g.Q.Ratifier.protocol plan in
    look_leaves P A s r seat (record { word = at; found = slice_index s.words at }) v here

pub returns-clause-joined : goal.returns-clause-joined
returns-clause-joined g c plan s seat v y e carried r is at =
    let P = process_with g.Q.Machine.kind_of g.Q.Machine.op g.Q.Machine.fed g.Q.Ratifier.protocol in
    let A =
    automaton_with g.Q.Machine.kind_of g.Q.Machine.op g.Q.Machine.fed g.Q.Ratifier.protocol plan in
    joined_leaves P A (c.threads_may_go_by.ensures.automaton plan) s r seat v is y e carried
    at
