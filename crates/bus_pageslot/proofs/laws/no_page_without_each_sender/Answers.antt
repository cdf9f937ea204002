use Rattle.std.proofs.Common.{[], refl}
use Rattle.bus_automaton.specs.Buses.{process_with, automaton_with}
use Rattle.bus_pageslot.proofs.Ruled.OnePage.{no_bus, no_empty, no_page}
use Rattle.bus_pageslot.proofs.laws.no_page_without_each_sender.Goals as goal

pub returns-clause-shown : goal.returns-clause-shown
returns-clause-shown g c plan s v sender_trail notes many me is =
    let P = process_with g.Q.Machine.kind_of g.Q.Machine.op g.Q.Machine.fed g.Q.Ratifier.protocol in
    let A =
    automaton_with g.Q.Machine.kind_of g.Q.Machine.op g.Q.Machine.fed g.Q.Ratifier.protocol plan in
    no_bus P A s many v sender_trail notes me is

pub returns-clause-promised : goal.returns-clause-promised
returns-clause-promised g c x base log s v sender_trail notes many me is =
    no_page (process_with g.Q.Machine.kind_of g.Q.Machine.op g.Q.Machine.fed g.Q.Ratifier.protocol)
    x base log s many v sender_trail notes me is

pub returns-clause-empty : goal.returns-clause-empty
returns-clause-empty g c x base s some =
    no_empty (process_with g.Q.Machine.kind_of g.Q.Machine.op g.Q.Machine.fed g.Q.Ratifier.protocol)
    x base [] s some refl
