use Rattle.std.proofs.Common.{take}
use Rattle.bus_automaton.specs.Buses.{process_with}
use Rattle.bus_pageslot.specs.Sendings.{TakesAll}
use Rattle.bus_pageslot.proofs.seats.Sender.carry_to.Given as goal

abbrev pub invariant-loop-message : goal.invariant-loop-message
invariant-loop-message g l =
    let P = process_with g.Q.Machine.kind_of g.Q.Machine.op g.Q.Machine.fed g.Q.Ratifier.protocol in
    TakesAll P l.fn.next (take l.message-index l.waiting) l.next
