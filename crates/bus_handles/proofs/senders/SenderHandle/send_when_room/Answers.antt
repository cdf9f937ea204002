use Rattle.bus_automaton.specs.Buses.{process_with, automaton_with}
use Rattle.bus_pageslot.specs.Room.{SendsForRoom, StopsForRoom}
use Rattle.bus_pageslot.specs.Turns.{tells_with}
use Rattle.bus_handles.proofs.SendingLaws.{of_plan, none_of_plan}
use Rattle.bus_handles.proofs.senders.SenderHandle.send_when_room.Goals as goal

pub returns-clause-sends : goal.returns-clause-sends
returns-clause-sends g c =
    let P = process_with g.Q.Machine.kind_of g.Q.Machine.op g.Q.Machine.fed g.Q.Ratifier.protocol in
    let A =
    automaton_with g.Q.Machine.kind_of g.Q.Machine.op g.Q.Machine.fed g.Q.Ratifier.protocol in
    let T = tells_with g.Q.Machine.kind_of g.Q.Machine.op g.Q.Machine.fed g.Q.Ratifier.protocol in
    let old = c.self.inside.sender in
    let new = c.send_when_room.new.self in
    rw (← c.self.view_is)
    (of_plan (λ plan turn. SendsForRoom P (A plan) T (goal.F-step g) old c.args.go_on turn new)
    c.deref-bus.result.now.plan c.send_when_room.result c.send_when_room.ensures.sends)

pub returns-clause-stops : goal.returns-clause-stops
returns-clause-stops g c =
    let P = process_with g.Q.Machine.kind_of g.Q.Machine.op g.Q.Machine.fed g.Q.Ratifier.protocol in
    let A =
    automaton_with g.Q.Machine.kind_of g.Q.Machine.op g.Q.Machine.fed g.Q.Ratifier.protocol in
    let T = tells_with g.Q.Machine.kind_of g.Q.Machine.op g.Q.Machine.fed g.Q.Ratifier.protocol in
    let old = c.self.inside.sender in
    let new = c.send_when_room.new.self in
    rw (← c.self.view_is)
    (none_of_plan (λ plan. StopsForRoom P (A plan) T (goal.F-step g) old c.args.go_on new)
    c.deref-bus.result.now.plan c.send_when_room.result c.send_when_room.ensures.stops)

pub returns-clause-fits : goal.returns-clause-fits
returns-clause-fits g c = rw (← c.self.view_is) c.send_when_room.ensures.fits

pub returns-clause-never : goal.returns-clause-never
returns-clause-never g c = rw (← c.self.view_is) c.send_when_room.ensures.never
