use Rattle.std.proofs.Common.{◌≡◌, true, refl}
use Rattle.bus_automaton.specs.Buses.{process_with, automaton_with}
use Rattle.bus_automaton.specs.declared.plans.Plan.{Plan}
use Rattle.bus_tenure.specs.Classes.{is_refusal}
use Rattle.bus_pageslot.specs.Room.{SendsForRoom}
use Rattle.bus_pageslot.specs.Sendings.{KeptAfter}
use Rattle.bus_pageslot.specs.Turns.{tells_with}
use Rattle.bus_handles.specs.Asking.{SaysYes}
use Rattle.bus_handles.proofs.SendingLaws.{delivers, delivers_none, but_one, of_answer}
use Rattle.bus_handles.proofs.SendingLaws.{sends_for_room_as, gave, never_of}
use Rattle.bus_handles.proofs.senders.SenderHandle.deliver_when_room.Goals as goal

pub returns-in-Ok-Some-clause-delivered : goal.returns-in-Ok-Some-clause-delivered
returns-in-Ok-Some-clause-delivered g c =
    let P = process_with g.Q.Machine.kind_of g.Q.Machine.op g.Q.Machine.fed g.Q.Ratifier.protocol in
    let A =
    automaton_with g.Q.Machine.kind_of g.Q.Machine.op g.Q.Machine.fed g.Q.Ratifier.protocol in
    let T = tells_with g.Q.Machine.kind_of g.Q.Machine.op g.Q.Machine.fed g.Q.Ratifier.protocol in
    let plan = c.deref-bus.result.now.plan in
    let old = c.self.inside.sender in
    let new = c.send_when_room.new.self in
    let sends = of_answer _ c.send_when_room.result c.in-Ok-Some.field-0 c.in-Ok-Some.turn
    c.in-Ok-Some.is c.in-Ok-Some.field-0-is c.send_when_room.ensures.sends in
    rw (← c.self.view_is)
    (delivers (λ t. (p : Plan) × SendsForRoom P (A p) T SaysYes old tt t new) c.in-Ok-Some.turn
    c.answered.result (
      plan,
      sends_for_room_as P (A plan) T _ SaysYes (λ f f' told. refl) old _ c.in-Ok-Some.turn new
          sends,
    )
    c.answered.ensures.delivered)

pub returns-in-Ok-Some-clause-not_delivered : goal.returns-in-Ok-Some-clause-not_delivered
returns-in-Ok-Some-clause-not_delivered g c =
    let P = process_with g.Q.Machine.kind_of g.Q.Machine.op g.Q.Machine.fed g.Q.Ratifier.protocol in
    let A =
    automaton_with g.Q.Machine.kind_of g.Q.Machine.op g.Q.Machine.fed g.Q.Ratifier.protocol in
    let T = tells_with g.Q.Machine.kind_of g.Q.Machine.op g.Q.Machine.fed g.Q.Ratifier.protocol in
    let plan = c.deref-bus.result.now.plan in
    let old = c.self.inside.sender in
    let new = c.send_when_room.new.self in
    let turn = c.in-Ok-Some.turn in
    let sends = of_answer _ c.send_when_room.result c.in-Ok-Some.field-0 turn c.in-Ok-Some.is
    c.in-Ok-Some.field-0-is c.send_when_room.ensures.sends in
    let keeps = of_answer (λ t. is_refusal t ≡ true → KeptAfter P old t new)
    c.send_when_room.result c.in-Ok-Some.field-0 turn c.in-Ok-Some.is c.in-Ok-Some.field-0-is
    c.send_when_room.ensures.keeps in
    rw (← c.self.view_is) (but_one _ c.answered.result (delivers_none P
    (λ t. (p : Plan) × SendsForRoom P (A p) T SaysYes old tt t new) old turn new c.answered.result
    (plan, sends_for_room_as P (A plan) T _ SaysYes (λ f f' told. refl) old _ turn new sends) keeps
    c.answered.ensures.not_delivered))

pub returns-in-Ok-Some-clause-never : goal.returns-in-Ok-Some-clause-never
returns-in-Ok-Some-clause-never g c =
    let fits = gave _ c.send_when_room.result c.in-Ok-Some.field-0 c.in-Ok-Some.is
    c.send_when_room.ensures.fits in
    rw (← c.self.view_is)
    (never_of _ c.in-Ok-Some.turn c.answered.result fits c.answered.ensures.not_delivered)
