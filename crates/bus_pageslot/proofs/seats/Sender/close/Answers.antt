use Rattle.std.proofs.Common.{◌≡◌, subst}
use Rattle.std.specs.Prelude.{◌++◌, [], ◌∷◌, OnOk, IfErr}
use Rattle.bus_automaton.specs.Buses.{process_with}
use Rattle.bus_batch.specs.Batches.{CanClose, IsCloseFault}
use Rattle.bus_batch.specs.declared.messages.Mark.TheVariants.{End}
use Rattle.bus_world.specs.Headline.{HasMarked}
use Rattle.bus_pageslot.specs.Seats.{actions_of}
use Rattle.bus_pageslot.proofs.Sends.Puts.{shows_mark, mark_done}
use Rattle.bus_pageslot.proofs.seats.Sender.close.Goals as goal

pub invariant_of-self : goal.invariant_of-self
unfolding process_with
invariant_of-self g c = (
  shows_mark (process_with g.Q.Machine.kind_of g.Q.Machine.op g.Q.Machine.fed g.Q.Ratifier.protocol)
      c.threads_may_go_by.ensures.process c.self.inside.core c.self.inside.seat c.self.invariant.0
      End c.close.new.self
      c.close.result c.close.ensures.taken c.close.ensures.could c.close.ensures.refused,
  c.self.invariant.1,
)

pub returns-clause-taken : goal.returns-clause-taken
unfolding process_with
returns-clause-taken g c =
    let P = process_with g.Q.Machine.kind_of g.Q.Machine.op g.Q.Machine.fed g.Q.Ratifier.protocol in
    subst (λ z. OnOk c.close.result (c.close.new.self ≡ P.with_mark z.core End)) c.self.view_is
    c.close.ensures.taken

pub returns-clause-action : goal.returns-clause-action
unfolding process_with
returns-clause-action g c =
    let P = process_with g.Q.Machine.kind_of g.Q.Machine.op g.Q.Machine.fed g.Q.Ratifier.protocol in
    subst (λ z. OnOk c.close.result (actions_of P
    (record { core = c.close.new.self; seat = c.self.inside.seat })
    ≡ actions_of P z ++ HasMarked End ∷ [])) c.self.view_is
    (mark_done P c.threads_may_go_by.ensures.process c.self.inside.core c.self.inside.seat
    c.self.invariant.0 End c.close.new.self c.close.result c.close.ensures.taken
    c.close.ensures.could)

pub returns-clause-could : goal.returns-clause-could
unfolding process_with
returns-clause-could g c =
    let P = process_with g.Q.Machine.kind_of g.Q.Machine.op g.Q.Machine.fed g.Q.Ratifier.protocol in
    subst (λ z. OnOk c.close.result (CanClose (P.queue z.core))) c.self.view_is
    c.close.ensures.could

pub returns-clause-fault : goal.returns-clause-fault
unfolding process_with
returns-clause-fault g c =
    let P = process_with g.Q.Machine.kind_of g.Q.Machine.op g.Q.Machine.fed g.Q.Ratifier.protocol in
    subst (λ z. IfErr c.close.result (IsCloseFault (P.queue z.core))) c.self.view_is
    c.close.ensures.fault
