use Rattle.std.proofs.Common.{◌≡◌, subst}
use Rattle.std.specs.Prelude.{◌++◌, [], ◌∷◌, OnOk, IfErr}
use Rattle.bus_automaton.specs.Buses.{process_with}
use Rattle.bus_batch.specs.Batches.{CanClose, IsCloseFault}
use Rattle.bus_batch.specs.declared.messages.Mark.TheVariants.{Leave}
use Rattle.bus_world.specs.Headline.{HasMarked}
use Rattle.bus_pageslot.specs.Seats.{actions_of}
use Rattle.bus_pageslot.proofs.Sends.Puts.{shows_mark, mark_done}
use Rattle.bus_pageslot.proofs.seats.Sender.leave.Goals as goal

pub invariant_of-self : goal.invariant_of-self
unfolding process_with
invariant_of-self g c = (
  shows_mark (process_with g.Q.Machine.kind_of g.Q.Machine.op g.Q.Machine.fed g.Q.Ratifier.protocol)
      c.threads_may_go_by.ensures.process
      c.self.inside.core c.self.inside.seat c.self.invariant.0 Leave c.leave.new.self c.leave.result
      c.leave.ensures.taken c.leave.ensures.could c.leave.ensures.refused,
  c.self.invariant.1,
)

pub returns-clause-taken : goal.returns-clause-taken
unfolding process_with
returns-clause-taken g c =
    let P = process_with g.Q.Machine.kind_of g.Q.Machine.op g.Q.Machine.fed g.Q.Ratifier.protocol in
    subst (λ z. OnOk c.leave.result (c.leave.new.self ≡ P.with_mark z.core Leave)) c.self.view_is
    c.leave.ensures.taken

pub returns-clause-action : goal.returns-clause-action
unfolding process_with
returns-clause-action g c =
    let P = process_with g.Q.Machine.kind_of g.Q.Machine.op g.Q.Machine.fed g.Q.Ratifier.protocol in
    let now = actions_of P (record { core = c.leave.new.self; seat = c.self.inside.seat }) in
    subst (λ z. OnOk c.leave.result (now ≡ actions_of P z ++ HasMarked Leave ∷ [])) c.self.view_is
    (mark_done P c.threads_may_go_by.ensures.process c.self.inside.core c.self.inside.seat
    c.self.invariant.0 Leave c.leave.new.self
    c.leave.result c.leave.ensures.taken c.leave.ensures.could)

pub returns-clause-could : goal.returns-clause-could
unfolding process_with
returns-clause-could g c =
    let P = process_with g.Q.Machine.kind_of g.Q.Machine.op g.Q.Machine.fed g.Q.Ratifier.protocol in
    subst (λ z. OnOk c.leave.result (CanClose (P.queue z.core))) c.self.view_is
    c.leave.ensures.could

pub returns-clause-fault : goal.returns-clause-fault
unfolding process_with
returns-clause-fault g c =
    let P = process_with g.Q.Machine.kind_of g.Q.Machine.op g.Q.Machine.fed g.Q.Ratifier.protocol in
    subst (λ z. IfErr c.leave.result (IsCloseFault (P.queue z.core))) c.self.view_is
    c.leave.ensures.fault
