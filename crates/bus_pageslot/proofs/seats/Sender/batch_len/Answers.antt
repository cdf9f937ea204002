use Rattle.std.proofs.Common.{sym, ◌∙◌, ap, inl, inr, arith}
use Rattle.bus_automaton.specs.Buses.{process_with}
use Rattle.bus_pageslot.specs.Looks.{batch_len}
use Rattle.bus_pageslot.proofs.Sends.Looking.{frame_marked, frame_bare, batch_is}
use Rattle.bus_pageslot.proofs.seats.Sender.batch_len.Goals as goal
use Rattle.bus_pageslot.proofs.seats.Sender.batch_len.Goals.{then-is_closing-via-then-is_closing}
use Rattle.bus_pageslot.proofs.seats.Sender.batch_len.Goals.{
  then-is_closing-via-else-is_closing+then-is_leaving,
}

pub returns-then-is_closing : goal.returns-then-is_closing
returns-then-is_closing g c =
    let P = process_with g.Q.Machine.kind_of g.Q.Machine.op g.Q.Machine.fed g.Q.Ratifier.protocol in
    frame_marked c.self.inside.core.core.queue (elim c.then-is_closing.branch [
      | then-is_closing-via-then-is_closing w ↦
          inl (sym c.is_closing.ensures ∙ w.if-is_closing.true)
      | then-is_closing-via-else-is_closing+then-is_leaving w ↦
          inr (sym w.is_leaving.ensures ∙ w.if-is_leaving.true)
    ])
    ∙ batch_is g.Q.Machine.kind_of g.Q.Machine.op g.Q.Machine.fed g.Q.Ratifier.protocol
    c.self.inside.core
    ∙ ap (λ s. batch_len P s.core) c.self.view_is

pub returns-then-pending-eq0 : goal.returns-then-pending-eq0
returns-then-pending-eq0 g c =
    let P = process_with g.Q.Machine.kind_of g.Q.Machine.op g.Q.Machine.fed g.Q.Ratifier.protocol in
    frame_bare c.self.inside.core.core.queue
    (sym c.is_closing.ensures ∙ c.if-is_closing.false)
    (sym c.is_leaving.ensures ∙ c.if-is_leaving.false)
    (sym c.pending.ensures ∙ c.if-pending-eq0.true)
    ∙ batch_is g.Q.Machine.kind_of g.Q.Machine.op g.Q.Machine.fed g.Q.Ratifier.protocol
    c.self.inside.core
    ∙ ap (λ s. batch_len P s.core) c.self.view_is

pub frame_len-requires : goal.frame_len-requires
frame_len-requires g c =
    let some = c.if-pending-eq0.false in
    let many = c.pending.ensures in
    inl (omega arith)

pub returns : goal.returns
returns g c =
    let P = process_with g.Q.Machine.kind_of g.Q.Machine.op g.Q.Machine.fed g.Q.Ratifier.protocol in
    c.frame_len.ensures.len
    ∙ batch_is g.Q.Machine.kind_of g.Q.Machine.op g.Q.Machine.fed g.Q.Ratifier.protocol
    c.self.inside.core
    ∙ ap (λ s. batch_len P s.core) c.self.view_is
