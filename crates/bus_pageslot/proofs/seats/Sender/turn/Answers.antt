use Rattle.std.proofs.Common.{◌≡◌, Some, None, subst}
use Rattle.bus_automaton.specs.Buses.{process_with}
use Rattle.bus_core.specs.Telling.{FeedTells, RestTells}
use Rattle.bus_register.specs.declared.registers.Op.{Op}
use Rattle.bus_tenure.specs.Elections.{election_with}
use Rattle.bus_pageslot.specs.Seats.{TookAndTold}
use Rattle.bus_pageslot.proofs.SeatSteps.Plain.{due_some}
use Rattle.bus_pageslot.proofs.seats.Sender.turn.Goals as goal

pub returns-then-plain_turn-clause-rests : goal.returns-then-plain_turn-clause-rests
returns-then-plain_turn-clause-rests g c none =
    let P = process_with g.Q.Machine.kind_of g.Q.Machine.op g.Q.Machine.fed g.Q.Ratifier.protocol in
    absurd (due_some (P.op c.args.self.now.core c.args.word)
    (c.plain_turn.ensures.due c.if-plain_turn.true) none)

pub returns-then-plain_turn-clause-steps : goal.returns-then-plain_turn-clause-steps
returns-then-plain_turn-clause-steps g c op due = c.plain_turn.ensures.steps c.if-plain_turn.true

pub returns-clause-rests : goal.returns-clause-rests
returns-clause-rests g c none =
    let P = process_with g.Q.Machine.kind_of g.Q.Machine.op g.Q.Machine.fed g.Q.Ratifier.protocol in
    let same = c.plain_turn.ensures.stays c.if-plain_turn.false in
    subst (λ z.
    P.op z.core c.args.word ≡ None
    → (c.full_turn.new.self ≡ z) × (c.full_turn.result ≡ P.rest z.core)
    × RestTells z.core c.full_turn.result) same
    c.full_turn.ensures.rests none

pub returns-clause-steps : goal.returns-clause-steps
returns-clause-steps g c op due =
    let P = process_with g.Q.Machine.kind_of g.Q.Machine.op g.Q.Machine.fed g.Q.Ratifier.protocol in
    let X =
    election_with g.Q.Machine.kind_of g.Q.Machine.op g.Q.Machine.fed g.Q.Ratifier.protocol in
    let same = c.plain_turn.ensures.stays c.if-plain_turn.false in
    subst (λ z.
    (o : Op) → P.op z.core c.args.word ≡ Some o
    → TookAndTold P (FeedTells X) z c.args.word c.full_turn.result c.full_turn.new.self) same
    c.full_turn.ensures.steps op due
