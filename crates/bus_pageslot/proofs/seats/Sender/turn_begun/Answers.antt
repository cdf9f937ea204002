use Rattle.std.proofs.Common.{◌≤◌, IfSome, subst}
use Rattle.bus_core.specs.Causes.{HasCause}
use Rattle.bus_core.specs.Places.{LiesAt}
use Rattle.bus_core.specs.Senders.{situation}
use Rattle.bus_ownerbits.specs.Sizes.{election_bound}
use Rattle.bus_register.specs.Words.{register}
use Rattle.bus_tenure.specs.Elections.{election_with}
use Rattle.bus_pageslot.specs.Turns.{tells_with}
use Rattle.bus_pageslot.proofs.Sends.Finishing.{turned_begun}
use Rattle.bus_pageslot.proofs.seats.Sender.turn_begun.Goals as goal

pub returns-clause-turned : goal.returns-clause-turned
unfolding tells_with
returns-clause-turned g c = record { rests = c.turn.ensures.rests; steps = c.turn.ensures.steps }

pub returns-clause-some : goal.returns-clause-some
unfolding tells_with
returns-clause-some g c =
    let X =
    election_with g.Q.Machine.kind_of g.Q.Machine.op g.Q.Machine.fed g.Q.Ratifier.protocol in
    let v = c.args.self.now.core in
    (turned_begun g.Q.Machine.kind_of g.Q.Machine.op g.Q.Machine.fed g.Q.Ratifier.protocol
    (election_bound g.Q.Ratifier.protocol.steps) c.elections_are_bounded.ensures c.args.self.now
    c.args.word c.turn.result c.turn.new.self
    (record { rests = c.turn.ensures.rests; steps = c.turn.ensures.steps })
    c.requires.begun
    (λ e. subst (λ n. 1 ≤ n) c.turns_left-left.ensures.turns
    (c.turns_left-left.ensures.running e))
    (subst (λ k. IfSome k (HasCause g.Q.Ratifier.protocol v)) c.kind-due.ensures.kind
    c.kind-due.ensures.cause)
    (subst (λ y. IfSome y (λ o. LiesAt v (situation X v) (register o))) c.due-step.ensures.step
    c.due-step.ensures.lies)).some

pub returns-clause-falls : goal.returns-clause-falls
unfolding tells_with
returns-clause-falls g c =
    let X =
    election_with g.Q.Machine.kind_of g.Q.Machine.op g.Q.Machine.fed g.Q.Ratifier.protocol in
    let v = c.args.self.now.core in
    (turned_begun g.Q.Machine.kind_of g.Q.Machine.op g.Q.Machine.fed g.Q.Ratifier.protocol
    (election_bound g.Q.Ratifier.protocol.steps) c.elections_are_bounded.ensures c.args.self.now
    c.args.word c.turn.result c.turn.new.self
    (record { rests = c.turn.ensures.rests; steps = c.turn.ensures.steps })
    c.requires.begun
    (λ e. subst (λ n. 1 ≤ n) c.turns_left-left.ensures.turns
    (c.turns_left-left.ensures.running e))
    (subst (λ k. IfSome k (HasCause g.Q.Ratifier.protocol v)) c.kind-due.ensures.kind
    c.kind-due.ensures.cause)
    (subst (λ y. IfSome y (λ o. LiesAt v (situation X v) (register o))) c.due-step.ensures.step
    c.due-step.ensures.lies)).falls

pub returns-clause-goes : goal.returns-clause-goes
unfolding tells_with
returns-clause-goes g c =
    let X =
    election_with g.Q.Machine.kind_of g.Q.Machine.op g.Q.Machine.fed g.Q.Ratifier.protocol in
    let v = c.args.self.now.core in
    (turned_begun g.Q.Machine.kind_of g.Q.Machine.op g.Q.Machine.fed g.Q.Ratifier.protocol
    (election_bound g.Q.Ratifier.protocol.steps) c.elections_are_bounded.ensures c.args.self.now
    c.args.word c.turn.result c.turn.new.self
    (record { rests = c.turn.ensures.rests; steps = c.turn.ensures.steps })
    c.requires.begun
    (λ e. subst (λ n. 1 ≤ n) c.turns_left-left.ensures.turns
    (c.turns_left-left.ensures.running e))
    (subst (λ k. IfSome k (HasCause g.Q.Ratifier.protocol v)) c.kind-due.ensures.kind
    c.kind-due.ensures.cause)
    (subst (λ y. IfSome y (λ o. LiesAt v (situation X v) (register o))) c.due-step.ensures.step
    c.due-step.ensures.lies)).outcome
