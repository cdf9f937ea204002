use Rattle.std.proofs.Common.{IsSome, sym, ◌∙◌, ap, subst}
use Rattle.std.proofs.lemmas.Bool.{true≢false}
use Rattle.bus_automaton.specs.Buses.{process_with}
use Rattle.bus_core.specs.Plain.{IsPlain, StoresPlain}
use Rattle.bus_tenure.specs.Elections.{election_with}
use Rattle.bus_pageslot.proofs.Ruled.Processes.{plain_op, plain_draws_none}
use Rattle.bus_pageslot.proofs.seats.Sender.plain_turn.Goals as goal

pub store_on-requires-clause-stores : goal.store_on-requires-clause-stores
store_on-requires-clause-stores g c =
    let X =
    election_with g.Q.Machine.kind_of g.Q.Machine.op g.Q.Machine.fed g.Q.Ratifier.protocol in
    subst (λ s. StoresPlain X s.core c.plain.new.at c.plain.new.value) c.self.view_is
    (c.plain.ensures.stores c.if-not-plain.false)

pub returns-clause-due : goal.returns-clause-due
returns-clause-due g c is =
    let P = process_with g.Q.Machine.kind_of g.Q.Machine.op g.Q.Machine.fed g.Q.Ratifier.protocol in
    subst (λ s. IsSome (P.op s.core c.args.word)) c.self.view_is
    (plain_op g.Q.Machine.kind_of g.Q.Machine.op g.Q.Machine.fed g.Q.Ratifier.protocol
    c.self.inside.core (c.plain.ensures.stores c.if-not-plain.false).plain c.args.word)

pub returns-clause-wordless : goal.returns-clause-wordless
returns-clause-wordless g c is =
    let P = process_with g.Q.Machine.kind_of g.Q.Machine.op g.Q.Machine.fed g.Q.Ratifier.protocol in
    ap (λ s. P.wants_word s.core) (sym c.self.view_is)
    ∙ plain_draws_none g.Q.Machine.kind_of g.Q.Machine.op g.Q.Machine.fed g.Q.Ratifier.protocol
    c.self.inside.core (c.plain.ensures.stores c.if-not-plain.false).plain

pub returns-clause-plain : goal.returns-clause-plain
returns-clause-plain g c is =
    let X =
    election_with g.Q.Machine.kind_of g.Q.Machine.op g.Q.Machine.fed g.Q.Ratifier.protocol in
    subst (λ s. IsPlain X s.core) c.self.view_is (c.plain.ensures.stores c.if-not-plain.false).plain

pub returns-then-not-plain-clause-exact : goal.returns-then-not-plain-clause-exact
returns-then-not-plain-clause-exact g c plain =
    let X =
    election_with g.Q.Machine.kind_of g.Q.Machine.op g.Q.Machine.fed g.Q.Ratifier.protocol in
    absurd
    (true≢false
    (sym (c.plain.ensures.exact (subst (λ s. IsPlain X s.core) (sym c.self.view_is) plain))
    ∙ c.if-not-plain.true))
