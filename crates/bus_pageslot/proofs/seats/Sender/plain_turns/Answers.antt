use Rattle.std.proofs.Common.{arith, sym, ◌∙◌, subst}
use Rattle.std.proofs.lemmas.Bool.{true≢false}
use Rattle.bus_core.specs.Plain.{IsPlain, StoresPlain}
use Rattle.bus_tenure.specs.Elections.{election_with}
use Rattle.bus_pageslot.specs.Turns.{NoneYet}
use Rattle.bus_pageslot.proofs.seats.Sender.plain_turns.Goals as goal

pub returns-then-not-plain-clause-exact : goal.returns-then-not-plain-clause-exact
returns-then-not-plain-clause-exact g c plain =
    let X =
    election_with g.Q.Machine.kind_of g.Q.Machine.op g.Q.Machine.fed g.Q.Ratifier.protocol in
    absurd
    (true≢false
    (sym (c.plain.ensures.exact (subst (λ s. IsPlain X s.core) (sym c.self.view_is) plain))
    ∙ c.if-not-plain.true))

pub returns-then-not-plain-clause-goes : goal.returns-then-not-plain-clause-goes
returns-then-not-plain-clause-goes g c = NoneYet

pub clear_turns-cleared-requires-clause-stores : goal.clear_turns-cleared-requires-clause-stores
clear_turns-cleared-requires-clause-stores g c =
    let X =
    election_with g.Q.Machine.kind_of g.Q.Machine.op g.Q.Machine.fed g.Q.Ratifier.protocol in (
      c.plain.new.value,
      subst (λ s. StoresPlain X s.core c.plain.new.at c.plain.new.value) c.self.view_is
          (c.plain.ensures.stores c.if-not-plain.false),
    )

pub frame_turns-requires-clause-stores : goal.frame_turns-requires-clause-stores
frame_turns-requires-clause-stores g c =
    let X =
    election_with g.Q.Machine.kind_of g.Q.Machine.op g.Q.Machine.fed g.Q.Ratifier.protocol in
    let none = c.if-cleared-gt0.false in
    let same = c.clear_turns-cleared.ensures.stays (omega (arith, none)) in
    subst (λ s. StoresPlain X s.core c.plain.new.at c.plain.new.value) (c.self.view_is ∙ sym same)
    (c.plain.ensures.stores c.if-not-plain.false)
