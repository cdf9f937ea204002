use Rattle.std.proofs.Common.{sym, ◌∙◌, ap, subst}
use Rattle.bus_automaton.specs.Buses.{process_with}
use Rattle.bus_core.specs.Plain.{StoresPlain}
use Rattle.bus_tenure.specs.Elections.{election_with}
use Rattle.bus_pageslot.specs.Rule.{stored_in}
use Rattle.bus_pageslot.specs.Steps.{stored_by}
use Rattle.bus_pageslot.proofs.SeatSteps.Plain.{stored_behind}
use Rattle.bus_pageslot.proofs.seats.Sender.store_on.Goals as goal

pub store_plain-requires-clause-stores : goal.store_plain-requires-clause-stores
store_plain-requires-clause-stores g c =
    let X =
    election_with g.Q.Machine.kind_of g.Q.Machine.op g.Q.Machine.fed g.Q.Ratifier.protocol in
    subst (λ s. StoresPlain X s.core c.args.at.now c.args.value.now) (sym c.self.view_is)
    c.requires.stores

pub invariant_of-self : goal.invariant_of-self
unfolding process_with
invariant_of-self g c =
    let X =
    election_with g.Q.Machine.kind_of g.Q.Machine.op g.Q.Machine.fed g.Q.Ratifier.protocol in
    let stores = subst (λ s. StoresPlain X s.core c.args.at.now c.args.value.now)
    (sym c.self.view_is) c.requires.stores in
    let before = stored_in c.self.inside.seat.me.0 in (
      c.store_plain.ensures.shows,
      c.self.invariant.1 ∙ sym (stored_behind c.args.at.now c.args.value.now before stores.behind)
          ∙ ap (λ o. stored_by o before) (sym (stores.step c.args.word))
          ∙ sym (ap (λ n. n.stored) c.store_plain.ensures.took.took.notes),
    )
