use Rattle.std.proofs.Common.{◌≡◌, sym, ◌∙◌, ap, subst}
use Rattle.bus_automaton.specs.Buses.{process_with}
use Rattle.bus_core.specs.Doings.{step_of}
use Rattle.bus_core.specs.Senders.{situation}
use Rattle.bus_core.specs.Table.{line_now}
use Rattle.bus_tenure.specs.Elections.{election_with}
use Rattle.bus_pageslot.proofs.seats.Sender.wants_word_for.Goals as goal

pub wants_word_of-requires : goal.wants_word_of-requires
wants_word_of-requires g c =
    let X =
    election_with g.Q.Machine.kind_of g.Q.Machine.op g.Q.Machine.fed g.Q.Ratifier.protocol in
    subst (λ s. step_of (situation X s.core) ≡ c.args.next) (sym c.self.view_is) c.requires

pub returns : goal.returns
unfolding process_with
returns g c =
    let X =
    election_with g.Q.Machine.kind_of g.Q.Machine.op g.Q.Machine.fed g.Q.Ratifier.protocol in
    c.wants_word_of.ensures.word ∙ ap (λ s. (line_now X s.core).wants_word) c.self.view_is
