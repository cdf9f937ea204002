use Rattle.std.proofs.Common.{ℕ, ◌<◌, ◌≤◌, Option, IfSome, IsSome, refl, sym, ◌∙◌, ap}
use Rattle.std.proofs.Common.{subst, unwrap_or}
use Rattle.bus_register.specs.Words.{register}
use Rattle.bus_core.specs.Senders.{Sender, words_all}
use Rattle.bus_core.specs.Telling.{FeedTells}
use Rattle.bus_tenure.specs.Elections.{Elector, election_with}
use Rattle.bus_tenure.specs.declared.turns.Turn.TheVariants.{Going}
use Rattle.bus_automaton.specs.Buses.{process_with}
use Rattle.bus_pageslot.specs.Rule.{stored_in}
use Rattle.bus_pageslot.specs.Steps.{Gone, GoesOn, Due, stored_by}
use Rattle.bus_pageslot.proofs.SeatSteps.ElectionRows.{elects_moves, elects_handed, length_stays}
use Rattle.bus_pageslot.proofs.SeatSteps.Plain.{due_staying, shows_staying, told_staying}
use Rattle.bus_pageslot.proofs.Ruled.Processes.{words_are}
use Rattle.bus_pageslot.proofs.steps.elect_once.Goals as goal

pub step-got-requires-clause-due : goal.step-got-requires-clause-due
unfolding process_with
step-got-requires-clause-due g c =
    let Q = g.Q.Ratifier.protocol in
    let P = process_with g.Q.Machine.kind_of g.Q.Machine.op g.Q.Machine.fed Q in
    let d = c.args.core.now in
    let stays = elects_moves g.Q.Machine.kind_of g.Q.Machine.op g.Q.Machine.fed Q d c.args.tenure
    c.requires.elects in
    subst (λ (y : Option (Sender (Elector g.row.Q.Denot)) × ℕ).
    Due P y.0 y.1 c.args.seat.now.me c.args.seat.now.table_id.words c.in-Some.op)
    (λ i. (sym c.requires.told.0 i, sym c.requires.told.1 i))
    (due_staying P d stays c.args.seat.now c.args.word c.in-Some.op c.requires.shows
    (sym c.election_next.ensures.step ∙ c.in-Some.is)
    (subst (λ n. register c.in-Some.op < n)
    (words_are g.Q.Machine.kind_of g.Q.Machine.op g.Q.Machine.fed Q d)
    (subst (λ r. IfSome r (λ o. register o < words_all d)) c.in-Some.is
    c.election_next.ensures.below)))

pub returns-clause-shows : goal.returns-clause-shows
unfolding process_with
returns-clause-shows g c =
    let Q = g.Q.Ratifier.protocol in
    let P = process_with g.Q.Machine.kind_of g.Q.Machine.op g.Q.Machine.fed Q in
    let d = c.args.core.now in
    let stays = elects_moves g.Q.Machine.kind_of g.Q.Machine.op g.Q.Machine.fed Q d c.args.tenure
    c.requires.elects in
    let handed = elects_handed g.Q.Machine.kind_of g.Q.Machine.op g.Q.Machine.fed Q d c.args.tenure
    c.requires.elects in
    let gone : Gone P d c.args.word c.args.seat.now.me c.step-got.result c.step-got.new.seat.me =
    subst (λ (y : Option (Sender (Elector g.row.Q.Denot)) × ℕ).
    GoesOn P y.0 y.1 c.args.seat.now.me c.step-got.result c.step-got.new.seat.me)
    (λ i. (c.requires.told.0 i, c.requires.told.1 i)) c.step-got.ensures.goes in
    shows_staying P d stays c.threads_may_go_by.ensures.process c.args.seat.now c.step-got.new.seat
    c.args.word c.step-got.result c.requires.shows handed gone c.elect_on.new.self
    c.elect_on.ensures.state c.step-got.ensures.table.0

pub returns-clause-took : goal.returns-clause-took
unfolding process_with
returns-clause-took g c =
    let Q = g.Q.Ratifier.protocol in
    let P = process_with g.Q.Machine.kind_of g.Q.Machine.op g.Q.Machine.fed Q in
    let X = election_with g.Q.Machine.kind_of g.Q.Machine.op g.Q.Machine.fed Q in
    let d = c.args.core.now in
    let stays = elects_moves g.Q.Machine.kind_of g.Q.Machine.op g.Q.Machine.fed Q d c.args.tenure
    c.requires.elects in
    let handed = elects_handed g.Q.Machine.kind_of g.Q.Machine.op g.Q.Machine.fed Q d c.args.tenure
    c.requires.elects in
    let gone : Gone P d c.args.word c.args.seat.now.me c.step-got.result c.step-got.new.seat.me =
    subst (λ (y : Option (Sender (Elector g.row.Q.Denot)) × ℕ).
    GoesOn P y.0 y.1 c.args.seat.now.me c.step-got.result c.step-got.new.seat.me)
    (λ i. (c.requires.told.0 i, c.requires.told.1 i)) c.step-got.ensures.goes in
    told_staying P d stays c.threads_may_go_by.ensures.process c.args.seat.now c.step-got.new.seat
    c.args.word c.step-got.result c.requires.shows handed gone c.elect_on.new.self
    c.elect_on.ensures.state c.step-got.ensures.table.0 (FeedTells X)
    (unwrap_or c.elect_on.result Going) c.elect_on.ensures.answer c.elect_on.ensures.tells

pub returns-clause-stored : goal.returns-clause-stored
unfolding process_with
returns-clause-stored g c =
    let Q = g.Q.Ratifier.protocol in
    let P = process_with g.Q.Machine.kind_of g.Q.Machine.op g.Q.Machine.fed Q in
    let before = stored_in c.args.seat.now.me.0 in
    let gone : Gone P c.args.core.now c.args.word c.args.seat.now.me c.step-got.result
    c.step-got.new.seat.me =
    subst (λ (y : Option (Sender (Elector g.row.Q.Denot)) × ℕ).
    GoesOn P y.0 y.1 c.args.seat.now.me c.step-got.result c.step-got.new.seat.me)
    (λ i. (c.requires.told.0 i, c.requires.told.1 i)) c.step-got.ensures.goes in
    ap (λ m. stored_in m.0) gone.now
    ∙ ap (λ o. stored_by o before) (sym c.election_next.ensures.step ∙ c.in-Some.is)
    ∙ length_stays c.in-Some.op before
    (subst (λ r. IfSome r (λ o. 2 ≤ register o)) c.in-Some.is c.election_next.ensures.behind)

pub returns-clause-due : goal.returns-clause-due
unfolding process_with
returns-clause-due g c =
    subst IsSome (sym (sym c.election_next.ensures.step ∙ c.in-Some.is)) refl
