use Rattle.std.proofs.Common.{ℕ, ◌<◌, Option, sym, subst}
use Rattle.bus_register.specs.declared.registers.Op.{Op}
use Rattle.bus_register.specs.declared.registers.Op.TheVariants.{Store}
use Rattle.bus_core.specs.Senders.{Sender}
use Rattle.bus_core.specs.Telling.{FeedTells}
use Rattle.bus_tenure.specs.Elections.{Elector, election_with}
use Rattle.bus_tenure.specs.declared.turns.Turn.TheVariants.{Going}
use Rattle.bus_automaton.specs.Buses.{process_with}
use Rattle.bus_pageslot.specs.Steps.{Gone, GoesOn, Due}
use Rattle.bus_pageslot.proofs.SeatSteps.Plain.{due_staying, shows_staying, told_staying}
use Rattle.bus_pageslot.proofs.Ruled.Processes.{words_are, plain_moves, plain_handed, plain_answer}
use Rattle.bus_pageslot.proofs.steps.store_plain.Goals as goal

pub step-requires-clause-due : goal.step-requires-clause-due
unfolding process_with
step-requires-clause-due g c =
    let P = process_with g.Q.Machine.kind_of g.Q.Machine.op g.Q.Machine.fed g.Q.Ratifier.protocol in
    let d = c.args.core.now in
    let o : Op = Store record { 0 = c.args.at.now } c.args.value.now in
    let stays = plain_moves g.Q.Machine.kind_of g.Q.Machine.op g.Q.Machine.fed g.Q.Ratifier.protocol
    d c.requires.stores.plain in
    subst (λ (y : Option (Sender (Elector g.row.Q.Denot)) × ℕ).
    Due P y.0 y.1 c.args.seat.now.me c.args.seat.now.table_id.words o)
    (λ i. (sym c.requires.told.0 i, sym c.requires.told.1 i))
    (due_staying P d stays c.args.seat.now c.args.word o c.requires.shows
    (c.requires.stores.step c.args.word)
    (subst (λ n. c.args.at.now < n)
    (words_are g.Q.Machine.kind_of g.Q.Machine.op g.Q.Machine.fed g.Q.Ratifier.protocol d)
    c.requires.stores.below))

pub returns-clause-shows : goal.returns-clause-shows
unfolding process_with
returns-clause-shows g c =
    let P = process_with g.Q.Machine.kind_of g.Q.Machine.op g.Q.Machine.fed g.Q.Ratifier.protocol in
    let K = c.threads_may_go_by.ensures.process in
    let d = c.args.core.now in
    let stays = plain_moves g.Q.Machine.kind_of g.Q.Machine.op g.Q.Machine.fed g.Q.Ratifier.protocol
    d c.requires.stores.plain in
    let handed = plain_handed g.Q.Machine.kind_of g.Q.Machine.op g.Q.Machine.fed
    g.Q.Ratifier.protocol d c.requires.stores.plain in
    let gone : Gone P d c.args.word c.args.seat.now.me c.step.result c.step.new.seat.me =
    subst (λ (y : Option (Sender (Elector g.row.Q.Denot)) × ℕ).
    GoesOn P y.0 y.1 c.args.seat.now.me c.step.result c.step.new.seat.me)
    (λ i. (c.requires.told.0 i, c.requires.told.1 i)) c.step.ensures.goes in
    shows_staying P d stays K c.args.seat.now c.step.new.seat c.args.word c.step.result
    c.requires.shows handed gone c.plain_done.new.self
    (c.plain_done.ensures.state c.step.result c.args.word) c.step.ensures.table.0

pub returns-clause-took : goal.returns-clause-took
unfolding process_with
returns-clause-took g c =
    let P = process_with g.Q.Machine.kind_of g.Q.Machine.op g.Q.Machine.fed g.Q.Ratifier.protocol in
    let K = c.threads_may_go_by.ensures.process in
    let d = c.args.core.now in
    let got = c.step.result in
    let stays = plain_moves g.Q.Machine.kind_of g.Q.Machine.op g.Q.Machine.fed g.Q.Ratifier.protocol
    d c.requires.stores.plain in
    let handed = plain_handed g.Q.Machine.kind_of g.Q.Machine.op g.Q.Machine.fed
    g.Q.Ratifier.protocol d c.requires.stores.plain in
    let answer = plain_answer g.Q.Machine.kind_of g.Q.Machine.op g.Q.Machine.fed
    g.Q.Ratifier.protocol d c.requires.stores.plain got c.args.word in
    let gone : Gone P d c.args.word c.args.seat.now.me got c.step.new.seat.me =
    subst (λ (y : Option (Sender (Elector g.row.Q.Denot)) × ℕ).
    GoesOn P y.0 y.1 c.args.seat.now.me got c.step.new.seat.me)
    (λ i. (c.requires.told.0 i, c.requires.told.1 i)) c.step.ensures.goes in
    told_staying P d stays K c.args.seat.now c.step.new.seat c.args.word got c.requires.shows handed
    gone c.plain_done.new.self (c.plain_done.ensures.state got c.args.word) c.step.ensures.table.0
    (FeedTells
    (election_with g.Q.Machine.kind_of g.Q.Machine.op g.Q.Machine.fed g.Q.Ratifier.protocol)) Going
    answer (c.plain_done.ensures.tells got c.args.word)
