use Rattle.std.proofs.Common.{ℕ, ◌+◌, ◌<◌, Option, sym, subst}
use Rattle.bus_register.specs.declared.registers.Op.{Op}
use Rattle.bus_register.specs.declared.registers.Op.TheVariants.{Store}
use Rattle.bus_core.specs.Plain.{stored_on}
use Rattle.bus_core.specs.Senders.{Sender}
use Rattle.bus_core.specs.Telling.{FeedTells}
use Rattle.bus_tenure.specs.Elections.{Elector, election_with}
use Rattle.bus_tenure.specs.declared.turns.Turn.TheVariants.{Going}
use Rattle.bus_automaton.specs.Buses.{process_with}
use Rattle.bus_pageslot.specs.Steps.{Gone, GoesOn, Due}
use Rattle.bus_pageslot.proofs.SeatSteps.Plain.{due_staying, shows_staying, told_staying}
use Rattle.bus_pageslot.proofs.SeatSteps.PlainRows.{fed_behind}
use Rattle.bus_pageslot.proofs.Ruled.Processes.{words_are, plain_moves, plain_handed, plain_answer}
use Rattle.bus_pageslot.proofs.steps.store_behind.Goals as goal

pub step-requires-clause-due : goal.step-requires-clause-due
unfolding process_with
step-requires-clause-due g c =
    let Q = g.Q.Ratifier.protocol in
    let P = process_with g.Q.Machine.kind_of g.Q.Machine.op g.Q.Machine.fed Q in
    let X = election_with g.Q.Machine.kind_of g.Q.Machine.op g.Q.Machine.fed Q in
    let d = stored_on X c.args.core.now c.args.taken in
    let o : Op = Store record { 0 = c.args.at } c.args.value in
    let stays = plain_moves g.Q.Machine.kind_of g.Q.Machine.op g.Q.Machine.fed Q d
    c.requires.stores.plain in
    subst (λ (y : Option (Sender (Elector g.row.Q.Denot)) × ℕ).
    Due P y.0 y.1 c.args.seat.now.me c.args.seat.now.table_id.words o)
    (λ i. (sym c.requires.told.0 i, sym c.requires.told.1 i))
    (due_staying P d stays c.args.seat.now 0 o c.requires.shows (c.requires.stores.step 0)
    (subst (λ n. c.args.at < n)
    (words_are g.Q.Machine.kind_of g.Q.Machine.op g.Q.Machine.fed Q d) c.requires.stores.below))

pub returns-clause-shows : goal.returns-clause-shows
unfolding process_with
returns-clause-shows g c =
    let Q = g.Q.Ratifier.protocol in
    let P = process_with g.Q.Machine.kind_of g.Q.Machine.op g.Q.Machine.fed Q in
    let X = election_with g.Q.Machine.kind_of g.Q.Machine.op g.Q.Machine.fed Q in
    let K = c.threads_may_go_by.ensures.process in
    let d = stored_on X c.args.core.now c.args.taken in
    let got = c.step.result in
    let plain = c.requires.stores.plain in
    let stays = plain_moves g.Q.Machine.kind_of g.Q.Machine.op g.Q.Machine.fed Q d plain in
    let handed = plain_handed g.Q.Machine.kind_of g.Q.Machine.op g.Q.Machine.fed Q d plain in
    let gone : Gone P d 0 c.args.seat.now.me got c.step.new.seat.me =
    subst (λ (y : Option (Sender (Elector g.row.Q.Denot)) × ℕ).
    GoesOn P y.0 y.1 c.args.seat.now.me got c.step.new.seat.me)
    (λ i. (c.requires.told.0 i, c.requires.told.1 i)) c.step.ensures.goes in
    shows_staying P d stays K c.args.seat.now c.step.new.seat 0 got c.requires.shows handed gone
    (stored_on X c.args.core.now (c.args.taken + 1))
    (fed_behind g.Q.Machine.kind_of g.Q.Machine.op g.Q.Machine.fed Q c.args.core.now c.args.taken
    plain got 0)
    c.step.ensures.table.0

pub returns-clause-took : goal.returns-clause-took
unfolding process_with
returns-clause-took g c =
    let Q = g.Q.Ratifier.protocol in
    let P = process_with g.Q.Machine.kind_of g.Q.Machine.op g.Q.Machine.fed Q in
    let X = election_with g.Q.Machine.kind_of g.Q.Machine.op g.Q.Machine.fed Q in
    let K = c.threads_may_go_by.ensures.process in
    let d = stored_on X c.args.core.now c.args.taken in
    let got = c.step.result in
    let plain = c.requires.stores.plain in
    let stays = plain_moves g.Q.Machine.kind_of g.Q.Machine.op g.Q.Machine.fed Q d plain in
    let handed = plain_handed g.Q.Machine.kind_of g.Q.Machine.op g.Q.Machine.fed Q d plain in
    let answer = plain_answer g.Q.Machine.kind_of g.Q.Machine.op g.Q.Machine.fed Q d plain got 0 in
    let gone : Gone P d 0 c.args.seat.now.me got c.step.new.seat.me =
    subst (λ (y : Option (Sender (Elector g.row.Q.Denot)) × ℕ).
    GoesOn P y.0 y.1 c.args.seat.now.me got c.step.new.seat.me)
    (λ i. (c.requires.told.0 i, c.requires.told.1 i)) c.step.ensures.goes in
    told_staying P d stays K c.args.seat.now c.step.new.seat 0 got c.requires.shows handed gone
    (stored_on X c.args.core.now (c.args.taken + 1))
    (fed_behind g.Q.Machine.kind_of g.Q.Machine.op g.Q.Machine.fed Q c.args.core.now c.args.taken
    plain got 0)
    c.step.ensures.table.0 (FeedTells X) Going answer (c.requires.tells got)
