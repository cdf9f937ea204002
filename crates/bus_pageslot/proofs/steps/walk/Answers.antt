use Rattle.std.proofs.Common.{ℕ, Option, IsSome, refl, sym, ap, ◌∙◌, subst, []}
use Rattle.atomic_table.specs.Seated.{TableId}
use Rattle.bus_core.specs.Senders.{Sender}
use Rattle.bus_core.specs.Telling.{FeedTells}
use Rattle.bus_tenure.specs.Elections.{Elector, election_with}
use Rattle.bus_automaton.specs.Buses.{process_with}
use Rattle.bus_pageslot.specs.Steps.Accepts.{Nothing}
use Rattle.bus_pageslot.specs.Seats.{Took}
use Rattle.bus_pageslot.specs.Steps.{Gone, GoesOn}
use Rattle.bus_pageslot.proofs.SeatSteps.Walks.{ended, core_is, notes_now, laid_now, numbered_now}
use Rattle.bus_pageslot.proofs.SeatSteps.Walks.{me_now}
use Rattle.bus_pageslot.proofs.SeatSteps.Walks.{all_now, counted_now, wide_now}
use Rattle.bus_pageslot.proofs.steps.walk.Goals as goal

pub feed_of-turn-requires-clause-due : goal.feed_of-turn-requires-clause-due
unfolding process_with
feed_of-turn-requires-clause-due g c =
    let P = process_with g.Q.Machine.kind_of g.Q.Machine.op g.Q.Machine.fed g.Q.Ratifier.protocol in
    let K = c.threads_may_go_by.ensures.process in
    subst IsSome
    (sym (ap (λ k. P.op k c.args.word) c.put_out.ensures.core
    ∙ K.handed_op c.args.core.now c.args.word ∙ c.requires.due)) refl

pub take_in-requires-clause-page : goal.take_in-requires-clause-page
unfolding process_with
take_in-requires-clause-page g c =
    let P = process_with g.Q.Machine.kind_of g.Q.Machine.op g.Q.Machine.fed g.Q.Ratifier.protocol in
    let K = c.threads_may_go_by.ensures.process in
    let d = c.args.core.now in
    let gone : Gone P d c.args.word c.put_out.new.seat.me c.step-got.result c.step-got.new.seat.me =
    subst (λ (y : Option (Sender (Elector g.row.Q.Denot)) × ℕ).
    GoesOn P y.0 y.1 c.put_out.new.seat.me c.step-got.result c.step-got.new.seat.me)
    (λ i. (c.requires.told.0 i, c.requires.told.1 i)) c.step-got.ensures.goes in
    (ended P K d c.args.seat.now.me c.put_out.new.seat.me c.step-got.new.seat.me c.args.word
    c.step-got.result (ap (λ x. x.1) c.requires.shows.me) c.put_out.new.core c.feed_of-turn.new.self
    c.put_out.ensures.core c.put_out.ensures.me gone c.feed_of-turn.ensures.state).page

pub returns-clause-shows : goal.returns-clause-shows
unfolding process_with
returns-clause-shows g c =
    let P = process_with g.Q.Machine.kind_of g.Q.Machine.op g.Q.Machine.fed g.Q.Ratifier.protocol in
    let K = c.threads_may_go_by.ensures.process in
    let d = c.args.core.now in
    let gone : Gone P d c.args.word c.put_out.new.seat.me c.step-got.result c.step-got.new.seat.me =
    subst (λ (y : Option (Sender (Elector g.row.Q.Denot)) × ℕ).
    GoesOn P y.0 y.1 c.put_out.new.seat.me c.step-got.result c.step-got.new.seat.me)
    (λ i. (c.requires.told.0 i, c.requires.told.1 i)) c.step-got.ensures.goes in
    let table =
    c.take_in.ensures.table.0 ∙ c.step-got.ensures.table.0 ∙ c.put_out.ensures.table.0 in
    record {
      shown = c.take_in.new.core;
      actions = [];
      accepts = Nothing;
      counted = counted_now P K d c.args.seat.now.me c.put_out.new.seat.me c.step-got.new.seat.me
          c.args.word c.step-got.result (ap (λ x. x.1) c.requires.shows.me) c.put_out.new.core
          c.feed_of-turn.new.self c.put_out.ensures.core c.put_out.ensures.me gone
          c.feed_of-turn.ensures.state
          c.take_in.new.seat.me c.take_in.new.core c.take_in.ensures.core c.take_in.ensures.me;
      laid = laid_now P K d c.args.seat.now.me c.put_out.new.seat.me c.step-got.new.seat.me
          c.args.word c.step-got.result (ap (λ x. x.1) c.requires.shows.me) c.put_out.new.core
          c.feed_of-turn.new.self c.put_out.ensures.core c.put_out.ensures.me gone
          c.feed_of-turn.ensures.state
          c.take_in.new.seat.me c.take_in.new.core c.take_in.ensures.core c.take_in.ensures.me;
      numbered = numbered_now P K d c.args.seat.now.me c.put_out.new.seat.me c.step-got.new.seat.me
          c.args.word c.step-got.result (ap (λ x. x.1) c.requires.shows.me) c.put_out.new.core
          c.feed_of-turn.new.self c.put_out.ensures.core c.put_out.ensures.me gone
          c.feed_of-turn.ensures.state
          c.take_in.new.seat.me c.take_in.new.core c.take_in.ensures.core c.take_in.ensures.me;
      me = me_now P K d c.args.seat.now.me c.put_out.new.seat.me c.step-got.new.seat.me c.args.word
          c.step-got.result (ap (λ x. x.1) c.requires.shows.me) c.put_out.new.core
          c.feed_of-turn.new.self c.put_out.ensures.core c.put_out.ensures.me gone
          c.feed_of-turn.ensures.state
          c.take_in.new.seat.me c.take_in.new.core c.take_in.ensures.core c.take_in.ensures.me;
      words = wide_now P K d c.args.seat.now.me c.put_out.new.seat.me c.step-got.new.seat.me
          c.args.word c.step-got.result (ap (λ x. x.1) c.requires.shows.me) c.put_out.new.core
          c.feed_of-turn.new.self c.put_out.ensures.core c.put_out.ensures.me gone
          c.feed_of-turn.ensures.state
          c.take_in.new.seat.me c.take_in.new.core c.take_in.ensures.core c.take_in.ensures.me
          c.take_in.new.seat.table_id.words
          (ap (λ (z : TableId). z.words) table ∙ c.requires.shows.words);
      slots = ap (λ (z : TableId). z.slots) table ∙ c.requires.shows.slots;
    }

pub returns-clause-took : goal.returns-clause-took
unfolding process_with
returns-clause-took g c =
    let P = process_with g.Q.Machine.kind_of g.Q.Machine.op g.Q.Machine.fed g.Q.Ratifier.protocol in
    let K = c.threads_may_go_by.ensures.process in
    let d = c.args.core.now in
    let gone : Gone P d c.args.word c.put_out.new.seat.me c.step-got.result c.step-got.new.seat.me =
    subst (λ (y : Option (Sender (Elector g.row.Q.Denot)) × ℕ).
    GoesOn P y.0 y.1 c.put_out.new.seat.me c.step-got.result c.step-got.new.seat.me)
    (λ i. (c.requires.told.0 i, c.requires.told.1 i)) c.step-got.ensures.goes in
    let took : Took P (record { core = d; seat = c.args.seat.now }) c.args.word
    c.feed_of-turn.result (record { core = c.take_in.new.core; seat = c.take_in.new.seat }) =
    record {
      got = c.step-got.result;
      found = gone.found;
      told = gone.told;
      home = gone.home;
      taken = gone.taken;
      same_core = gone.core;
      same_answer = gone.answer;
      core = core_is P K d c.args.seat.now.me c.put_out.new.seat.me c.step-got.new.seat.me
          c.args.word c.step-got.result (ap (λ x. x.1) c.requires.shows.me) c.put_out.new.core
          c.feed_of-turn.new.self c.put_out.ensures.core c.put_out.ensures.me gone
          c.feed_of-turn.ensures.state
          c.take_in.new.seat.me c.take_in.new.core c.take_in.ensures.core c.take_in.ensures.me;
      answer =
          c.feed_of-turn.ensures.answer
          ∙ ap (λ k. P.answer k c.step-got.result c.args.word) c.put_out.ensures.core
          ∙ K.handed_answer d c.step-got.result c.args.word;
      sender_trail = all_now P K d c.args.seat.now.me c.put_out.new.seat.me c.step-got.new.seat.me
          c.args.word c.step-got.result (ap (λ x. x.1) c.requires.shows.me) c.put_out.new.core
          c.feed_of-turn.new.self c.put_out.ensures.core c.put_out.ensures.me gone
          c.feed_of-turn.ensures.state
          c.take_in.new.seat.me c.take_in.new.core c.take_in.ensures.core c.take_in.ensures.me;
      notes = notes_now P K d c.args.seat.now.me c.put_out.new.seat.me c.step-got.new.seat.me
          c.args.word c.step-got.result (ap (λ x. x.1) c.requires.shows.me) c.put_out.new.core
          c.feed_of-turn.new.self c.put_out.ensures.core c.put_out.ensures.me gone
          c.feed_of-turn.ensures.state
          c.take_in.new.seat.me c.take_in.new.core c.take_in.ensures.core c.take_in.ensures.me;
    } in
    record {
      took = took;
      tells = c.threads_may_go_by.ensures.tells d c.step-got.result c.args.word
          c.feed_of-turn.result
          (subst (λ k. FeedTells
          (election_with g.Q.Machine.kind_of g.Q.Machine.op g.Q.Machine.fed g.Q.Ratifier.protocol) k
          c.step-got.result c.args.word c.feed_of-turn.result) c.put_out.ensures.core
          c.feed_of-turn.ensures.tells);
    }
