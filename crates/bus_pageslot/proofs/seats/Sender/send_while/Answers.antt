use Rattle.std.proofs.Common.{of_calls, arith, refl, sym, ◌∙◌, ap}
use Rattle.bus_world.specs.Headline.{puts}
use Rattle.bus_automaton.specs.Buses.{process_with}
use Rattle.bus_pageslot.specs.Seats.{actions_of}
use Rattle.bus_pageslot.specs.Turns.{tells_with, Begins, Goes, Asks, Undrawn}
use Rattle.bus_pageslot.proofs.SeatSteps.Plain.{goes_asking, goes_drawing, goes_putting}
use Rattle.bus_pageslot.proofs.Ruled.Keeping.{leaves_batch, going_keeps, refused_keeps}
use Rattle.bus_pageslot.proofs.SeatSteps.Rows.{last_of}
use Rattle.bus_pageslot.proofs.Sends.Sending.{turned_puts, drawn_on, asks_same, draws_same, goes_on}
use Rattle.bus_pageslot.proofs.Sends.Sending.{waiting_goes}
use Rattle.bus_pageslot.proofs.seats.Sender.send_while.Goals as goal

pub returns-then-ends_sending-clause-sends : goal.returns-then-ends_sending-clause-sends
unfolding tells_with
returns-then-ends_sending-clause-sends g c =
    let same = c.plain_turns.ensures.stays (let none = c.if-plain_turns-gt0.false in omega arith) in
    let row = last_of c.threads_may_go_by.ensures.process c.next_turns-turn.result
    c.next_turns-turn.new.self (g.R.Rng.stream c.next_turns-turn.new.rng)
    (asks_same same c.loop.invariant.1) (draws_same same c.loop.invariant.4)
    c.next_turns-turn.ensures.some in
    record {
      old = row.old;
      asked = c.loop.go_on;
      word = row.last.word;
      before = row.asks;
      turned = row.last.turned;
      last = sym c.ends_sending.ensures ∙ c.if-ends_sending.true;
    }

pub returns-then-ends_sending-clause-puts : goal.returns-then-ends_sending-clause-puts
unfolding tells_with
returns-then-ends_sending-clause-puts g c =
    let P = process_with g.Q.Machine.kind_of g.Q.Machine.op g.Q.Machine.fed g.Q.Ratifier.protocol in
    let T = tells_with g.Q.Machine.kind_of g.Q.Machine.op g.Q.Machine.fed g.Q.Ratifier.protocol in
    let same = c.plain_turns.ensures.stays (let none = c.if-plain_turns-gt0.false in omega arith) in
    let row = last_of c.threads_may_go_by.ensures.process c.next_turns-turn.result
    c.next_turns-turn.new.self (g.R.Rng.stream c.next_turns-turn.new.rng)
    (asks_same same c.loop.invariant.1) (draws_same same c.loop.invariant.4)
    c.next_turns-turn.ensures.some in
    turned_puts P T c.threads_may_go_by.ensures.process row.old row.last.word
    c.next_turns-turn.result c.next_turns-turn.new.self row.last.turned
    ∙ row.same ∙ ap (λ y. puts (actions_of P y)) same ∙ c.loop.invariant.3

pub returns-then-ends_sending-clause-keeps : goal.returns-then-ends_sending-clause-keeps
unfolding tells_with
returns-then-ends_sending-clause-keeps g c =
    let P = process_with g.Q.Machine.kind_of g.Q.Machine.op g.Q.Machine.fed g.Q.Ratifier.protocol in
    let T = tells_with g.Q.Machine.kind_of g.Q.Machine.op g.Q.Machine.fed g.Q.Ratifier.protocol in
    let same = c.plain_turns.ensures.stays (let none = c.if-plain_turns-gt0.false in omega arith) in
    let row = last_of c.threads_may_go_by.ensures.process c.next_turns-turn.result
    c.next_turns-turn.new.self (g.R.Rng.stream c.next_turns-turn.new.rng)
    (asks_same same c.loop.invariant.1) (draws_same same c.loop.invariant.4)
    c.next_turns-turn.ensures.some in
    refused_keeps P T
    (leaves_batch g.Q.Machine.kind_of g.Q.Machine.op g.Q.Machine.fed g.Q.Ratifier.protocol)
    c.args.self.now c.next_turns-turn.result c.next_turns-turn.new.self (record {
      old = row.old;
      word = row.last.word;
      before = goes_on P T (goal.F-step g) c.args.self.now c.args.go_on row.old c.loop.go_on
          row.asks;
      turned = row.last.turned;
      last = sym c.ends_sending.ensures ∙ c.if-ends_sending.true;
    })

pub returns-then-not-go_on-clause-waits : goal.returns-then-not-go_on-clause-waits
unfolding tells_with
returns-then-not-go_on-clause-waits g c =
    let P = process_with g.Q.Machine.kind_of g.Q.Machine.op g.Q.Machine.fed g.Q.Ratifier.protocol in
    let T = tells_with g.Q.Machine.kind_of g.Q.Machine.op g.Q.Machine.fed g.Q.Ratifier.protocol in
    let same = c.plain_turns.ensures.stays (let none = c.if-plain_turns-gt0.false in omega arith) in
    let row = last_of c.threads_may_go_by.ensures.process c.next_turns-turn.result
    c.next_turns-turn.new.self (g.R.Rng.stream c.next_turns-turn.new.rng)
    (asks_same same c.loop.invariant.1) (draws_same same c.loop.invariant.4)
    c.next_turns-turn.ensures.some in
    going_keeps P T
    (leaves_batch g.Q.Machine.kind_of g.Q.Machine.op g.Q.Machine.fed g.Q.Ratifier.protocol)
    c.args.self.now row.old row.last.word c.next_turns-turn.result c.next_turns-turn.new.self
    (goes_on P T (goal.F-step g) c.args.self.now c.args.go_on row.old c.loop.go_on row.asks)
    row.last.turned
    (waiting_goes c.next_turns-turn.result (sym c.is_waiting.ensures ∙ c.if-not-is_waiting.false))

pub loop-init : goal.loop-init
loop-init g c = (c.requires.callable, Begins, refl, refl, Undrawn)

-- plain steps were taken
pub loop-preserved-then-plain_turns-gt0 : goal.loop-preserved-then-plain_turns-gt0
unfolding tells_with
loop-preserved-then-plain_turns-gt0 g c =
    let P = process_with g.Q.Machine.kind_of g.Q.Machine.op g.Q.Machine.fed g.Q.Ratifier.protocol in
    let T = tells_with g.Q.Machine.kind_of g.Q.Machine.op g.Q.Machine.fed g.Q.Ratifier.protocol in
    let goes = c.plain_turns.ensures.goes in (
      c.loop.invariant.0,
      goes_asking P T (goal.F-step g) c.args.self.now c.args.go_on c.loop.go_on c.loop.self
          c.plain_turns.result c.plain_turns.new.self c.loop.invariant.1 goes,
      c.plain_turns.ensures.table ∙ c.loop.invariant.2,
      goes_putting P T c.threads_may_go_by.ensures.process c.loop.self c.plain_turns.result
          c.plain_turns.new.self goes ∙ c.loop.invariant.3,
      goes_drawing P T c.args.self.now (g.R.Rng.stream c.args.rng.now) (g.R.Rng.stream c.loop.rng)
          c.loop.self c.plain_turns.result c.plain_turns.new.self c.loop.invariant.4 goes,
    )

pub returns-then-not-go_on-clause-stops : goal.returns-then-not-go_on-clause-stops
unfolding tells_with
returns-then-not-go_on-clause-stops g c =
    let same = c.plain_turns.ensures.stays (let none = c.if-plain_turns-gt0.false in omega arith) in
    let row = last_of c.threads_may_go_by.ensures.process c.next_turns-turn.result
    c.next_turns-turn.new.self (g.R.Rng.stream c.next_turns-turn.new.rng)
    (asks_same same c.loop.invariant.1) (draws_same same c.loop.invariant.4)
    c.next_turns-turn.ensures.some in
    record {
      old = row.old;
      asked = c.loop.go_on;
      word = row.last.word;
      before = row.asks;
      turned = row.last.turned;
      answer = c.next_turns-turn.result;
      waits = sym c.is_waiting.ensures ∙ c.if-not-is_waiting.false;
      left = c.go_on.new.self;
      told = c.if-not-go_on.ensures;
    }

pub returns-then-not-go_on-clause-puts : goal.returns-then-not-go_on-clause-puts
unfolding tells_with
returns-then-not-go_on-clause-puts g c =
    let P = process_with g.Q.Machine.kind_of g.Q.Machine.op g.Q.Machine.fed g.Q.Ratifier.protocol in
    let T = tells_with g.Q.Machine.kind_of g.Q.Machine.op g.Q.Machine.fed g.Q.Ratifier.protocol in
    let same = c.plain_turns.ensures.stays (let none = c.if-plain_turns-gt0.false in omega arith) in
    let row = last_of c.threads_may_go_by.ensures.process c.next_turns-turn.result
    c.next_turns-turn.new.self (g.R.Rng.stream c.next_turns-turn.new.rng)
    (asks_same same c.loop.invariant.1) (draws_same same c.loop.invariant.4)
    c.next_turns-turn.ensures.some in
    turned_puts P T c.threads_may_go_by.ensures.process row.old row.last.word
    c.next_turns-turn.result c.next_turns-turn.new.self row.last.turned
    ∙ row.same ∙ ap (λ y. puts (actions_of P y)) same ∙ c.loop.invariant.3

-- another sender has to go on first, and the function said yes
pub loop-preserved : goal.loop-preserved
unfolding tells_with
loop-preserved g c =
    let P = process_with g.Q.Machine.kind_of g.Q.Machine.op g.Q.Machine.fed g.Q.Ratifier.protocol in
    let T = tells_with g.Q.Machine.kind_of g.Q.Machine.op g.Q.Machine.fed g.Q.Ratifier.protocol in
    let same = c.plain_turns.ensures.stays (let none = c.if-plain_turns-gt0.false in omega arith) in
    let row = last_of c.threads_may_go_by.ensures.process c.next_turns-turn.result
    c.next_turns-turn.new.self (g.R.Rng.stream c.next_turns-turn.new.rng)
    (asks_same same c.loop.invariant.1) (draws_same same c.loop.invariant.4)
    c.next_turns-turn.ensures.some in (
      search of_calls,
      Asks row.old c.loop.go_on row.last.word c.next_turns-turn.result c.next_turns-turn.new.self
          c.go_on.new.self row.asks row.last.turned
          (sym c.is_waiting.ensures ∙ c.if-not-is_waiting.false) c.if-not-go_on.ensures,
      c.next_turns-turn.ensures.table ∙ c.plain_turns.ensures.table ∙ c.loop.invariant.2,
      turned_puts P T c.threads_may_go_by.ensures.process row.old row.last.word
          c.next_turns-turn.result c.next_turns-turn.new.self row.last.turned
          ∙ row.same ∙ ap (λ y. puts (actions_of P y)) same ∙ c.loop.invariant.3,
      drawn_on P T c.args.self.now (g.R.Rng.stream c.args.rng.now) row.old row.before row.last.word
          c.next_turns-turn.result c.next_turns-turn.new.self
          (g.R.Rng.stream c.next_turns-turn.new.rng) row.last.drawn row.draws row.last.turned,
    )

pub loop-preserved-then-not-is_waiting : goal.loop-preserved-then-not-is_waiting
unfolding tells_with
loop-preserved-then-not-is_waiting g c =
    let P = process_with g.Q.Machine.kind_of g.Q.Machine.op g.Q.Machine.fed g.Q.Ratifier.protocol in
    let T = tells_with g.Q.Machine.kind_of g.Q.Machine.op g.Q.Machine.fed g.Q.Ratifier.protocol in
    let same = c.plain_turns.ensures.stays (let none = c.if-plain_turns-gt0.false in omega arith) in
    let row = last_of c.threads_may_go_by.ensures.process c.next_turns-turn.result
    c.next_turns-turn.new.self (g.R.Rng.stream c.next_turns-turn.new.rng)
    (asks_same same c.loop.invariant.1) (draws_same same c.loop.invariant.4)
    c.next_turns-turn.ensures.some in (
      c.loop.invariant.0,
      Goes row.old c.loop.go_on row.last.word c.next_turns-turn.result c.next_turns-turn.new.self
          row.asks row.last.turned (sym c.ends_sending.ensures ∙ c.if-ends_sending.false)
          (sym c.is_waiting.ensures ∙ c.if-not-is_waiting.true),
      c.next_turns-turn.ensures.table ∙ c.plain_turns.ensures.table ∙ c.loop.invariant.2,
      turned_puts P T c.threads_may_go_by.ensures.process row.old row.last.word
          c.next_turns-turn.result c.next_turns-turn.new.self row.last.turned
          ∙ row.same ∙ ap (λ y. puts (actions_of P y)) same ∙ c.loop.invariant.3,
      drawn_on P T c.args.self.now (g.R.Rng.stream c.args.rng.now) row.old row.before row.last.word
          c.next_turns-turn.result c.next_turns-turn.new.self
          (g.R.Rng.stream c.next_turns-turn.new.rng) row.last.drawn row.draws row.last.turned,
    )

pub returns-then-ends_sending-clause-draws : goal.returns-then-ends_sending-clause-draws
unfolding tells_with
returns-then-ends_sending-clause-draws g c =
    let P = process_with g.Q.Machine.kind_of g.Q.Machine.op g.Q.Machine.fed g.Q.Ratifier.protocol in
    let T = tells_with g.Q.Machine.kind_of g.Q.Machine.op g.Q.Machine.fed g.Q.Ratifier.protocol in
    let same = c.plain_turns.ensures.stays (let none = c.if-plain_turns-gt0.false in omega arith) in
    let row = last_of c.threads_may_go_by.ensures.process c.next_turns-turn.result
    c.next_turns-turn.new.self (g.R.Rng.stream c.next_turns-turn.new.rng)
    (asks_same same c.loop.invariant.1) (draws_same same c.loop.invariant.4)
    c.next_turns-turn.ensures.some in
    drawn_on P T c.args.self.now (g.R.Rng.stream c.args.rng.now) row.old row.before row.last.word
    c.next_turns-turn.result c.next_turns-turn.new.self (g.R.Rng.stream c.next_turns-turn.new.rng)
    row.last.drawn row.draws row.last.turned

pub returns-then-not-go_on-clause-draws : goal.returns-then-not-go_on-clause-draws
unfolding tells_with
returns-then-not-go_on-clause-draws g c =
    let P = process_with g.Q.Machine.kind_of g.Q.Machine.op g.Q.Machine.fed g.Q.Ratifier.protocol in
    let T = tells_with g.Q.Machine.kind_of g.Q.Machine.op g.Q.Machine.fed g.Q.Ratifier.protocol in
    let same = c.plain_turns.ensures.stays (let none = c.if-plain_turns-gt0.false in omega arith) in
    let row = last_of c.threads_may_go_by.ensures.process c.next_turns-turn.result
    c.next_turns-turn.new.self (g.R.Rng.stream c.next_turns-turn.new.rng)
    (asks_same same c.loop.invariant.1) (draws_same same c.loop.invariant.4)
    c.next_turns-turn.ensures.some in
    drawn_on P T c.args.self.now (g.R.Rng.stream c.args.rng.now) row.old row.before row.last.word
    c.next_turns-turn.result c.next_turns-turn.new.self (g.R.Rng.stream c.next_turns-turn.new.rng)
    row.last.drawn row.draws row.last.turned
