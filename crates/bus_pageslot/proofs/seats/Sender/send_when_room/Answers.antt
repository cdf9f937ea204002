use Rattle.std.proofs.Common.{of_calls, refl, sym, ◌∙◌, inl, inr}
use Rattle.std.proofs.lemmas.Bool.{true≢false}
use Rattle.bus_automaton.specs.Buses.{process_with, automaton_with}
use Rattle.bus_pageslot.specs.Turns.{tells_with}
use Rattle.bus_pageslot.specs.Room.{Begins, Goes, Asks, Undrawn}
use Rattle.bus_pageslot.proofs.Ruled.Keeping.{leaves_batch}
use Rattle.bus_pageslot.proofs.Sends.Room.{goes_in_row, plain_for_room, rows_last, sends_puts}
use Rattle.bus_pageslot.proofs.Sends.Room.{for_room_keeps}
use Rattle.bus_pageslot.proofs.Sends.Room.{stopped_puts, stopped_waits, fills}
use Rattle.bus_pageslot.proofs.seats.Sender.send_when_room.Goals as goal

-- the frame is longer than the log
pub returns-then-not-fits-clause-never : goal.returns-then-not-fits-clause-never
returns-then-not-fits-clause-never g c fits =
    true≢false (sym (c.fits.ensures.1 fits) ∙ c.if-not-fits.true)

pub returns-then-not-fits-clause-draws : goal.returns-then-not-fits-clause-draws
returns-then-not-fits-clause-draws g c = Undrawn

pub loop-init : goal.loop-init
loop-init g c = (c.requires.callable, Begins, refl, Undrawn)

-- plain steps were taken
pub loop-preserved-then-plain_turns-gt0 : goal.loop-preserved-then-plain_turns-gt0
unfolding tells_with
loop-preserved-then-plain_turns-gt0 g c =
    let P = process_with g.Q.Machine.kind_of g.Q.Machine.op g.Q.Machine.fed g.Q.Ratifier.protocol in
    let A =
    automaton_with g.Q.Machine.kind_of g.Q.Machine.op g.Q.Machine.fed g.Q.Ratifier.protocol
    c.args.bus.now.plan in
    let T = tells_with g.Q.Machine.kind_of g.Q.Machine.op g.Q.Machine.fed g.Q.Ratifier.protocol in
    let goes = c.plain_turns.ensures.goes in (
      c.loop.invariant.0,
      goes_in_row c.plain_turns.result c.plain_turns.new.self c.loop.invariant.1 goes,
      c.plain_turns.ensures.table ∙ c.loop.invariant.2,
      plain_for_room P A T c.args.self.now (g.R.Rng.stream c.args.rng.now)
          (g.R.Rng.stream c.loop.rng) c.loop.self c.plain_turns.result c.plain_turns.new.self
          c.loop.invariant.3 goes,
    )

-- there was no room; now there is
pub loop-preserved-then-is_full : goal.loop-preserved-then-is_full
unfolding tells_with
loop-preserved-then-is_full g c =
    let P = process_with g.Q.Machine.kind_of g.Q.Machine.op g.Q.Machine.fed g.Q.Ratifier.protocol in
    let A =
    automaton_with g.Q.Machine.kind_of g.Q.Machine.op g.Q.Machine.fed g.Q.Ratifier.protocol
    c.args.bus.now.plan in
    let T = tells_with g.Q.Machine.kind_of g.Q.Machine.op g.Q.Machine.fed g.Q.Ratifier.protocol in
    let row = rows_last c.next_turns-turn.result c.next_turns-turn.new.self
    (g.R.Rng.stream c.next_turns-turn.new.rng) c.loop.invariant.1 c.loop.invariant.3
    c.plain_turns.ensures.goes c.next_turns-turn.ensures.some in
    let full = fills row.before (c.is_full.ensures.full c.if-is_full.true) row.turned in (
      c.finds_room.ensures.callable,
      c.finds_room.ensures.finds c.if-not-finds_room.false c.args.self.now c.args.go_on full,
      c.finds_room.ensures.table ∙ c.next_turns-turn.ensures.table ∙ c.plain_turns.ensures.table
          ∙ c.loop.invariant.2,
      c.finds_room.ensures.draws c.args.self.now (g.R.Rng.stream c.args.rng.now)
          (g.R.Rng.stream c.next_turns-turn.new.rng) row.draws,
    )

-- it was told to stop before a look
pub returns-then-not-finds_room-clause-fits : goal.returns-then-not-finds_room-clause-fits
returns-then-not-finds_room-clause-fits g c = c.fits.ensures.0 c.if-not-fits.false

pub returns-then-not-finds_room-clause-stops : goal.returns-then-not-finds_room-clause-stops
unfolding tells_with
returns-then-not-finds_room-clause-stops g c =
    let row = rows_last c.next_turns-turn.result c.next_turns-turn.new.self
    (g.R.Rng.stream c.next_turns-turn.new.rng) c.loop.invariant.1 c.loop.invariant.3
    c.plain_turns.ensures.goes c.next_turns-turn.ensures.some in
    let full = fills row.before (c.is_full.ensures.full c.if-is_full.true) row.turned in
    let stops = c.finds_room.ensures.stops c.if-not-finds_room.true c.args.self.now c.args.go_on
    full in
    inr stops

pub returns-then-not-finds_room-clause-waits : goal.returns-then-not-finds_room-clause-waits
unfolding tells_with
returns-then-not-finds_room-clause-waits g c =
    let P = process_with g.Q.Machine.kind_of g.Q.Machine.op g.Q.Machine.fed g.Q.Ratifier.protocol in
    let A =
    automaton_with g.Q.Machine.kind_of g.Q.Machine.op g.Q.Machine.fed g.Q.Ratifier.protocol
    c.args.bus.now.plan in
    let T = tells_with g.Q.Machine.kind_of g.Q.Machine.op g.Q.Machine.fed g.Q.Ratifier.protocol in
    let row = rows_last c.next_turns-turn.result c.next_turns-turn.new.self
    (g.R.Rng.stream c.next_turns-turn.new.rng) c.loop.invariant.1 c.loop.invariant.3
    c.plain_turns.ensures.goes c.next_turns-turn.ensures.some in
    let full = fills row.before (c.is_full.ensures.full c.if-is_full.true) row.turned in
    let stops = c.finds_room.ensures.stops c.if-not-finds_room.true c.args.self.now c.args.go_on
    full in
    stopped_waits P A T (goal.F-step g) c.args.self.now c.args.go_on
    (leaves_batch g.Q.Machine.kind_of g.Q.Machine.op g.Q.Machine.fed g.Q.Ratifier.protocol)
    c.finds_room.new.self (inr stops)

pub returns-then-not-finds_room-clause-puts : goal.returns-then-not-finds_room-clause-puts
unfolding tells_with
returns-then-not-finds_room-clause-puts g c =
    let P = process_with g.Q.Machine.kind_of g.Q.Machine.op g.Q.Machine.fed g.Q.Ratifier.protocol in
    let A =
    automaton_with g.Q.Machine.kind_of g.Q.Machine.op g.Q.Machine.fed g.Q.Ratifier.protocol
    c.args.bus.now.plan in
    let T = tells_with g.Q.Machine.kind_of g.Q.Machine.op g.Q.Machine.fed g.Q.Ratifier.protocol in
    let row = rows_last c.next_turns-turn.result c.next_turns-turn.new.self
    (g.R.Rng.stream c.next_turns-turn.new.rng) c.loop.invariant.1 c.loop.invariant.3
    c.plain_turns.ensures.goes c.next_turns-turn.ensures.some in
    let full = fills row.before (c.is_full.ensures.full c.if-is_full.true) row.turned in
    let stops = c.finds_room.ensures.stops c.if-not-finds_room.true c.args.self.now c.args.go_on
    full in
    stopped_puts P A T (goal.F-step g) c.args.self.now c.args.go_on
    c.threads_may_go_by.ensures.process
    c.finds_room.new.self (inr stops)

pub returns-then-not-finds_room-clause-draws : goal.returns-then-not-finds_room-clause-draws
unfolding tells_with
returns-then-not-finds_room-clause-draws g c =
    let P = process_with g.Q.Machine.kind_of g.Q.Machine.op g.Q.Machine.fed g.Q.Ratifier.protocol in
    let A =
    automaton_with g.Q.Machine.kind_of g.Q.Machine.op g.Q.Machine.fed g.Q.Ratifier.protocol
    c.args.bus.now.plan in
    let T = tells_with g.Q.Machine.kind_of g.Q.Machine.op g.Q.Machine.fed g.Q.Ratifier.protocol in
    let row = rows_last c.next_turns-turn.result c.next_turns-turn.new.self
    (g.R.Rng.stream c.next_turns-turn.new.rng) c.loop.invariant.1 c.loop.invariant.3
    c.plain_turns.ensures.goes c.next_turns-turn.ensures.some in
    c.finds_room.ensures.draws c.args.self.now (g.R.Rng.stream c.args.rng.now)
    (g.R.Rng.stream c.next_turns-turn.new.rng) row.draws

-- a last answer
pub returns-then-ends_sending-clause-fits : goal.returns-then-ends_sending-clause-fits
returns-then-ends_sending-clause-fits g c = c.fits.ensures.0 c.if-not-fits.false

pub returns-then-ends_sending-clause-sends : goal.returns-then-ends_sending-clause-sends
unfolding tells_with
returns-then-ends_sending-clause-sends g c =
    let row = rows_last c.next_turns-turn.result c.next_turns-turn.new.self
    (g.R.Rng.stream c.next_turns-turn.new.rng) c.loop.invariant.1 c.loop.invariant.3
    c.plain_turns.ensures.goes c.next_turns-turn.ensures.some in
    record {
      old = row.old;
      asked = c.loop.go_on;
      word = row.word;
      before = row.before;
      turned = row.turned;
      last = sym c.ends_sending.ensures ∙ c.if-ends_sending.true;
      room = c.is_full.ensures.other c.if-is_full.false;
    }

pub returns-then-ends_sending-clause-keeps : goal.returns-then-ends_sending-clause-keeps
unfolding tells_with
returns-then-ends_sending-clause-keeps g c =
    let P = process_with g.Q.Machine.kind_of g.Q.Machine.op g.Q.Machine.fed g.Q.Ratifier.protocol in
    let A =
    automaton_with g.Q.Machine.kind_of g.Q.Machine.op g.Q.Machine.fed g.Q.Ratifier.protocol
    c.args.bus.now.plan in
    let T = tells_with g.Q.Machine.kind_of g.Q.Machine.op g.Q.Machine.fed g.Q.Ratifier.protocol in
    let row = rows_last c.next_turns-turn.result c.next_turns-turn.new.self
    (g.R.Rng.stream c.next_turns-turn.new.rng) c.loop.invariant.1 c.loop.invariant.3
    c.plain_turns.ensures.goes c.next_turns-turn.ensures.some in
    for_room_keeps P A T (goal.F-step g) c.args.self.now c.args.go_on
    (leaves_batch g.Q.Machine.kind_of g.Q.Machine.op g.Q.Machine.fed g.Q.Ratifier.protocol)
    c.next_turns-turn.result c.next_turns-turn.new.self (record {
      old = row.old;
      asked = c.loop.go_on;
      word = row.word;
      before = row.before;
      turned = row.turned;
      last = sym c.ends_sending.ensures ∙ c.if-ends_sending.true;
      room = c.is_full.ensures.other c.if-is_full.false;
    })

pub returns-then-ends_sending-clause-puts : goal.returns-then-ends_sending-clause-puts
unfolding tells_with
returns-then-ends_sending-clause-puts g c =
    let P = process_with g.Q.Machine.kind_of g.Q.Machine.op g.Q.Machine.fed g.Q.Ratifier.protocol in
    let A =
    automaton_with g.Q.Machine.kind_of g.Q.Machine.op g.Q.Machine.fed g.Q.Ratifier.protocol
    c.args.bus.now.plan in
    let T = tells_with g.Q.Machine.kind_of g.Q.Machine.op g.Q.Machine.fed g.Q.Ratifier.protocol in
    let row = rows_last c.next_turns-turn.result c.next_turns-turn.new.self
    (g.R.Rng.stream c.next_turns-turn.new.rng) c.loop.invariant.1 c.loop.invariant.3
    c.plain_turns.ensures.goes c.next_turns-turn.ensures.some in
    sends_puts P A T (goal.F-step g) c.args.self.now c.args.go_on
    c.threads_may_go_by.ensures.process
    c.next_turns-turn.result c.next_turns-turn.new.self (record {
      old = row.old;
      asked = c.loop.go_on;
      word = row.word;
      before = row.before;
      turned = row.turned;
      last = sym c.ends_sending.ensures ∙ c.if-ends_sending.true;
      room = c.is_full.ensures.other c.if-is_full.false;
    })

pub returns-then-ends_sending-clause-draws : goal.returns-then-ends_sending-clause-draws
unfolding tells_with
returns-then-ends_sending-clause-draws g c =
    let row = rows_last c.next_turns-turn.result c.next_turns-turn.new.self
    (g.R.Rng.stream c.next_turns-turn.new.rng) c.loop.invariant.1 c.loop.invariant.3
    c.plain_turns.ensures.goes c.next_turns-turn.ensures.some in
    row.draws

-- it goes on
pub loop-preserved-then-not-is_waiting : goal.loop-preserved-then-not-is_waiting
unfolding tells_with
loop-preserved-then-not-is_waiting g c =
    let row = rows_last c.next_turns-turn.result c.next_turns-turn.new.self
    (g.R.Rng.stream c.next_turns-turn.new.rng) c.loop.invariant.1 c.loop.invariant.3
    c.plain_turns.ensures.goes c.next_turns-turn.ensures.some in (
      c.loop.invariant.0,
      Goes row.old c.loop.go_on row.word c.next_turns-turn.result c.next_turns-turn.new.self
          row.before row.turned (sym c.ends_sending.ensures ∙ c.if-ends_sending.false)
          (sym c.is_waiting.ensures ∙ c.if-not-is_waiting.true),
      c.next_turns-turn.ensures.table ∙ c.plain_turns.ensures.table ∙ c.loop.invariant.2,
      row.draws,
    )

-- another sender has to go on first, and it was told to stop
pub returns-then-not-go_on-clause-fits : goal.returns-then-not-go_on-clause-fits
returns-then-not-go_on-clause-fits g c = c.fits.ensures.0 c.if-not-fits.false

pub returns-then-not-go_on-clause-stops : goal.returns-then-not-go_on-clause-stops
unfolding tells_with
returns-then-not-go_on-clause-stops g c =
    let row = rows_last c.next_turns-turn.result c.next_turns-turn.new.self
    (g.R.Rng.stream c.next_turns-turn.new.rng) c.loop.invariant.1 c.loop.invariant.3
    c.plain_turns.ensures.goes c.next_turns-turn.ensures.some in
    inl (record {
      old = row.old;
      asked = c.loop.go_on;
      word = row.word;
      before = row.before;
      turned = row.turned;
      answer = c.next_turns-turn.result;
      waits = sym c.is_waiting.ensures ∙ c.if-not-is_waiting.false;
      left = c.go_on.new.self;
      told = c.if-not-go_on.ensures;
    })

pub returns-then-not-go_on-clause-waits : goal.returns-then-not-go_on-clause-waits
unfolding tells_with
returns-then-not-go_on-clause-waits g c =
    let P = process_with g.Q.Machine.kind_of g.Q.Machine.op g.Q.Machine.fed g.Q.Ratifier.protocol in
    let A =
    automaton_with g.Q.Machine.kind_of g.Q.Machine.op g.Q.Machine.fed g.Q.Ratifier.protocol
    c.args.bus.now.plan in
    let T = tells_with g.Q.Machine.kind_of g.Q.Machine.op g.Q.Machine.fed g.Q.Ratifier.protocol in
    let row = rows_last c.next_turns-turn.result c.next_turns-turn.new.self
    (g.R.Rng.stream c.next_turns-turn.new.rng) c.loop.invariant.1 c.loop.invariant.3
    c.plain_turns.ensures.goes c.next_turns-turn.ensures.some in
    stopped_waits P A T (goal.F-step g) c.args.self.now c.args.go_on
    (leaves_batch g.Q.Machine.kind_of g.Q.Machine.op g.Q.Machine.fed g.Q.Ratifier.protocol)
    c.next_turns-turn.new.self (inl (record {
      old = row.old;
      asked = c.loop.go_on;
      word = row.word;
      before = row.before;
      turned = row.turned;
      answer = c.next_turns-turn.result;
      waits = sym c.is_waiting.ensures ∙ c.if-not-is_waiting.false;
      left = c.go_on.new.self;
      told = c.if-not-go_on.ensures;
    }))

pub returns-then-not-go_on-clause-puts : goal.returns-then-not-go_on-clause-puts
unfolding tells_with
returns-then-not-go_on-clause-puts g c =
    let P = process_with g.Q.Machine.kind_of g.Q.Machine.op g.Q.Machine.fed g.Q.Ratifier.protocol in
    let A =
    automaton_with g.Q.Machine.kind_of g.Q.Machine.op g.Q.Machine.fed g.Q.Ratifier.protocol
    c.args.bus.now.plan in
    let T = tells_with g.Q.Machine.kind_of g.Q.Machine.op g.Q.Machine.fed g.Q.Ratifier.protocol in
    let row = rows_last c.next_turns-turn.result c.next_turns-turn.new.self
    (g.R.Rng.stream c.next_turns-turn.new.rng) c.loop.invariant.1 c.loop.invariant.3
    c.plain_turns.ensures.goes c.next_turns-turn.ensures.some in
    stopped_puts P A T (goal.F-step g) c.args.self.now c.args.go_on
    c.threads_may_go_by.ensures.process
    c.next_turns-turn.new.self (inl (record {
      old = row.old;
      asked = c.loop.go_on;
      word = row.word;
      before = row.before;
      turned = row.turned;
      answer = c.next_turns-turn.result;
      waits = sym c.is_waiting.ensures ∙ c.if-not-is_waiting.false;
      left = c.go_on.new.self;
      told = c.if-not-go_on.ensures;
    }))

pub returns-then-not-go_on-clause-draws : goal.returns-then-not-go_on-clause-draws
unfolding tells_with
returns-then-not-go_on-clause-draws g c =
    let row = rows_last c.next_turns-turn.result c.next_turns-turn.new.self
    (g.R.Rng.stream c.next_turns-turn.new.rng) c.loop.invariant.1 c.loop.invariant.3
    c.plain_turns.ensures.goes c.next_turns-turn.ensures.some in
    row.draws

-- or told to go on
pub loop-preserved : goal.loop-preserved
unfolding tells_with
loop-preserved g c =
    let row = rows_last c.next_turns-turn.result c.next_turns-turn.new.self
    (g.R.Rng.stream c.next_turns-turn.new.rng) c.loop.invariant.1 c.loop.invariant.3
    c.plain_turns.ensures.goes c.next_turns-turn.ensures.some in (
      search of_calls,
      Asks row.old c.loop.go_on row.word c.next_turns-turn.result c.next_turns-turn.new.self
          c.go_on.new.self row.before row.turned
          (sym c.is_waiting.ensures ∙ c.if-not-is_waiting.false) c.if-not-go_on.ensures,
      c.next_turns-turn.ensures.table ∙ c.plain_turns.ensures.table ∙ c.loop.invariant.2,
      row.draws,
    )
