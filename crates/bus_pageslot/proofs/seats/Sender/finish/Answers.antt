use Rattle.std.proofs.Common.{◌+◌, arith, refl, sym, ◌∙◌, ap, is_some}
use Rattle.bus_automaton.specs.Buses.{process_with}
use Rattle.bus_core.specs.Seen.{tenure_begun}
use Rattle.bus_pageslot.specs.Turns.{tells_with, Undrawn}
use Rattle.bus_pageslot.proofs.Sends.Finishing.{has_finished, finishes_as, finished_keeps}
use Rattle.bus_pageslot.proofs.Sends.Finishing.{goes_through}
use Rattle.bus_pageslot.proofs.Sends.Finishing.{through_begun, goes_at_first, not_some}
use Rattle.bus_pageslot.proofs.Sends.Sending.{turned_puts, drawn_on}
use Rattle.bus_pageslot.proofs.seats.Sender.finish.Goals as goal

pub returns-then-not-has_begun-clause-none : goal.returns-then-not-has_begun-clause-none
returns-then-not-has_begun-clause-none g c = (
  refl,
  has_finished g.Q.Machine.kind_of g.Q.Machine.op g.Q.Machine.fed g.Q.Ratifier.protocol
      c.args.self.now (not_some (tenure_begun c.args.self.now.core)
      (sym c.has_begun.ensures ∙ c.if-not-has_begun.true)),
)

pub returns-then-not-has_begun-clause-draws : goal.returns-then-not-has_begun-clause-draws
returns-then-not-has_begun-clause-draws g c = Undrawn

pub turns-init : goal.turns-init
turns-init g c =
    let begins = goes_at_first g.Q.Machine.kind_of g.Q.Machine.op g.Q.Machine.fed
    g.Q.Ratifier.protocol c.args.self.now
    (sym c.has_begun.ensures ∙ c.if-not-has_begun.false) in
    ((begins.0, 0, begins.1, omega arith), refl, refl, Undrawn)

pub turn_begun-turn-requires-clause-begun : goal.turn_begun-turn-requires-clause-begun
turn_begun-turn-requires-clause-begun g c =
    let P = process_with g.Q.Machine.kind_of g.Q.Machine.op g.Q.Machine.fed g.Q.Ratifier.protocol in
    let T = tells_with g.Q.Machine.kind_of g.Q.Machine.op g.Q.Machine.fed g.Q.Ratifier.protocol in
    let went = c.turns.invariant.0 in
    ap is_some (through_begun P T went.0 c.args.self.now went.1 c.turns.self went.2)

-- it goes on
pub turns-preserved : goal.turns-preserved
turns-preserved g c =
    let P = process_with g.Q.Machine.kind_of g.Q.Machine.op g.Q.Machine.fed g.Q.Ratifier.protocol in
    let T = tells_with g.Q.Machine.kind_of g.Q.Machine.op g.Q.Machine.fed g.Q.Ratifier.protocol in
    let went = c.turns.invariant.0 in
    let goes = c.stops.ensures.goes c.if-stops.false in
    let less = c.turn_begun-turn.ensures.falls goes.0 in
    let few = went.3 in
    let on = goes_through g.Q.Machine.kind_of g.Q.Machine.op g.Q.Machine.fed g.Q.Ratifier.protocol
    went.0 c.args.self.now went.1 c.turns.self c.next_word-word.result
    c.turn_begun-turn.result c.turn_begun-turn.new.self went.2
    c.turn_begun-turn.ensures.turned c.turn_begun-turn.ensures.goes goes.0 goes.1 in (
      (went.0, went.1 + 1, on, omega arith),
      c.turn_begun-turn.ensures.table ∙ c.turns.invariant.1,
      turned_puts P T c.threads_may_go_by.ensures.process c.turns.self c.next_word-word.result
          c.turn_begun-turn.result c.turn_begun-turn.new.self c.turn_begun-turn.ensures.turned
          ∙ c.turns.invariant.2,
      drawn_on P T c.args.self.now (g.R.Rng.stream c.args.rng.now) c.turns.self
          (g.R.Rng.stream c.turns.rng) c.next_word-word.result c.turn_begun-turn.result
          c.turn_begun-turn.new.self (g.R.Rng.stream c.next_word-word.new.rng)
          c.next_word-word.ensures c.turns.invariant.3 c.turn_begun-turn.ensures.turned,
    )

pub turns-smaller : goal.turns-smaller
turns-smaller g c =
    c.turn_begun-turn.ensures.falls (c.stops.ensures.goes c.if-stops.false).0

-- it stops
pub returns-then-stops-clause-finishes : goal.returns-then-stops-clause-finishes
returns-then-stops-clause-finishes g c =
    let P = process_with g.Q.Machine.kind_of g.Q.Machine.op g.Q.Machine.fed g.Q.Ratifier.protocol in
    let T = tells_with g.Q.Machine.kind_of g.Q.Machine.op g.Q.Machine.fed g.Q.Ratifier.protocol in
    let went = c.turns.invariant.0 in
    let some = c.turn_begun-turn.ensures.some in
    let few = went.3 in
    record {
      tenure = went.0;
      count = went.1;
      old = c.turns.self;
      word = c.next_word-word.result;
      before = went.2;
      turned = c.turn_begun-turn.ensures.turned;
      finished = finishes_as g.Q.Machine.kind_of g.Q.Machine.op g.Q.Machine.fed
          g.Q.Ratifier.protocol went.0 c.turns.self c.turn_begun-turn.result
          c.turn_begun-turn.new.self
          (through_begun P T went.0 c.args.self.now went.1 c.turns.self went.2)
          c.turn_begun-turn.ensures.goes (c.stops.ensures.over c.if-stops.true);
      few = omega arith;
    }

pub returns-then-stops-clause-keeps : goal.returns-then-stops-clause-keeps
returns-then-stops-clause-keeps g c unsent =
    let went = c.turns.invariant.0 in
    finished_keeps g.Q.Machine.kind_of g.Q.Machine.op g.Q.Machine.fed g.Q.Ratifier.protocol
    went.0 c.args.self.now c.turns.self went.1 c.next_word-word.result c.turn_begun-turn.result
    c.turn_begun-turn.new.self went.2 c.turn_begun-turn.ensures.turned
    c.turn_begun-turn.ensures.goes unsent

pub returns-then-stops-clause-puts : goal.returns-then-stops-clause-puts
returns-then-stops-clause-puts g c =
    let P = process_with g.Q.Machine.kind_of g.Q.Machine.op g.Q.Machine.fed g.Q.Ratifier.protocol in
    let T = tells_with g.Q.Machine.kind_of g.Q.Machine.op g.Q.Machine.fed g.Q.Ratifier.protocol in
    turned_puts P T c.threads_may_go_by.ensures.process c.turns.self c.next_word-word.result
    c.turn_begun-turn.result c.turn_begun-turn.new.self c.turn_begun-turn.ensures.turned
    ∙ c.turns.invariant.2

pub returns-then-stops-clause-draws : goal.returns-then-stops-clause-draws
returns-then-stops-clause-draws g c =
    let P = process_with g.Q.Machine.kind_of g.Q.Machine.op g.Q.Machine.fed g.Q.Ratifier.protocol in
    let T = tells_with g.Q.Machine.kind_of g.Q.Machine.op g.Q.Machine.fed g.Q.Ratifier.protocol in
    drawn_on P T c.args.self.now (g.R.Rng.stream c.args.rng.now) c.turns.self
    (g.R.Rng.stream c.turns.rng) c.next_word-word.result c.turn_begun-turn.result
    c.turn_begun-turn.new.self (g.R.Rng.stream c.next_word-word.new.rng)
    c.next_word-word.ensures c.turns.invariant.3 c.turn_begun-turn.ensures.turned
