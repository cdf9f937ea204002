use Rattle.std.proofs.Common.{◌+◌, inl, inr, arith, sym, ◌∙◌}
use Rattle.std.proofs.lemmas.Bool.{true≢false}
use Rattle.bus_pageslot.specs.Turns.{tells_with, Once}
use Rattle.bus_pageslot.proofs.SeatSteps.Plain.{takes_plainly}
use Rattle.bus_pageslot.proofs.SeatSteps.Rows.{takes_more}
use Rattle.bus_pageslot.proofs.seats.Sender.turns.Goals as goal

pub loop-init : goal.loop-init
unfolding tells_with
loop-init g c = (
  Once c.turn-turn.result c.turn-turn.new.self
      (record { rests = c.turn-turn.ensures.rests; steps = c.turn-turn.ensures.steps }),
  omega arith,
  omega arith,
  c.turn-turn.ensures.table,
)

-- an answer other than Going
pub returns-then-not-is_going-clause-turns : goal.returns-then-not-is_going-clause-turns
returns-then-not-is_going-clause-turns g c = record {
  n = c.loop.taken;
  takes = c.loop.invariant.0;
  few = c.loop.invariant.2;
  stops = λ goes. absurd (true≢false (sym goes ∙ sym c.is_going.ensures ∙ c.if-not-is_going.true));
}

-- all were taken
pub returns-then-taken-more-clause-turns : goal.returns-then-taken-more-clause-turns
unfolding tells_with
returns-then-taken-more-clause-turns g c =
    let goes = sym c.is_going.ensures ∙ c.if-not-is_going.false in
    let row = takes_plainly c.loop.turn c.plain_turns-taken.result c.plain_turns-taken.new.self
    c.loop.invariant.0 goes c.plain_turns-taken.ensures.goes in
    record {
      n = c.loop.taken + c.plain_turns-taken.result;
      takes = row;
      few =
          let most = c.plain_turns-taken.ensures.few in
          let less = c.loop.invariant.2 in omega arith;
      stops = λ _. inr (let all = c.if-taken-more.true in omega arith);
    }

-- the next step asks for a word
pub returns-then-wants_word_for-clause-turns : goal.returns-then-wants_word_for-clause-turns
unfolding tells_with
returns-then-wants_word_for-clause-turns g c =
    let goes = sym c.is_going.ensures ∙ c.if-not-is_going.false in
    let row = takes_plainly c.loop.turn c.plain_turns-taken.result c.plain_turns-taken.new.self
    c.loop.invariant.0 goes c.plain_turns-taken.ensures.goes in
    record {
      n = c.loop.taken + c.plain_turns-taken.result;
      takes = row;
      few =
          let most = c.plain_turns-taken.ensures.few in
          let less = c.loop.invariant.2 in omega arith;
      stops = λ _. inl (sym c.wants_word_for.ensures ∙ c.if-wants_word_for.true);
    }

pub loop-preserved : goal.loop-preserved
unfolding tells_with
loop-preserved g c =
    let goes = sym c.is_going.ensures ∙ c.if-not-is_going.false in
    let row = takes_plainly c.loop.turn c.plain_turns-taken.result c.plain_turns-taken.new.self
    c.loop.invariant.0 goes c.plain_turns-taken.ensures.goes in
    let most = c.plain_turns-taken.ensures.few in
    let less = c.loop.invariant.2 in
    let so = c.loop.invariant.1 in
    let few = c.wordless_turns-many.ensures.few in
    let all = c.wordless_turns-many.ensures.takes.all in (
      takes_more c.loop.turn c.wordless_turns-many.result.0 c.wordless_turns-many.result.1
          c.wordless_turns-many.new.self row goes c.wordless_turns-many.ensures.takes,
      omega arith,
      omega arith,
      c.wordless_turns-many.ensures.table ∙ c.plain_turns-taken.ensures.table ∙ c.loop.invariant.3,
    )

-- all were taken, each of the last ones by itself
pub returns-clause-turns : goal.returns-clause-turns
returns-clause-turns g c = record {
  n = c.loop.taken;
  takes = c.loop.invariant.0;
  few = c.loop.invariant.2;
  stops = λ _. inr (let so = c.loop.invariant.1 in let less = c.loop.invariant.2 in
      let over = c.loop-test.false in omega arith);
}
