use Rattle.std.proofs.Common.{◌≡◌, false, of_calls, refl, ◌∙◌, subst, arith}
use Rattle.bus_automaton.specs.Buses.{process_with, automaton_with}
use Rattle.bus_pageslot.specs.Looks.{LooksForRoom}
use Rattle.bus_pageslot.specs.Room.{Looking, GoesForRoom, FindsNone, FindsRoom, Tries, Looked}
use Rattle.bus_pageslot.specs.Turns.{tells_with}
use Rattle.bus_pageslot.proofs.seats.Sender.finds_room.Goals as goal

pub loop-init : goal.loop-init
loop-init g c = (
  c.requires.callable,
  omega arith,
  refl,
  λ first given before. before,
  λ first given words before. before,
)

pub loop-preserved : goal.loop-preserved
loop-preserved g c =
    let P = process_with g.Q.Machine.kind_of g.Q.Machine.op g.Q.Machine.fed g.Q.Ratifier.protocol in
    let A =
    automaton_with g.Q.Machine.kind_of g.Q.Machine.op g.Q.Machine.fed g.Q.Ratifier.protocol
    c.args.bus.now.plan in
    let before = c.loop.invariant in
    let none : LooksForRoom P A c.loop.self false c.has_room.new.self =
    subst (λ b. LooksForRoom P A c.loop.self b c.has_room.new.self) c.if-has_room.false
    c.has_room.ensures.looked in (
      search of_calls,
      omega arith,
      c.has_room.ensures.table ∙ before.2,
      λ first given from. FindsNone c.loop.counter c.loop.self c.loop.go_on c.go_on.new.self
          c.has_room.new.self (before.3 first given from) (omega arith) c.if-not-go_on.ensures none,
      λ first given words from. Looked c.loop.self words false c.has_room.new.self
          (before.4 first given words from) none,
    )

-- it found room
pub returns-then-has_room-clause-finds : goal.returns-then-has_room-clause-finds
returns-then-has_room-clause-finds g c found first given from =
    let P = process_with g.Q.Machine.kind_of g.Q.Machine.op g.Q.Machine.fed g.Q.Ratifier.protocol in
    let A =
    automaton_with g.Q.Machine.kind_of g.Q.Machine.op g.Q.Machine.fed g.Q.Ratifier.protocol
    c.args.bus.now.plan in
    FindsRoom c.loop.counter c.loop.self c.loop.go_on c.go_on.new.self c.has_room.new.self
    (c.loop.invariant.3 first given from) (omega arith) c.if-not-go_on.ensures
    (subst (λ b. LooksForRoom P A c.loop.self b c.has_room.new.self) c.if-has_room.true
    c.has_room.ensures.looked)

pub returns-then-has_room-clause-draws : goal.returns-then-has_room-clause-draws
returns-then-has_room-clause-draws g c first given words from =
    Looked c.loop.self words c.has_room.result c.has_room.new.self
    (c.loop.invariant.4 first given words from) c.has_room.ensures.looked

-- it was told to stop
pub returns-then-not-go_on-clause-stops : goal.returns-then-not-go_on-clause-stops
returns-then-not-go_on-clause-stops g c stopped first given from = record {
  asked = c.loop.go_on;
  looks = c.loop.counter;
  before = c.loop.invariant.3 first given from;
  few = omega arith;
  left = c.go_on.new.self;
  told = c.if-not-go_on.ensures;
}

-- all looks were taken
pub returns-clause-finds : goal.returns-clause-finds
returns-clause-finds g c found first given from =
    let P = process_with g.Q.Machine.kind_of g.Q.Machine.op g.Q.Machine.fed g.Q.Ratifier.protocol in
    let A =
    automaton_with g.Q.Machine.kind_of g.Q.Machine.op g.Q.Machine.fed g.Q.Ratifier.protocol
    c.args.bus.now.plan in
    let T = tells_with g.Q.Machine.kind_of g.Q.Machine.op g.Q.Machine.fed g.Q.Ratifier.protocol in
    let few = c.loop.invariant.1 in
    let all : c.loop.counter ≡ 64 = omega arith in
    Tries c.loop.self c.loop.go_on
    (subst (λ n. GoesForRoom P A T (goal.F-step g) first given (Looking n) c.loop.self c.loop.go_on)
    all (c.loop.invariant.3 first given from))
