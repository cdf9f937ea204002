use Rattle.std.proofs.Common.{◌≡◌, arith, refl, sym, ◌∙◌, subst, unwrap_or}
use Rattle.bus_automaton.specs.Buses.{process_with}
use Rattle.bus_core.specs.Senders.{Sender}
use Rattle.bus_tenure.specs.Elections.{Elector, election_with}
use Rattle.bus_tenure.specs.declared.turns.Turn.TheVariants.{Going}
use Rattle.bus_pageslot.specs.Seats.{SenderSeat}
use Rattle.bus_pageslot.specs.Turns.{tells_with, GoesPlainly, Turned, NoneYet, Next}
use Rattle.bus_pageslot.specs.Turns.{IsElecting}
use Rattle.bus_pageslot.proofs.SeatSteps.ElectionRows.{turned_electing}
use Rattle.bus_pageslot.proofs.SeatSteps.Rows.{goes_last, goes_some}
use Rattle.bus_pageslot.proofs.steps.elect_row.Goals as goal

-- a vote is next
pub returns-then-election_wants_word-clause-takes
    : goal.returns-then-election_wants_word-clause-takes
unfolding process_with
returns-then-election_wants_word-clause-takes g c =
    let new : SenderSeat (Sender (Elector g.row.Q.Denot)) = record {
      core = c.loop-taken.core;
      seat = c.loop-taken.seat;
    } in
    goes_last c.loop-taken.taken new c.loop-taken.invariant.0
    (goes_some c.loop-taken.taken new c.loop-taken.invariant.0 c.requires.wordless
    (sym c.election_wants_word.ensures ∙ c.if-election_wants_word.true))

-- the election has ended
pub returns-in-Some-clause-takes : goal.returns-in-Some-clause-takes
unfolding process_with
returns-in-Some-clause-takes g c =
    let Q = g.Q.Ratifier.protocol in
    let P = process_with g.Q.Machine.kind_of g.Q.Machine.op g.Q.Machine.fed Q in
    let T = tells_with g.Q.Machine.kind_of g.Q.Machine.op g.Q.Machine.fed Q in
    let old : SenderSeat (Sender (Elector g.row.Q.Denot)) = record {
      core = c.loop-taken.core;
      seat = c.loop-taken.seat;
    } in
    let new : SenderSeat (Sender (Elector g.row.Q.Denot)) = record {
      core = c.elect_once.new.core;
      seat = c.elect_once.new.seat;
    } in
    record {
      n = c.loop-taken.taken;
      old = old;
      before = c.loop-taken.invariant.0;
      so = record { tenure = c.args.tenure; elects = c.loop-taken.invariant.5 };
      wordless = sym c.election_wants_word.ensures ∙ c.if-election_wants_word.false;
      turned = subst (λ a. Turned P T old 0 (unwrap_or a Going) new) c.in-Some.is
          (turned_electing g.Q.Machine.kind_of g.Q.Machine.op g.Q.Machine.fed Q old new 0
          (unwrap_or c.elect_once.result Going) c.elect_once.ensures.due c.elect_once.ensures.took);
      all = refl;
    }

-- all were taken
pub returns-clause-takes : goal.returns-clause-takes
returns-clause-takes g c =
    let Q = g.Q.Ratifier.protocol in
    let P = process_with g.Q.Machine.kind_of g.Q.Machine.op g.Q.Machine.fed Q in
    let T = tells_with g.Q.Machine.kind_of g.Q.Machine.op g.Q.Machine.fed Q in
    let X = election_with g.Q.Machine.kind_of g.Q.Machine.op g.Q.Machine.fed Q in
    let new : SenderSeat (Sender (Elector g.row.Q.Denot)) = record {
      core = c.loop-taken.core;
      seat = c.loop-taken.seat;
    } in
    let all : c.loop-taken.taken ≡ c.args.most =
    let over = c.loop-taken-test.false in
    let few = c.loop-taken.invariant.7 in omega arith in
    goes_last c.args.most new
    (subst (λ n. GoesPlainly P T (IsElecting X)
    (record { core = c.args.core.now; seat = c.args.seat.now }) n new) all
    c.loop-taken.invariant.0)
    c.requires.some

pub loop-taken-init : goal.loop-taken-init
loop-taken-init g c = (
  NoneYet,
  c.requires.shows,
  refl,
  refl,
  refl,
  c.requires.elects,
  c.election_row-row.ensures,
  omega arith,
)

pub loop-taken-preserved : goal.loop-taken-preserved
unfolding process_with
loop-taken-preserved g c =
    let Q = g.Q.Ratifier.protocol in
    let P = process_with g.Q.Machine.kind_of g.Q.Machine.op g.Q.Machine.fed Q in
    let T = tells_with g.Q.Machine.kind_of g.Q.Machine.op g.Q.Machine.fed Q in
    let before = c.loop-taken.invariant in
    let old : SenderSeat (Sender (Elector g.row.Q.Denot)) = record {
      core = c.loop-taken.core;
      seat = c.loop-taken.seat;
    } in
    let new : SenderSeat (Sender (Elector g.row.Q.Denot)) = record {
      core = c.elect_once.new.core;
      seat = c.elect_once.new.seat;
    } in (
      Next c.loop-taken.taken old new before.0 (record {
        plain = record { tenure = c.args.tenure; elects = before.5 };
        wordless = sym c.election_wants_word.ensures ∙ c.if-election_wants_word.false;
        turned = subst (λ a. Turned P T old 0 (unwrap_or a Going) new) c.in_default.is
            (turned_electing g.Q.Machine.kind_of g.Q.Machine.op g.Q.Machine.fed Q old new 0
            (unwrap_or c.elect_once.result Going) c.elect_once.ensures.due
            c.elect_once.ensures.took);
      }),
      c.elect_once.ensures.shows,
      c.elect_once.ensures.table.0 ∙ before.2,
      c.elect_once.ensures.table.1 ∙ before.3,
      c.elect_once.ensures.stored ∙ before.4,
      c.elect_once.ensures.goes c.in_default.is,
      c.elect_once.ensures.row c.in_default.is,
      let less = c.loop-taken-test.true in omega arith,
    )
