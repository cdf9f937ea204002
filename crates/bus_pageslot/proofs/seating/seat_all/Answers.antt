use Rattle.std.proofs.Common.{◌≡◌, [], ◌+◌, arith, subst, sym, ◌∙◌, ap}
use Rattle.atomic_table.specs.Seated.{TableId}
use Rattle.bus_automaton.specs.Buses.{process_with, automaton_with}
use Rattle.bus_pageslot.specs.declared.rule.View.TheVariants.{Maker}
use Rattle.bus_pageslot.specs.Buses.{IsNewSeat, AreNewSeats}
use Rattle.bus_pageslot.proofs.Ruled.Openings.{one_more}
use Rattle.bus_pageslot.proofs.seating.seat_all.Goals as goal

pub seat_next-sender-requires-clause-wide : goal.seat_next-sender-requires-clause-wide
seat_next-sender-requires-clause-wide g c = (
  ap (λ (z : TableId). z.words) c.loop-me.invariant.table ∙ c.requires.bus_table.words,
  ap (λ (z : TableId). z.slots) c.loop-me.invariant.table ∙ c.requires.bus_table.slots,
)

pub loop-me-preserved : goal.loop-me-preserved
loop-me-preserved g c =
    let P = process_with g.Q.Machine.kind_of g.Q.Machine.op g.Q.Machine.fed g.Q.Ratifier.protocol in
    let A = automaton_with g.Q.Machine.kind_of g.Q.Machine.op g.Q.Machine.fed g.Q.Ratifier.protocol
    c.args.plan in
    let table = c.args.words.now.table in
    record {
      below = omega arith;
      senders = subst (AreNewSeats P A table (c.loop-me.me + 1)) (sym c.in_ok-push.ensures.items)
          (one_more P A table c.loop-me.me c.loop-me.senders.items c.seat_next-sender.result
          c.loop-me.invariant.senders
          (subst (λ z. IsNewSeat P A z c.loop-me.me c.seat_next-sender.result)
          c.loop-me.invariant.table c.seat_next-sender.ensures.seat));
      table = c.seat_next-sender.ensures.table ∙ c.loop-me.invariant.table;
      maker = c.seat_next-sender.ensures.maker;
    }

pub returns-clause-senders : goal.returns-clause-senders
returns-clause-senders g c =
    let P = process_with g.Q.Machine.kind_of g.Q.Machine.op g.Q.Machine.fed g.Q.Ratifier.protocol in
    let A = automaton_with g.Q.Machine.kind_of g.Q.Machine.op g.Q.Machine.fed g.Q.Ratifier.protocol
    c.args.plan in
    let all : c.loop-me.me ≡ c.args.plan.shape.senders =
    let b = c.loop-me.invariant.below in omega arith in
    subst (λ n. AreNewSeats P A c.args.words.now.table n c.loop-me.senders.items) all
    c.loop-me.invariant.senders

pub returns-clause-maker : goal.returns-clause-maker
returns-clause-maker g c =
    let P = process_with g.Q.Machine.kind_of g.Q.Machine.op g.Q.Machine.fed g.Q.Ratifier.protocol in
    let A = automaton_with g.Q.Machine.kind_of g.Q.Machine.op g.Q.Machine.fed g.Q.Ratifier.protocol
    c.args.plan in
    let all : c.loop-me.me ≡ c.args.plan.shape.senders =
    let b = c.loop-me.invariant.below in omega arith in (
      c.loop-me.invariant.table,
      c.loop-me.invariant.maker ∙ ap (λ k. (Maker A.table_layout k, [])) all,
    )
