use Rattle.std.proofs.Common.{◌≡◌, ◌+◌, [], arith, subst, sym, ◌∙◌, ap}
use Rattle.bus_pageslot.specs.declared.rule.View.TheVariants.{Maker}
use Rattle.atomic_table.specs.Seated.{TableId}
use Rattle.bus_automaton.specs.Buses.{automaton_with}
use Rattle.bus_pageslot.specs.Buses.{IsNewTap, AreNewTaps}
use Rattle.bus_pageslot.proofs.Ruled.Openings.{one_more_tap}
use Rattle.bus_pageslot.proofs.seating.tap_all.Goals as goal

pub tap_next-tap-requires-clause-wide : goal.tap_next-tap-requires-clause-wide
tap_next-tap-requires-clause-wide g c =
    ap (λ (z : TableId). z.words) c.loop-index.invariant.table ∙ c.requires.wide

pub loop-index-preserved : goal.loop-index-preserved
loop-index-preserved g c =
    let n =
    (automaton_with g.Q.Machine.kind_of g.Q.Machine.op g.Q.Machine.fed g.Q.Ratifier.protocol
    c.args.plan).table_layout in
    let table = c.args.words.now.table in
    record {
      below = omega arith;
      taps = subst (AreNewTaps n table (c.loop-index.index + 1)) (sym c.in_ok-push.ensures.items)
          (one_more_tap n table c.loop-index.index c.loop-index.taps.items c.tap_next-tap.result
          c.loop-index.invariant.taps
          (subst (λ z. IsNewTap n z c.loop-index.index c.tap_next-tap.result)
          c.loop-index.invariant.table
          c.tap_next-tap.ensures.tap));
      table = c.tap_next-tap.ensures.table ∙ c.loop-index.invariant.table;
      maker = c.tap_next-tap.ensures.maker
          ∙ ap (λ k. (Maker n k, []))
          (let is : c.args.plan.shape.senders + c.loop-index.index + 1
          ≡ c.args.plan.shape.senders + (c.loop-index.index + 1) = omega arith in is);
    }

pub returns : goal.returns
returns g c =
    let all : c.loop-index.index ≡ c.args.plan.shape.receivers =
    let b = c.loop-index.invariant.below in omega arith in
    subst (λ n. AreNewTaps (automaton_with g.Q.Machine.kind_of g.Q.Machine.op g.Q.Machine.fed
    g.Q.Ratifier.protocol c.args.plan).table_layout c.args.words.now.table n
    c.loop-index.taps.items) all
    c.loop-index.invariant.taps
