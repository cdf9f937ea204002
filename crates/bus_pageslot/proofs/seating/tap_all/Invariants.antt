use Rattle.std.proofs.Common.{◌≡◌, ◌≤◌, ◌+◌, []}
use Rattle.bus_automaton.specs.Buses.{automaton_with}
use Rattle.bus_pageslot.specs.Buses.{AreNewTaps}
use Rattle.bus_pageslot.specs.declared.rule.View.TheVariants.{Maker}
use Rattle.bus_pageslot.proofs.seating.tap_all.Given as goal

abbrev pub invariant-loop-index : goal.invariant-loop-index
invariant-loop-index g l = record {
  below : l.index ≤ l.plan.shape.receivers;
  taps : AreNewTaps (automaton_with g.Q.Machine.kind_of g.Q.Machine.op g.Q.Machine.fed
      g.Q.Ratifier.protocol l.plan).table_layout l.words.table l.index l.taps.items;
  table : l.maker.table_id ≡ l.words.table;
  maker : l.maker.me ≡ (
    Maker (automaton_with g.Q.Machine.kind_of g.Q.Machine.op g.Q.Machine.fed g.Q.Ratifier.protocol
        l.plan).table_layout (l.plan.shape.senders + l.index),
    [],
  );
}
