use Rattle.std.proofs.Common.{◌≡◌, ◌≤◌, [], Some}
use Rattle.bus_automaton.specs.Buses.{process_with, automaton_with}
use Rattle.bus_automaton.specs.Processes.{base_in}
use Rattle.bus_pageslot.specs.Buses.{AreNewSeats}
use Rattle.bus_pageslot.specs.declared.rule.View.TheVariants.{Maker}
use Rattle.bus_pageslot.proofs.seating.seat_all.Given as goal

abbrev pub invariant-loop-me : goal.invariant-loop-me
invariant-loop-me g l = record {
  below : l.me ≤ l.plan.shape.senders;
  senders : AreNewSeats
      (process_with g.Q.Machine.kind_of g.Q.Machine.op g.Q.Machine.fed g.Q.Ratifier.protocol)
      (automaton_with g.Q.Machine.kind_of g.Q.Machine.op g.Q.Machine.fed g.Q.Ratifier.protocol
      l.plan) l.words.table l.me l.senders.items;
  table : l.maker.table_id ≡ l.words.table;
  maker : l.maker.me ≡ (
    Maker (automaton_with g.Q.Machine.kind_of g.Q.Machine.op g.Q.Machine.fed g.Q.Ratifier.protocol
        l.plan).table_layout l.me,
    [],
  );
}

-- the sender that is seated
abbrev pub ghosts-seat_next : goal.ghosts-seat_next
ghosts-seat_next g a = record {
  core = Some
      ((automaton_with g.Q.Machine.kind_of g.Q.Machine.op g.Q.Machine.fed g.Q.Ratifier.protocol
      a.plan).started a.me);
  first = base_in (automaton_with g.Q.Machine.kind_of g.Q.Machine.op g.Q.Machine.fed
      g.Q.Ratifier.protocol a.plan) a.me;
}
