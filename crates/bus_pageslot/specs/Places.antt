-- Where the words of a bus have its log and its passed places.
use Rattle.std.specs.Prelude.{◌≡◌}
use Rattle.bus_automaton.specs.Processes.{TableLayout}
use Rattle.bus_pageslot.specs.declared.outcomes.Places.{Places}

-- as this layout has them
pub record AreIn (x : TableLayout) (places : Places) : Type 0 where
  pub log : places.log ≡ x.log
  pub log_words : places.log_words ≡ x.capacity
  pub passed : places.passed ≡ x.passed
  pub passers : places.passers ≡ x.passers
