-- What the answer to a sender's step tells of all that happened.
use Rattle.std.specs.Prelude.{◌≡◌, ℕ, Option, List}
use Rattle.atomic_table.specs.Table.{State}
use Rattle.bus_core.specs.Senders.{Sender}
use Rattle.bus_machine.specs.Machine.{Machine}
use Rattle.bus_machine.specs.Telling.{TurnTells}
use Rattle.bus_tenure.specs.Core.{Layout}
use Rattle.bus_tenure.specs.declared.pages.Page.{Page}
use Rattle.bus_tenure.specs.declared.turns.Turn.{Turn}
use Rattle.bus_world.specs.Headline.{Action}
use Rattle.bus_automaton.specs.Processes.{Process, Automaton, log_in}
use Rattle.bus_pageslot.specs.Rule.{TableInvariant}
use Rattle.bus_pageslot.specs.declared.rule.View.{View}

-- It is so of the words of a table of which the rule holds, as a machine of these sizes has them;
-- of all that was published by what led to the table; and of all that the sender did, this step
-- included.
pub record IsTrueAnswer {E : Type 0} {P : Process (Sender E)} {A : Automaton (Sender E)}
    (x : Layout) (reuse : Option ℕ) {s : State (Option Page) (View (Sender E))}
    (r : TableInvariant P A s) (d : Sender E) (actions : List Action) (answer : Turn) : Type 0 where
  pub machine : Machine E
  pub layout : machine.layout ≡ x
  pub rows_are : machine.reuse ≡ reuse
  pub words : s.words ≡ machine.words
  pub tells : TurnTells machine (log_in A r.state) d.core.me d actions answer
