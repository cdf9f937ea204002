use Rattle.std.proofs.Common.{rules}
use Rattle.bus_automaton.specs.Buses.{process_with}
use Rattle.bus_pageslot.proofs.seats.Sender.turns_left.Goals as goal

pub returns-clause-turns : goal.returns-clause-turns
unfolding process_with
returns-clause-turns g c = search rules
