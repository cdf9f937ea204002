use Rattle.std.proofs.Common.{rules}
use Rattle.bus_automaton.specs.Buses.{process_with}
use Rattle.bus_pageslot.proofs.seats.Sender.kind.Goals as goal

pub returns-clause-kind : goal.returns-clause-kind
unfolding process_with
returns-clause-kind g c = search rules
