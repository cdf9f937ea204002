use Rattle.std.proofs.Common.{rules}
use Rattle.bus_automaton.specs.Buses.{process_with}
use Rattle.bus_pageslot.proofs.seats.Sender.log_words.Goals as goal

pub returns : goal.returns
unfolding process_with
returns g c = search rules
