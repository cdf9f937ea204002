use Rattle.std.proofs.Common.{rules}
use Rattle.bus_automaton.specs.Buses.{process_with}
use Rattle.bus_pageslot.proofs.seats.Sender.wants_word.Goals as goal

pub returns-clause-word : goal.returns-clause-word
unfolding process_with
returns-clause-word g c = search rules

pub returns-clause-vote : goal.returns-clause-vote
unfolding process_with
returns-clause-vote g c = search rules
