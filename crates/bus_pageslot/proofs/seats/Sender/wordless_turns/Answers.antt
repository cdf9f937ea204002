use Rattle.std.proofs.Common.{refl, ◌∙◌, ap}
use Rattle.bus_core.specs.declared.steps.Step.TheVariants as step
use Rattle.bus_pageslot.specs.Turns.{tells_with, NoneYet}
use Rattle.bus_pageslot.proofs.SeatSteps.Rows.{takes_any}
use Rattle.bus_pageslot.proofs.seats.Sender.wordless_turns.Goals as goal

pub election_turns-requires-clause-elects : goal.election_turns-requires-clause-elects
election_turns-requires-clause-elects g c =
    c.requires.next ∙ c.in-Does.is ∙ ap step.Does c.in-Elects.is

pub returns-in-Elects-clause-takes : goal.returns-in-Elects-clause-takes
unfolding tells_with
returns-in-Elects-clause-takes g c =
    takes_any c.election_turns.result.0 c.election_turns.result.1 c.election_turns.new.self
    c.election_turns.ensures.takes

pub returns-clause-takes : goal.returns-clause-takes
unfolding tells_with
returns-clause-takes g c = record {
  n = 0;
  old = c.args.self.now;
  before = NoneYet;
  so = tt;
  wordless = c.requires.wordless;
  turned = record { rests = c.turn_apart.ensures.rests; steps = c.turn_apart.ensures.steps };
  all = refl;
}
