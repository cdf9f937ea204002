use Rattle.bus_tenure.specs.Elections.{election_with}
use Rattle.bus_core.proofs.Refused.{refused, rests_refused, places_refused}
use Rattle.bus_core.proofs.refusals.answers_refuse.Goals as goal

pub returns-clause-steps : goal.returns-clause-steps
returns-clause-steps g c sender got word = refused
    (election_with g.Q.Machine.kind_of g.Q.Machine.op g.Q.Machine.fed g.Q.Ratifier.protocol) sender
    got word

pub returns-clause-rests : goal.returns-clause-rests
returns-clause-rests g c sender = rests_refused sender

pub returns-clause-places : goal.returns-clause-places
returns-clause-places g c sender = places_refused sender
