use Rattle.bus_tenure.specs.Elections.{election_with}
use Rattle.bus_tenure.proofs.Publishing.{publishes_onward}
use Rattle.bus_tenure.proofs.laws.published_frames_go_on.Goals as goal

pub returns : goal.returns
returns g c = publishes_onward
    (election_with g.Q.Machine.kind_of g.Q.Machine.op g.Q.Machine.fed g.Q.Ratifier.protocol)
