use Rattle.bus_tenure.specs.Elections.{election_with}
use Rattle.bus_tenure.proofs.Inverted.{in_tenure}
use Rattle.bus_tenure.proofs.turning.Turns.end.Goals as goal

pub finish-requires : goal.finish-requires
finish-requires g c =
    in_tenure
    (election_with g.Q.Machine.kind_of g.Q.Machine.op g.Q.Machine.fed g.Q.Ratifier.protocol) _ _ _ _
    c.self.view_is c.self.invariant c.args.tenure c.args.reason c.requires
