use Rattle.std.proofs.Common.{sym, subst}
use Rattle.bus_tenure.specs.Elections.{elections, election_with}
use Rattle.bus_world.proofs.Serving.{Serves, serves}
use Rattle.bus_world.specs.World.{IsLayout}
use Rattle.bus_machine.proofs.Bases.Leading.{Sits}
use Rattle.bus_machine.proofs.Frames.Framed.{framed}
use Rattle.bus_machine.proofs.Ring.Giving.{given_alike, given_refuse}
use Rattle.bus_machine.proofs.laws.receivers_are_given_alike.Goals as goal

pub returns-clause-given : goal.returns-clause-given
returns-clause-given g c senders rounds rows capacity passers batch ok machine trails same has
    reached =
    let P = g.Q.Ratifier.protocol in
    let X = election_with g.Q.Machine.kind_of g.Q.Machine.op g.Q.Machine.fed P in
    let R = elections P rounds in
    let s = serves g.Q.Machine.kind_of g.Q.Machine.op g.Q.Machine.fed P
    g.met.Q.Machine.names_each_step g.met.Q.Ratifier.own_kinds senders rounds rows capacity passers
    batch
    (c.election_is_lawful.ensures.lawful.laws rounds) in
    let t : Sits X R machine = record {
      serves = subst (Serves X R) (sym same) s;
      ok = subst IsLayout (sym same) ok;
      rows = has;
    } in
    given_alike R machine trails (framed X R machine trails t reached)

pub returns-clause-refuses : goal.returns-clause-refuses
returns-clause-refuses g c machine trails = given_refuse machine trails
