use Rattle.std.proofs.Common.{sym, subst, ap}
use Rattle.bus_tenure.specs.Core.{Layout}
use Rattle.bus_tenure.specs.Elections.{elections, election_with}
use Rattle.bus_world.proofs.Serving.{Serves, serves}
use Rattle.bus_world.specs.World.{IsLayout}
use Rattle.bus_machine.proofs.Bases.Leading.{Sits}
use Rattle.bus_replay.proofs.ClosingLaws.{closes_alike}
use Rattle.bus_replay.proofs.laws.closing_lines_are_of_the_bus.Goals as goal

pub returns : goal.returns
returns g c senders rounds rows capacity batch ok bus trails other taken text same has closes
    reached =
    let P = g.Q.Ratifier.protocol in
    let X = election_with g.Q.Machine.kind_of g.Q.Machine.op g.Q.Machine.fed P in
    let R = elections P rounds in
    let s = serves g.Q.Machine.kind_of g.Q.Machine.op g.Q.Machine.fed P
    g.met.Q.Machine.names_each_step g.met.Q.Ratifier.own_kinds senders rounds rows capacity 0 batch
    (c.election_is_lawful.ensures.lawful.laws rounds) in
    let t : Sits X R bus = record {
      serves = subst (Serves X R) (sym same) s;
      ok = subst IsLayout (sym same) ok;
      rows = has;
    } in
    closes_alike X P R bus trails other t closes.happened reached
    (ap (λ (x : Layout). x.passers) same) taken text closes
