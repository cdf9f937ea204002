use Rattle.std.proofs.Common.{sym, subst}
use Rattle.bus_tenure.specs.Elections.{elections, election_with}
use Rattle.bus_world.proofs.Serving.{Serves, serves}
use Rattle.bus_world.specs.World.{IsLayout}
use Rattle.bus_machine.proofs.Bases.Leading.{Sits}
use Rattle.bus_machine.proofs.Frames.Framed.{framed, loads_words, read_below}
use Rattle.bus_machine.proofs.laws.history_stands.Goals as goal

pub returns : goal.returns
returns g c senders rounds rows capacity passers batch ok machine trails same has reached =
    let P = g.Q.Ratifier.protocol in
    let X = election_with g.Q.Machine.kind_of g.Q.Machine.op g.Q.Machine.fed P in
    let R = elections P rounds in
    let s = serves g.Q.Machine.kind_of g.Q.Machine.op g.Q.Machine.fed P
    g.met.Q.Machine.names_each_step g.met.Q.Ratifier.own_kinds senders rounds rows capacity passers
    batch
    (c.election_is_lawful.ensures.lawful.laws rounds) in
    let t : Sits X R machine = record {
      serves = subst (Serves X R) (sym same) s;
      ok = subst IsLayout (sym same) ok;
      rows = has;
    } in
    let f = framed X R machine trails t reached in (
      f.stands,
      loads_words R machine trails f,
      λ flat. read_below R machine trails f flat,
    )
