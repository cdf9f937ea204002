use Rattle.std.proofs.Common.{sym, subst}
use Rattle.bus_tenure.specs.Elections.{elections, election_with}
use Rattle.bus_world.proofs.Serving.{Serves, serves}
use Rattle.bus_world.specs.World.{IsLayout}
use Rattle.bus_machine.proofs.Bases.Leading.{Sits, sits_after}
use Rattle.bus_machine.proofs.Onward.StageLeaves.{opens_only}
use Rattle.bus_machine.proofs.Promised.{promised}
use Rattle.bus_machine.specs.Machine.{Then, trails_grown}
use Rattle.bus_machine.proofs.Onward.Following.{follows, tells}
use Rattle.bus_machine.proofs.laws.events_keep_promise.Goals as goal

pub returns : goal.returns
returns g c senders rounds rows capacity passers batch ok old trails same has reached event given
    new happens =
    let P = g.Q.Ratifier.protocol in
    let X = election_with g.Q.Machine.kind_of g.Q.Machine.op g.Q.Machine.fed P in
    let R = elections P rounds in
    let s = serves g.Q.Machine.kind_of g.Q.Machine.op g.Q.Machine.fed P
    g.met.Q.Machine.names_each_step g.met.Q.Ratifier.own_kinds senders rounds rows capacity passers
    batch
    (c.election_is_lawful.ensures.lawful.laws rounds) in
    let t : Sits X R old = record {
      serves = subst (Serves X R) (sym same) s;
      ok = subst IsLayout (sym same) ok;
      rows = has;
    } in
    let told = tells X R old trails t reached new event given happens in
    let U = trails_grown X old event given trails in (
      follows X R old trails t reached new event given happens,
      told,
      opens_only X old new trails U event given (promised X R old trails t reached)
          (promised X R new U (sits_after X R old new event given happens t)
          (Then old new trails event given reached happens)) told happens,
    )
