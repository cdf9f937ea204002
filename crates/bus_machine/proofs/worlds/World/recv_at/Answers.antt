use Rattle.std.proofs.Common.{◌≡◌, Some, slice_get, subst}
use Rattle.bus_tenure.specs.Elections.{elections, election_with}
use Rattle.bus_machine.proofs.Bases.Served.{served}
use Rattle.bus_world.proofs.PlayingLaws.{there}
use Rattle.bus_machine.proofs.Calls.Events.{receivers_many, recv_happens, recv_sits}
use Rattle.bus_machine.proofs.Calls.Holding.{loads_within}
use Rattle.bus_machine.proofs.worlds.World.recv_at.Goals as goal

pub turn_receiver-requires : goal.turn_receiver-requires
turn_receiver-requires g c =
    let P = g.Q.Ratifier.protocol in
    let X = election_with g.Q.Machine.kind_of g.Q.Machine.op g.Q.Machine.fed P in
    let shape = c.self.inside.shape in
    let R = elections P shape.rounds in
    let s = served g.Q.Machine.kind_of g.Q.Machine.op g.Q.Machine.fed P
    g.met.Q.Machine.names_each_step g.met.Q.Ratifier.own_kinds shape
    (c.election_is_lawful.ensures.lawful.laws shape.rounds) c.self.inside.reuse
    c.self.inside.passers in
    let many = receivers_many X _ c.self.invariant c.args.self.now c.self.view_is c.args.receiver
    c.in_ok-listens.ensures.there in
    let at = there c.self.inside.receivers.items c.args.receiver c.index_mut-reader.result.now many
    c.index_mut-reader.ensures.value in
    record {
      stays = c.in_ok-listens.ensures.stays c.index_mut-reader.result.now
          (subst (λ y. slice_get y.receivers c.args.receiver ≡ Some c.index_mut-reader.result.now)
          c.self.view_is at);
      within = loads_within X R _ s c.self.invariant c.args.receiver
          c.index_mut-reader.result.now at;
    }

pub invariant_of-self : goal.invariant_of-self
invariant_of-self g c =
    let P = g.Q.Ratifier.protocol in
    let X = election_with g.Q.Machine.kind_of g.Q.Machine.op g.Q.Machine.fed P in
    let shape = c.self.inside.shape in
    let s = served g.Q.Machine.kind_of g.Q.Machine.op g.Q.Machine.fed P
    g.met.Q.Machine.names_each_step g.met.Q.Ratifier.own_kinds shape
    (c.election_is_lawful.ensures.lawful.laws shape.rounds) c.self.inside.reuse
    c.self.inside.passers in
    let many = receivers_many X _ c.self.invariant c.args.self.now c.self.view_is c.args.receiver
    c.in_ok-listens.ensures.there in
    let at = there c.self.inside.receivers.items c.args.receiver c.index_mut-reader.result.now many
    c.index_mut-reader.ensures.value in
    let low = loads_within X (elections P shape.rounds) _ s c.self.invariant c.args.receiver
    c.index_mut-reader.result.now at in
    recv_sits X _ c.self.invariant c.args.self.now c.self.view_is c.args.receiver
    c.index_mut-reader.result.now at c.in_ok-listens.ensures.stays
    c.turn_receiver.new.reader c.turn_receiver.result c.turn_receiver.new.cells low
    c.turn_receiver.ensures.step c.turn_receiver.ensures.words

pub returns-clause-happens : goal.returns-clause-happens
returns-clause-happens g c =
    let P = g.Q.Ratifier.protocol in
    let X = election_with g.Q.Machine.kind_of g.Q.Machine.op g.Q.Machine.fed P in
    let shape = c.self.inside.shape in
    let s = served g.Q.Machine.kind_of g.Q.Machine.op g.Q.Machine.fed P
    g.met.Q.Machine.names_each_step g.met.Q.Ratifier.own_kinds shape
    (c.election_is_lawful.ensures.lawful.laws shape.rounds) c.self.inside.reuse
    c.self.inside.passers in
    let many = receivers_many X _ c.self.invariant c.args.self.now c.self.view_is c.args.receiver
    c.in_ok-listens.ensures.there in
    let at = there c.self.inside.receivers.items c.args.receiver c.index_mut-reader.result.now many
    c.index_mut-reader.ensures.value in
    let low = loads_within X (elections P shape.rounds) _ s c.self.invariant c.args.receiver
    c.index_mut-reader.result.now at in
    recv_happens X _ c.self.invariant c.args.self.now c.self.view_is c.args.receiver
    c.index_mut-reader.result.now at c.in_ok-listens.ensures.stays
    c.turn_receiver.new.reader c.turn_receiver.result c.turn_receiver.new.cells low
    c.turn_receiver.ensures.step c.turn_receiver.ensures.words
