use Rattle.bus_tenure.specs.Elections.{elections, election_with}
use Rattle.bus_machine.proofs.Bases.Served.{served}
use Rattle.bus_world.proofs.PlayingLaws.{there}
use Rattle.bus_machine.proofs.Calls.Events.{receivers_many, gone_happens, gone_sits}
use Rattle.bus_machine.proofs.Calls.Holding.{leaves_within}
use Rattle.bus_machine.proofs.worlds.World.gone_at.Goals as goal

pub leave_for_good-requires : goal.leave_for_good-requires
leave_for_good-requires g c =
    let P = g.Q.Ratifier.protocol in
    let X = election_with g.Q.Machine.kind_of g.Q.Machine.op g.Q.Machine.fed P in
    let shape = c.self.inside.shape in
    let s = served g.Q.Machine.kind_of g.Q.Machine.op g.Q.Machine.fed P
    g.met.Q.Machine.names_each_step g.met.Q.Ratifier.own_kinds shape
    (c.election_is_lawful.ensures.lawful.laws shape.rounds) c.self.inside.reuse
    c.self.inside.passers in
    let many = receivers_many X _ c.self.invariant c.args.self.now c.self.view_is c.args.receiver
    c.in_ok-listens.ensures.there in
    let at = there c.self.inside.receivers.items c.args.receiver c.index_mut-reader.result.now many
    c.index_mut-reader.ensures.value in
    record {
      within = leaves_within X (elections P shape.rounds) _ s c.self.invariant c.args.receiver
          c.index_mut-reader.result.now at;
    }

pub invariant_of-self : goal.invariant_of-self
invariant_of-self g c =
    let P = g.Q.Ratifier.protocol in
    let X = election_with g.Q.Machine.kind_of g.Q.Machine.op g.Q.Machine.fed P in
    let shape = c.self.inside.shape in
    let s = served g.Q.Machine.kind_of g.Q.Machine.op g.Q.Machine.fed P
    g.met.Q.Machine.names_each_step g.met.Q.Ratifier.own_kinds shape
    (c.election_is_lawful.ensures.lawful.laws shape.rounds) c.self.inside.reuse
    c.self.inside.passers in
    let many = receivers_many X _ c.self.invariant c.args.self.now c.self.view_is c.args.receiver
    c.in_ok-listens.ensures.there in
    let at = there c.self.inside.receivers.items c.args.receiver c.index_mut-reader.result.now many
    c.index_mut-reader.ensures.value in
    let low = leaves_within X (elections P shape.rounds) _ s c.self.invariant c.args.receiver
    c.index_mut-reader.result.now at in
    gone_sits X _ c.self.invariant c.args.self.now c.self.view_is c.args.receiver
    c.index_mut-reader.result.now at c.in_ok-listens.ensures.stays
    c.leave_for_good.new.reader c.leave_for_good.new.cells low c.leave_for_good.ensures.left
    c.leave_for_good.ensures.words

pub returns-clause-happens : goal.returns-clause-happens
returns-clause-happens g c =
    let P = g.Q.Ratifier.protocol in
    let X = election_with g.Q.Machine.kind_of g.Q.Machine.op g.Q.Machine.fed P in
    let shape = c.self.inside.shape in
    let s = served g.Q.Machine.kind_of g.Q.Machine.op g.Q.Machine.fed P
    g.met.Q.Machine.names_each_step g.met.Q.Ratifier.own_kinds shape
    (c.election_is_lawful.ensures.lawful.laws shape.rounds) c.self.inside.reuse
    c.self.inside.passers in
    let many = receivers_many X _ c.self.invariant c.args.self.now c.self.view_is c.args.receiver
    c.in_ok-listens.ensures.there in
    let at = there c.self.inside.receivers.items c.args.receiver c.index_mut-reader.result.now many
    c.index_mut-reader.ensures.value in
    let low = leaves_within X (elections P shape.rounds) _ s c.self.invariant c.args.receiver
    c.index_mut-reader.result.now at in
    gone_happens X _ c.self.invariant c.args.self.now c.self.view_is c.args.receiver
    c.index_mut-reader.result.now at c.in_ok-listens.ensures.stays
    c.leave_for_good.new.reader c.leave_for_good.new.cells low c.leave_for_good.ensures.left
    c.leave_for_good.ensures.words
