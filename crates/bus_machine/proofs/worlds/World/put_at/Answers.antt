use Rattle.std.proofs.Common.{arith}
use Rattle.bus_tenure.specs.Elections.{elections, election_with}
use Rattle.bus_machine.proofs.Bases.Served.{served}
use Rattle.bus_world.proofs.PlayingLaws.{there, passed_up, small_bytes}
use Rattle.bus_world.specs.World.{Put}
use Rattle.bus_machine.proofs.Calls.Events.{senders_many, put_happens, put_refuses, put_sits}
use Rattle.bus_machine.proofs.Calls.Events.{put_unknown}
use Rattle.bus_machine.proofs.Calls.Holding.{numbers}
use Rattle.bus_machine.specs.Playing.{Refuses}
use Rattle.bus_machine.proofs.worlds.World.put_at.Goals as goal

pub put_to-requires : goal.put_to-requires
put_to-requires g c =
    let P = g.Q.Ratifier.protocol in
    let X = election_with g.Q.Machine.kind_of g.Q.Machine.op g.Q.Machine.fed P in
    let shape = c.self.inside.shape in
    let R = elections P shape.rounds in
    let s = served g.Q.Machine.kind_of g.Q.Machine.op g.Q.Machine.fed P
    g.met.Q.Machine.names_each_step g.met.Q.Ratifier.own_kinds shape
    (c.election_is_lawful.ensures.lawful.laws shape.rounds) c.self.inside.reuse
    c.self.inside.passers in
    let many = senders_many X _ c.self.invariant c.args.self.now c.self.view_is c.args.sender
    c.in_ok-goes_on.ensures.there in
    let at = there c.self.inside.senders.items c.args.sender c.index_mut.result.now many
    c.index_mut.ensures.value in
    numbers X R _ s c.self.invariant c.args.sender c.index_mut.result.now at

pub invariant_of-self : goal.invariant_of-self
invariant_of-self g c =
    let P = g.Q.Ratifier.protocol in
    let X = election_with g.Q.Machine.kind_of g.Q.Machine.op g.Q.Machine.fed P in
    let shape = c.self.inside.shape in
    let R = elections P shape.rounds in
    let s = served g.Q.Machine.kind_of g.Q.Machine.op g.Q.Machine.fed P
    g.met.Q.Machine.names_each_step g.met.Q.Ratifier.own_kinds shape
    (c.election_is_lawful.ensures.lawful.laws shape.rounds) c.self.inside.reuse
    c.self.inside.passers in
    let many = senders_many X _ c.self.invariant c.args.self.now c.self.view_is c.args.sender
    c.in_ok-goes_on.ensures.there in
    let at = there c.self.inside.senders.items c.args.sender c.index_mut.result.now many
    c.index_mut.ensures.value in
    put_sits X _ c.self.invariant c.args.self.now c.self.view_is c.args.sender
    c.index_mut.result.now at c.in_ok-goes_on.ensures.goes c.args.bytes.now
    (small_bytes c.args.bytes.now (λ i. omega (arith, c.type_inv.bytes i))) c.put_to.new.core
    c.put_to.result c.put_to.ensures.taken c.put_to.ensures.fault c.put_to.ensures.refused

pub returns-clause-happens : goal.returns-clause-happens
returns-clause-happens g c =
    let P = g.Q.Ratifier.protocol in
    let X = election_with g.Q.Machine.kind_of g.Q.Machine.op g.Q.Machine.fed P in
    let shape = c.self.inside.shape in
    let R = elections P shape.rounds in
    let s = served g.Q.Machine.kind_of g.Q.Machine.op g.Q.Machine.fed P
    g.met.Q.Machine.names_each_step g.met.Q.Ratifier.own_kinds shape
    (c.election_is_lawful.ensures.lawful.laws shape.rounds) c.self.inside.reuse
    c.self.inside.passers in
    let many = senders_many X _ c.self.invariant c.args.self.now c.self.view_is c.args.sender
    c.in_ok-goes_on.ensures.there in
    let at = there c.self.inside.senders.items c.args.sender c.index_mut.result.now many
    c.index_mut.ensures.value in
    put_happens X _ c.self.invariant c.args.self.now c.self.view_is c.args.sender
    c.index_mut.result.now at c.in_ok-goes_on.ensures.goes c.args.bytes.now
    (small_bytes c.args.bytes.now (λ i. omega (arith, c.type_inv.bytes i))) c.put_to.new.core
    c.put_to.result c.put_to.ensures.taken

pub returns-clause-refused : goal.returns-clause-refused
returns-clause-refused g c =
    let P = g.Q.Ratifier.protocol in
    let X = election_with g.Q.Machine.kind_of g.Q.Machine.op g.Q.Machine.fed P in
    let shape = c.self.inside.shape in
    let R = elections P shape.rounds in
    let s = served g.Q.Machine.kind_of g.Q.Machine.op g.Q.Machine.fed P
    g.met.Q.Machine.names_each_step g.met.Q.Ratifier.own_kinds shape
    (c.election_is_lawful.ensures.lawful.laws shape.rounds) c.self.inside.reuse
    c.self.inside.passers in
    let many = senders_many X _ c.self.invariant c.args.self.now c.self.view_is c.args.sender
    c.in_ok-goes_on.ensures.there in
    let at = there c.self.inside.senders.items c.args.sender c.index_mut.result.now many
    c.index_mut.ensures.value in
    put_refuses X _ c.self.invariant c.args.self.now c.self.view_is c.args.sender
    c.index_mut.result.now at c.in_ok-goes_on.ensures.goes c.args.bytes.now
    (small_bytes c.args.bytes.now (λ i. omega (arith, c.type_inv.bytes i))) c.put_to.new.core
    c.put_to.result c.put_to.ensures.fault c.put_to.ensures.refused

pub returns-in_err-goes_on-clause-refused : goal.returns-in_err-goes_on-clause-refused
returns-in_err-goes_on-clause-refused g c =
    passed_up _ _
    (λ why. Refuses c.args.self.now (Put c.args.sender c.args.bytes.now) why c.args.self.now)
    c.from_residual.ensures
    (put_unknown c.args.self.now c.args.sender _ c.in_err-goes_on.ensures.fault c.args.bytes.now)
