use Rattle.bus_tenure.specs.Elections.{election_with}
use Rattle.bus_world.proofs.PlayingLaws.{there, passed_up}
use Rattle.bus_world.specs.World.{Ask}
use Rattle.bus_machine.proofs.Calls.Events.{senders_many, mark_happens, mark_refuses, mark_sits}
use Rattle.bus_machine.proofs.Calls.Events.{mark_unknown}
use Rattle.bus_machine.specs.Playing.{Refuses}
use Rattle.bus_machine.proofs.worlds.World.mark_at.Goals as goal

pub invariant_of-self : goal.invariant_of-self
invariant_of-self g c =
    let X =
    election_with g.Q.Machine.kind_of g.Q.Machine.op g.Q.Machine.fed g.Q.Ratifier.protocol in
    let many = senders_many X _ c.self.invariant c.args.self.now c.self.view_is c.args.sender
    c.in_ok-goes_on.ensures.there in
    let at = there c.self.inside.senders.items c.args.sender c.index_mut.result.now many
    c.index_mut.ensures.value in
    mark_sits X _ c.self.invariant c.args.self.now c.self.view_is c.args.sender
    c.index_mut.result.now at c.in_ok-goes_on.ensures.goes c.args.mark c.mark_to.new.core
    c.mark_to.result c.mark_to.ensures.taken c.mark_to.ensures.fault c.mark_to.ensures.refused

pub returns-clause-happens : goal.returns-clause-happens
returns-clause-happens g c =
    let X =
    election_with g.Q.Machine.kind_of g.Q.Machine.op g.Q.Machine.fed g.Q.Ratifier.protocol in
    let many = senders_many X _ c.self.invariant c.args.self.now c.self.view_is c.args.sender
    c.in_ok-goes_on.ensures.there in
    let at = there c.self.inside.senders.items c.args.sender c.index_mut.result.now many
    c.index_mut.ensures.value in
    mark_happens X _ c.self.invariant c.args.self.now c.self.view_is c.args.sender
    c.index_mut.result.now at c.in_ok-goes_on.ensures.goes c.args.mark c.mark_to.new.core
    c.mark_to.result c.mark_to.ensures.taken

pub returns-clause-refused : goal.returns-clause-refused
returns-clause-refused g c =
    let X =
    election_with g.Q.Machine.kind_of g.Q.Machine.op g.Q.Machine.fed g.Q.Ratifier.protocol in
    let many = senders_many X _ c.self.invariant c.args.self.now c.self.view_is c.args.sender
    c.in_ok-goes_on.ensures.there in
    let at = there c.self.inside.senders.items c.args.sender c.index_mut.result.now many
    c.index_mut.ensures.value in
    mark_refuses X _ c.self.invariant c.args.self.now c.self.view_is c.args.sender
    c.index_mut.result.now at c.in_ok-goes_on.ensures.goes c.args.mark c.mark_to.new.core
    c.mark_to.result c.mark_to.ensures.fault c.mark_to.ensures.refused

pub returns-in_err-goes_on-clause-refused : goal.returns-in_err-goes_on-clause-refused
returns-in_err-goes_on-clause-refused g c =
    passed_up _ _
    (λ why. Refuses c.args.self.now (Ask c.args.sender c.args.mark) why c.args.self.now)
    c.from_residual.ensures
    (mark_unknown c.args.self.now c.args.sender _ c.in_err-goes_on.ensures.fault c.args.mark)
