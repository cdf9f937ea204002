use Rattle.bus_tenure.specs.Elections.{election_with}
use Rattle.bus_world.proofs.PlayingLaws.{one_there, passed_up}
use Rattle.bus_world.specs.World.{Stop}
use Rattle.bus_machine.proofs.Calls.Events.{senders_many, stop_happens, stop_sits, stop_refused}
use Rattle.bus_machine.specs.Playing.{Refuses}
use Rattle.bus_machine.proofs.worlds.World.stop_at.Goals as goal

pub invariant_of-self : goal.invariant_of-self
invariant_of-self g c =
    let X =
    election_with g.Q.Machine.kind_of g.Q.Machine.op g.Q.Machine.fed g.Q.Ratifier.protocol in
    let many = senders_many X _ c.self.invariant c.args.self.now c.self.view_is c.args.sender
    c.in_ok-goes_on.ensures.there in
    let there = one_there c.self.inside.senders.items c.args.sender many in
    stop_sits X _ c.self.invariant c.args.self.now c.self.view_is c.args.sender there.0 there.1
    c.in_ok-goes_on.ensures.goes

pub returns-clause-happens : goal.returns-clause-happens
returns-clause-happens g c =
    let X =
    election_with g.Q.Machine.kind_of g.Q.Machine.op g.Q.Machine.fed g.Q.Ratifier.protocol in
    let many = senders_many X _ c.self.invariant c.args.self.now c.self.view_is c.args.sender
    c.in_ok-goes_on.ensures.there in
    let there = one_there c.self.inside.senders.items c.args.sender many in
    stop_happens X _ c.self.invariant c.args.self.now c.self.view_is c.args.sender there.0 there.1
    c.in_ok-goes_on.ensures.goes

pub returns-in_err-goes_on-clause-refused : goal.returns-in_err-goes_on-clause-refused
returns-in_err-goes_on-clause-refused g c =
    passed_up _ _ (λ why. Refuses c.args.self.now (Stop c.args.sender) why c.args.self.now)
    c.from_residual.ensures
    (stop_refused c.args.self.now c.args.sender _ c.in_err-goes_on.ensures.fault)
