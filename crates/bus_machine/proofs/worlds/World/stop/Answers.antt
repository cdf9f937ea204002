use Rattle.std.proofs.Common.{subst}
use Rattle.std.specs.Prelude.{OnOk}
use Rattle.bus_tenure.specs.Elections.{elections, election_with}
use Rattle.bus_machine.proofs.Bases.Served.{served}
use Rattle.bus_world.specs.World.{Stop}
use Rattle.bus_world.specs.declared.events.Answer.TheVariants as answer
use Rattle.bus_machine.proofs.Calls.Held.{answers}
use Rattle.bus_machine.specs.Playing.{Answers}
use Rattle.bus_machine.proofs.Calls.Events.{unit_more}
use Rattle.bus_machine.proofs.worlds.World.stop.Goals as goal

pub returns-clause-answered : goal.returns-clause-answered
returns-clause-answered g c =
    let P = g.Q.Ratifier.protocol in
    let X = election_with g.Q.Machine.kind_of g.Q.Machine.op g.Q.Machine.fed P in
    let shape = c.self.inside.shape in
    let R = elections P shape.rounds in
    let s = served g.Q.Machine.kind_of g.Q.Machine.op g.Q.Machine.fed P
    g.met.Q.Machine.names_each_step g.met.Q.Ratifier.own_kinds shape
    (c.election_is_lawful.ensures.lawful.laws shape.rounds) c.self.inside.reuse
    c.self.inside.passers in
    subst (λ n.
    OnOk c.stop_at.result (Answers X P c.args.self.now (Stop n) answer.Stopped c.stop_at.new.self))
    c.from.ensures
    (unit_more c.stop_at.result _ _ c.stop_at.ensures.happens
    (λ h. answers X P R _ s c.self.invariant c.args.self.now c.self.view_is (Stop c.from.result)
    answer.Stopped c.stop_at.new.self h tt tt))
