use Rattle.std.proofs.Common.{◌≡◌, ℕ, ◌+◌, Bool, Option, Some, None, refl, arith}
use Rattle.bus_adoptcommit.specs.declared.verdicts.Verdict.{Verdict}
use Rattle.bus_machine.specs.Playing.{layout_passed}
use Rattle.bus_ownerbits.specs.Sizes.{election_bound}
use Rattle.bus_register.specs.Protocol.{Protocol}
use Rattle.bus_tenure.specs.Elections.{elections, election_with}
use Rattle.bus_world.specs.declared.shapes.Shape.{Shape}
use Rattle.bus_machine.proofs.Bases.Served.{served}
use Rattle.bus_machine.proofs.Calls.Held.{happened, promised, losses_seen, steps_bounded}
use Rattle.bus_machine.proofs.worlds.World.promises.Goals as goal

-- the bound of steps, by the sizes of the shape
bound_is : {S : Type 0} (P : Protocol S Bool Verdict) (shape : Shape) (reuse : Option ℕ)
    (passers : ℕ)
    → (elections P shape.rounds).steps (layout_passed P shape reuse passers).senders + 1
    ≡ election_bound P.steps (layout_passed P shape reuse passers).senders
    (layout_passed P shape reuse passers).rounds
bound_is P shape None passers = omega arith
bound_is P shape (Some rows) passers = omega arith

pub returns-clause-happened : goal.returns-clause-happened
returns-clause-happened g c =
    let P = g.Q.Ratifier.protocol in
    let X = election_with g.Q.Machine.kind_of g.Q.Machine.op g.Q.Machine.fed P in
    let shape = c.self.inside.shape in
    let R = elections P shape.rounds in
    let s = served g.Q.Machine.kind_of g.Q.Machine.op g.Q.Machine.fed P
    g.met.Q.Machine.names_each_step g.met.Q.Ratifier.own_kinds shape
    (c.election_is_lawful.ensures.lawful.laws shape.rounds) c.self.inside.reuse
    c.self.inside.passers in
    happened X P R _ s c.self.invariant c.args.self.now c.self.view_is

pub returns-clause-promised : goal.returns-clause-promised
returns-clause-promised g c =
    let P = g.Q.Ratifier.protocol in
    let X = election_with g.Q.Machine.kind_of g.Q.Machine.op g.Q.Machine.fed P in
    let shape = c.self.inside.shape in
    let R = elections P shape.rounds in
    let s = served g.Q.Machine.kind_of g.Q.Machine.op g.Q.Machine.fed P
    g.met.Q.Machine.names_each_step g.met.Q.Ratifier.own_kinds shape
    (c.election_is_lawful.ensures.lawful.laws shape.rounds) c.self.inside.reuse
    c.self.inside.passers in
    promised X P R _ s c.self.invariant c.args.self.now c.self.view_is

pub returns-clause-losses : goal.returns-clause-losses
returns-clause-losses g c =
    let P = g.Q.Ratifier.protocol in
    let X = election_with g.Q.Machine.kind_of g.Q.Machine.op g.Q.Machine.fed P in
    let shape = c.self.inside.shape in
    let R = elections P shape.rounds in
    let s = served g.Q.Machine.kind_of g.Q.Machine.op g.Q.Machine.fed P
    g.met.Q.Machine.names_each_step g.met.Q.Ratifier.own_kinds shape
    (c.election_is_lawful.ensures.lawful.laws shape.rounds) c.self.inside.reuse
    c.self.inside.passers in
    losses_seen X P R _ s c.self.invariant c.args.self.now c.self.view_is

pub returns-clause-bounded : goal.returns-clause-bounded
returns-clause-bounded g c =
    let P = g.Q.Ratifier.protocol in
    let X = election_with g.Q.Machine.kind_of g.Q.Machine.op g.Q.Machine.fed P in
    let shape = c.self.inside.shape in
    let R = elections P shape.rounds in
    let s = served g.Q.Machine.kind_of g.Q.Machine.op g.Q.Machine.fed P
    g.met.Q.Machine.names_each_step g.met.Q.Ratifier.own_kinds shape
    (c.election_is_lawful.ensures.lawful.laws shape.rounds) c.self.inside.reuse
    c.self.inside.passers in
    let l = layout_passed P shape c.self.inside.reuse c.self.inside.passers in
    steps_bounded X P R _ s c.self.invariant c.args.self.now c.self.view_is
    (λ x. election_bound P.steps x.senders x.rounds)
    (bound_is P shape c.self.inside.reuse c.self.inside.passers) (λ e. refl)
    (λ p at e belongs.
    c.election_is_lawful.ensures.lawful.turns_last shape.rounds l.senders p at e belongs)
