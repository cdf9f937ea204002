use Rattle.bus_tenure.specs.Elections.{elections, election_with}
use Rattle.bus_machine.proofs.Bases.Served.{served}
use Rattle.std.proofs.Common.{true, false, sym, subst}
use Rattle.bus_machine.proofs.Calls.Forking.{same_log, none_passes, join_within, does, does_now}
use Rattle.bus_machine.proofs.Calls.Forking.{forked_held, unforked}
use Rattle.bus_machine.specs.Playing.{IsHeld}
use Rattle.bus_machine.proofs.worlds.World.fork_at.Goals as goal

pub forked-made-requires-clause-log : goal.forked-made-requires-clause-log
forked-made-requires-clause-log g c =
    let P = g.Q.Ratifier.protocol in
    let X = election_with g.Q.Machine.kind_of g.Q.Machine.op g.Q.Machine.fed P in
    let shape = c.self.inside.shape in
    let s = served g.Q.Machine.kind_of g.Q.Machine.op g.Q.Machine.fed P
    g.met.Q.Machine.names_each_step g.met.Q.Ratifier.own_kinds shape
    (c.election_is_lawful.ensures.lawful.laws shape.rounds) c.self.inside.reuse
    c.self.inside.passers in
    same_log X (elections P shape.rounds) _ s c.self.invariant c.args.self.now c.self.view_is
    c.args.receiver c.args.number c.index.result.now c.index-last.result.now
    c.in_ok-may_fork.ensures.up c.in_ok-may_fork.ensures.there c.index.ensures c.index-last.ensures

pub forked-made-requires-clause-both : goal.forked-made-requires-clause-both
forked-made-requires-clause-both g c =
    let P = g.Q.Ratifier.protocol in
    let X = election_with g.Q.Machine.kind_of g.Q.Machine.op g.Q.Machine.fed P in
    let shape = c.self.inside.shape in
    let s = served g.Q.Machine.kind_of g.Q.Machine.op g.Q.Machine.fed P
    g.met.Q.Machine.names_each_step g.met.Q.Ratifier.own_kinds shape
    (c.election_is_lawful.ensures.lawful.laws shape.rounds) c.self.inside.reuse
    c.self.inside.passers in
    none_passes X (elections P shape.rounds) _ s c.self.invariant c.args.self.now c.self.view_is
    c.args.receiver c.args.number c.index.result.now c.index-last.result.now
    c.in_ok-may_fork.ensures.up c.in_ok-may_fork.ensures.there c.index.ensures c.index-last.ensures

pub join_in_place-requires : goal.join_in_place-requires
join_in_place-requires g c =
    let P = g.Q.Ratifier.protocol in
    let X = election_with g.Q.Machine.kind_of g.Q.Machine.op g.Q.Machine.fed P in
    let shape = c.self.inside.shape in
    let s = served g.Q.Machine.kind_of g.Q.Machine.op g.Q.Machine.fed P
    g.met.Q.Machine.names_each_step g.met.Q.Ratifier.own_kinds shape
    (c.election_is_lawful.ensures.lawful.laws shape.rounds) c.self.inside.reuse
    c.self.inside.passers in
    record {
      within = join_within X (elections P shape.rounds) _ s c.self.invariant c.args.self.now
          c.self.view_is
          c.args.receiver c.args.number c.index.result.now c.index-last.result.now
          c.in_ok-may_fork.ensures.up c.in_ok-may_fork.ensures.there c.index.ensures
          c.index-last.ensures
          c.forked-made.result c.forked-made.ensures;
    }

pub invariant_of-self : goal.invariant_of-self
invariant_of-self g c =
    let P = g.Q.Ratifier.protocol in
    let X = election_with g.Q.Machine.kind_of g.Q.Machine.op g.Q.Machine.fed P in
    let shape = c.self.inside.shape in
    let s = served g.Q.Machine.kind_of g.Q.Machine.op g.Q.Machine.fed P
    g.met.Q.Machine.names_each_step g.met.Q.Ratifier.own_kinds shape
    (c.election_is_lawful.ensures.lawful.laws shape.rounds) c.self.inside.reuse
    c.self.inside.passers in
    forked_held X _ _ c.args.receiver c.args.number c.self.invariant
    (does X (elections P shape.rounds) _ s c.self.invariant c.args.self.now c.self.view_is
    c.args.receiver c.args.number c.index.result.now c.index-last.result.now
    c.in_ok-may_fork.ensures.up c.in_ok-may_fork.ensures.there c.index.ensures c.index-last.ensures
    c.forked-made.result c.forked-made.ensures
    c.in_ok-may_fork.ensures.stays c.join_in_place.new.cells c.join_in_place.ensures.words
    c.join_in_place.result true c.join_in_place.ensures.found c.join_in_place.ensures.alone
    c.if-join_in_place.true)

pub invariant_of-self-else-join_in_place : goal.invariant_of-self-else-join_in_place
invariant_of-self-else-join_in_place g c =
    let P = g.Q.Ratifier.protocol in
    let X = election_with g.Q.Machine.kind_of g.Q.Machine.op g.Q.Machine.fed P in
    let shape = c.self.inside.shape in
    let s = served g.Q.Machine.kind_of g.Q.Machine.op g.Q.Machine.fed P
    g.met.Q.Machine.names_each_step g.met.Q.Ratifier.own_kinds shape
    (c.election_is_lawful.ensures.lawful.laws shape.rounds) c.self.inside.reuse
    c.self.inside.passers in
    subst (IsHeld X) (sym (unforked X _ _ c.args.receiver c.args.number
    (does X (elections P shape.rounds) _ s c.self.invariant c.args.self.now c.self.view_is
    c.args.receiver c.args.number c.index.result.now c.index-last.result.now
    c.in_ok-may_fork.ensures.up c.in_ok-may_fork.ensures.there c.index.ensures c.index-last.ensures
    c.forked-made.result c.forked-made.ensures
    c.in_ok-may_fork.ensures.stays c.join_in_place.new.cells c.join_in_place.ensures.words
    c.join_in_place.result false c.join_in_place.ensures.found c.join_in_place.ensures.alone
    c.if-join_in_place.false))) c.self.invariant

pub returns-then-join_in_place-clause-forked : goal.returns-then-join_in_place-clause-forked
returns-then-join_in_place-clause-forked g c =
    let P = g.Q.Ratifier.protocol in
    let X = election_with g.Q.Machine.kind_of g.Q.Machine.op g.Q.Machine.fed P in
    let shape = c.self.inside.shape in
    let s = served g.Q.Machine.kind_of g.Q.Machine.op g.Q.Machine.fed P
    g.met.Q.Machine.names_each_step g.met.Q.Ratifier.own_kinds shape
    (c.election_is_lawful.ensures.lawful.laws shape.rounds) c.self.inside.reuse
    c.self.inside.passers in
    does_now X (elections P shape.rounds) _ s c.self.invariant c.args.self.now c.self.view_is
    c.args.receiver c.args.number c.index.result.now c.index-last.result.now
    c.in_ok-may_fork.ensures.up c.in_ok-may_fork.ensures.there c.index.ensures c.index-last.ensures
    c.forked-made.result c.forked-made.ensures
    c.in_ok-may_fork.ensures.stays c.join_in_place.new.cells c.join_in_place.ensures.words
    c.join_in_place.result true c.join_in_place.ensures.found c.join_in_place.ensures.alone
    c.if-join_in_place.true

pub returns-else-join_in_place-clause-forked : goal.returns-else-join_in_place-clause-forked
returns-else-join_in_place-clause-forked g c =
    let P = g.Q.Ratifier.protocol in
    let X = election_with g.Q.Machine.kind_of g.Q.Machine.op g.Q.Machine.fed P in
    let shape = c.self.inside.shape in
    let s = served g.Q.Machine.kind_of g.Q.Machine.op g.Q.Machine.fed P
    g.met.Q.Machine.names_each_step g.met.Q.Ratifier.own_kinds shape
    (c.election_is_lawful.ensures.lawful.laws shape.rounds) c.self.inside.reuse
    c.self.inside.passers in
    does_now X (elections P shape.rounds) _ s c.self.invariant c.args.self.now c.self.view_is
    c.args.receiver c.args.number c.index.result.now c.index-last.result.now
    c.in_ok-may_fork.ensures.up c.in_ok-may_fork.ensures.there c.index.ensures c.index-last.ensures
    c.forked-made.result c.forked-made.ensures
    c.in_ok-may_fork.ensures.stays c.join_in_place.new.cells c.join_in_place.ensures.words
    c.join_in_place.result false c.join_in_place.ensures.found c.join_in_place.ensures.alone
    c.if-join_in_place.false
