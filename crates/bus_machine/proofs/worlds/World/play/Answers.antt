use Rattle.std.proofs.Common.{take, map, sym, subst, arith}
use Rattle.std.proofs.lemmas.List.{take-map}
use Rattle.bus_tenure.specs.Elections.{elections, election_with}
use Rattle.bus_machine.proofs.Bases.Served.{served}
use Rattle.bus_world.proofs.Growing.{told_more, told_at, all_told}
use Rattle.bus_world.specs.Playing.{event_told}
use Rattle.bus_machine.proofs.Calls.Held.{played}
use Rattle.bus_machine.proofs.Calls.PlayLaws.{answered_more}
use Rattle.bus_machine.specs.Playing.{AllAnswered, Refused}
use Rattle.bus_machine.proofs.worlds.World.play.Goals as goal

pub loop-place-preserved : goal.loop-place-preserved
loop-place-preserved g c =
    let P = g.Q.Ratifier.protocol in
    let X = election_with g.Q.Machine.kind_of g.Q.Machine.op g.Q.Machine.fed P in
    subst (λ es. AllAnswered X P c.args.self.now es c.step.new.self)
    (told_more c.args.events.now c.loop-place.place c.index-events-place.result
    c.loop-place-test.true c.index-events-place.is)
    (answered_more X P (map event_told (take c.loop-place.place c.args.events.now)) c.args.self.now
    c.loop-place.self c.step.new.self (event_told c.index-events-place.result) c.in_default.field-0
    c.loop-place.invariant c.in_default.ensures.answered)

pub returns-clause-played : goal.returns-clause-played
returns-clause-played g c =
    let P = g.Q.Ratifier.protocol in
    let X = election_with g.Q.Machine.kind_of g.Q.Machine.op g.Q.Machine.fed P in
    let shape = c.self.inside.shape in
    let R = elections P shape.rounds in
    let s = served g.Q.Machine.kind_of g.Q.Machine.op g.Q.Machine.fed P
    g.met.Q.Machine.names_each_step g.met.Q.Ratifier.own_kinds shape
    (c.election_is_lawful.ensures.lawful.laws shape.rounds) c.self.inside.reuse
    c.self.inside.passers in
    let all = all_told c.args.events.now c.loop-place.place (omega arith) in
    played X P R _ s c.self.invariant c.args.self.now c.self.view_is
    (map event_told c.args.events.now) c.loop-place.self
    (subst (λ es. AllAnswered X P c.args.self.now es c.loop-place.self) all c.loop-place.invariant)

pub returns-in-Err-clause-stopped : goal.returns-in-Err-clause-stopped
returns-in-Err-clause-stopped g c =
    let P = g.Q.Ratifier.protocol in
    let X = election_with g.Q.Machine.kind_of g.Q.Machine.op g.Q.Machine.fed P in
    let shape = c.self.inside.shape in
    let R = elections P shape.rounds in
    let s = served g.Q.Machine.kind_of g.Q.Machine.op g.Q.Machine.fed P
    g.met.Q.Machine.names_each_step g.met.Q.Ratifier.own_kinds shape
    (c.election_is_lawful.ensures.lawful.laws shape.rounds) c.self.inside.reuse
    c.self.inside.passers in
    let same = c.in-Err.ensures.refused.nothing in
    let answered = subst
    (AllAnswered X P c.args.self.now (map event_told (take c.loop-place.place c.args.events.now)))
    (sym same) c.loop-place.invariant in
    record {
      played = played X P R _ s c.self.invariant c.args.self.now c.self.view_is
          (take c.loop-place.place (map event_told c.args.events.now)) c.step.new.self
          (subst (λ es. AllAnswered X P c.args.self.now es c.step.new.self)
          (sym (take-map event_told c.loop-place.place c.args.events.now)) answered);
      event = event_told c.index-events-place.result;
      at = told_at c.args.events.now c.loop-place.place c.index-events-place.result
          c.loop-place-test.true c.index-events-place.is;
      refused = subst (λ y. Refused y (event_told c.index-events-place.result) c.in-Err.why)
          (sym same) c.in-Err.ensures.refused.refused;
    }
