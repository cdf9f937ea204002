use Rattle.std.proofs.Common.{◌≡◌, ◌<◌, length, take, slice_get, Some, subst, sym, ap, ◌∙◌}
use Rattle.std.proofs.Common.{◌-◌}
use Rattle.std.proofs.Common.{arith}
use Rattle.std.proofs.lemmas.List.{length-take}
use Rattle.std.proofs.lemmas.Option.{same_Some}
use Rattle.bus_batch.specs.Frames.{AreFrames, log_pieces, order_in}
use Rattle.bus_tenure.specs.Elections.{elections, election_with}
use Rattle.bus_machine.proofs.Bases.Served.{served}
use Rattle.bus_world.proofs.PlayingLaws.{there}
use Rattle.bus_world.proofs.ViewingLaws.{front_given}
use Rattle.bus_machine.proofs.Calls.Held.{heard, stands}
use Rattle.bus_machine.proofs.Frames.Framed.{floor_first}
use Rattle.bus_machine.proofs.Calls.Holding.{until_within}
use Rattle.bus_machine.proofs.Bases.NewSenders.{senders_are}
use Rattle.bus_machine.proofs.worlds.World.given.Goals as goal

pub slice_bounds-read_front-end : goal.slice_bounds-read_front-end
slice_bounds-read_front-end g c =
    let P = g.Q.Ratifier.protocol in
    let X = election_with g.Q.Machine.kind_of g.Q.Machine.op g.Q.Machine.fed P in
    let shape = c.self.inside.shape in
    let R = elections P shape.rounds in
    let s = served g.Q.Machine.kind_of g.Q.Machine.op g.Q.Machine.fed P
    g.met.Q.Machine.names_each_step g.met.Q.Ratifier.own_kinds shape
    (c.election_is_lawful.ensures.lawful.laws shape.rounds) c.self.inside.reuse
    c.self.inside.passers in
    let many : c.args.receiver < length c.self.inside.receivers.items =
    subst (λ y. c.args.receiver < length y.receivers) (sym c.self.view_is) c.requires in
    let own =
    there c.self.inside.receivers.items c.args.receiver c.index-reader.result.now many
    c.index-reader.ensures in
    let place_is : c.place-place.result ≡ c.index-reader.result.now.place =
    c.place-place.ensures.place in
    let log_is = c.deref.ensures.value ∙ c.in_ok-log.ensures in
    let fits = until_within X R _ s c.self.invariant c.args.receiver c.index-reader.result.now own
    c.args.self.now c.self.view_is c.place-place.result c.floor.result c.behind-until.result
    c.deref.result.now place_is c.floor.ensures c.behind-until.ensures log_is in
    let size = length-take c.behind-until.result c.deref.result.now in
    omega arith

pub returns-in-Ok-clause-answered : goal.returns-in-Ok-clause-answered
returns-in-Ok-clause-answered g c flat trails leads =
    let P = g.Q.Ratifier.protocol in
    let X = election_with g.Q.Machine.kind_of g.Q.Machine.op g.Q.Machine.fed P in
    let shape = c.self.inside.shape in
    let R = elections P shape.rounds in
    let s = served g.Q.Machine.kind_of g.Q.Machine.op g.Q.Machine.fed P
    g.met.Q.Machine.names_each_step g.met.Q.Ratifier.own_kinds shape
    (c.election_is_lawful.ensures.lawful.laws shape.rounds) c.self.inside.reuse
    c.self.inside.passers in
    let many : c.args.receiver < length c.self.inside.receivers.items =
    subst (λ y. c.args.receiver < length y.receivers) (sym c.self.view_is) c.requires in
    let own =
    there c.self.inside.receivers.items c.args.receiver c.index-reader.result.now many
    c.index-reader.ensures in
    let place_is : c.place-place.result ≡ c.index-reader.result.now.place =
    c.place-place.ensures.place in
    let log_is = c.deref.ensures.value ∙ c.in_ok-log.ensures in
    let fits = until_within X R _ s c.self.invariant c.args.receiver c.index-reader.result.now own
    c.args.self.now c.self.view_is c.place-place.result c.floor.result c.behind-until.result
    c.deref.result.now place_is c.floor.ensures c.behind-until.ensures log_is in
    let first = floor_first c.args.self.now flat in
    let behind = c.behind-until.ensures in
    let floor_is = c.floor.ensures in
    let until_is : c.behind-until.result ≡ c.index-reader.result.now.place = omega arith in
    heard X P R _ s c.self.invariant c.args.self.now c.self.view_is c.args.receiver c.requires _
    (λ frames v lawful words_are here.
    let same = same_Some _ _
    (sym (subst (λ y. slice_get y.receivers c.args.receiver ≡ Some c.index-reader.result.now)
    c.self.view_is own) ∙ here) in (
      ap (λ o. o.entries)
          (front_given shape.senders c.behind-until.result frames c.deref.result.now _ _
          (subst (λ n. AreFrames n frames)
          (senders_are P shape c.self.inside.reuse c.self.inside.passers)
          (subst (λ y. AreFrames y.layout.senders frames) (sym c.self.view_is) lawful))
          (log_is ∙ words_are) fits c.in-Ok.ensures.read
          ∙ ap (λ k. order_in (take k (log_pieces frames))) (until_is ∙ ap (λ w. w.place) same)),
      c.has_ended-ended.ensures ∙ ap (λ w. w.ended) same,
    )) flat
    trails leads

pub returns-in-Ok-clause-stands : goal.returns-in-Ok-clause-stands
returns-in-Ok-clause-stands g c trails leads =
    let P = g.Q.Ratifier.protocol in
    let X = election_with g.Q.Machine.kind_of g.Q.Machine.op g.Q.Machine.fed P in
    let shape = c.self.inside.shape in
    let R = elections P shape.rounds in
    let s = served g.Q.Machine.kind_of g.Q.Machine.op g.Q.Machine.fed P
    g.met.Q.Machine.names_each_step g.met.Q.Ratifier.own_kinds shape
    (c.election_is_lawful.ensures.lawful.laws shape.rounds) c.self.inside.reuse
    c.self.inside.passers in
    let many : c.args.receiver < length c.self.inside.receivers.items =
    subst (λ y. c.args.receiver < length y.receivers) (sym c.self.view_is) c.requires in
    let own =
    there c.self.inside.receivers.items c.args.receiver c.index-reader.result.now many
    c.index-reader.ensures in
    let place_is : c.place-place.result ≡ c.index-reader.result.now.place =
    c.place-place.ensures.place in
    let log_is = c.deref.ensures.value ∙ c.in_ok-log.ensures in
    let fits = until_within X R _ s c.self.invariant c.args.receiver c.index-reader.result.now own
    c.args.self.now c.self.view_is c.place-place.result c.floor.result c.behind-until.result
    c.deref.result.now place_is c.floor.ensures c.behind-until.ensures log_is in
    stands X P R _ s c.self.invariant c.args.self.now c.self.view_is c.args.receiver c.requires _
    (λ v rest here lawful words_are.
    let same = same_Some _ _
    (sym (subst (λ y. slice_get y.receivers c.args.receiver ≡ Some c.index-reader.result.now)
    c.self.view_is own) ∙ here) in (
      ap (λ o. o.entries)
          (front_given shape.senders c.behind-until.result rest c.deref.result.now _ _
          (subst (λ n. AreFrames n rest)
          (senders_are P shape c.self.inside.reuse c.self.inside.passers)
          (subst (λ y. AreFrames y.layout.senders rest) (sym c.self.view_is) lawful))
          (log_is ∙ words_are) fits c.in-Ok.ensures.read
          ∙ ap (λ k. order_in (take k (log_pieces rest)))
          (c.behind-until.ensures
          ∙ ap (λ k. k - c.floor.result) (place_is ∙ ap (λ w. w.place) same)
          ∙ ap (λ k. v.place - k) c.floor.ensures)),
      c.has_ended-ended.ensures ∙ ap (λ w. w.ended) same,
    )) trails leads
