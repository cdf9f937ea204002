use Rattle.bus_batch.specs.declared.readers.Place.TheVariants as place
use Rattle.std.proofs.Common.{rules, ◌≡◌, ◌<◌, length, get_or, true, false, Some, ap, ◌∙◌}
use Rattle.std.specs.Prelude.{slice_get}
use Rattle.std.proofs.lemmas.Option.{slice_get-get_or}
use Rattle.bus_batch.proofs.Heads.{takes_head, refuses_head, refuses_leaver}
use Rattle.bus_batch.proofs.Taking.{good, refused_at, at_place}
use Rattle.bus_batch.proofs.readers.FrameReader.take_head.Goals as goal

pub returns-then-self-head-clause-steps : goal.returns-then-self-head-clause-steps
returns-then-self-head-clause-steps c =
    let below : c.in-Some.head.owner.0 < length c.self.inside.left = search rules in
    let read : get_or c.self.inside.left c.in-Some.head.owner.0 false ≡ true =
    c.if-self-head.true in
    let left : slice_get c.self.inside.left c.in-Some.head.owner.0 ≡ Some true =
    slice_get-get_or c.self.inside.left c.in-Some.head.owner.0 false below ∙ ap Some read in
    refused_at c.self.inside.most c.self.inside.senders c.self.inside.least c.self.inside.left
    place.Between
    c.self.inside.place c.self.inside.bytes c.args.word c.args.self.now c.self.view_is c.requires
    (refuses_leaver c.self.inside.most c.self.inside.senders c.self.inside.least c.args.word
    c.self.inside.left
    c.self.inside.bytes (c.self.invariant.1, c.self.invariant.2) c.in-Some.head
    c.in-Some.ensures.some left)

pub returns-else-self-head-clause-steps : goal.returns-else-self-head-clause-steps
returns-else-self-head-clause-steps c =
    let below : c.in-Some.head.owner.0 < length c.self.inside.left = search rules in
    let read : get_or c.self.inside.left c.in-Some.head.owner.0 false ≡ false =
    c.if-self-head.false in
    let stays : slice_get c.self.inside.left c.in-Some.head.owner.0 ≡ Some false =
    slice_get-get_or c.self.inside.left c.in-Some.head.owner.0 false below ∙ ap Some read in
    at_place c.self.inside.most c.self.inside.senders c.self.inside.least c.self.inside.left
    place.Between
    c.self.inside.place c.self.inside.bytes c.args.word _ c.args.self.now _ c.self.view_is
    c.requires
    (good _ _ c.args.word _ (takes_head c.self.inside.most c.self.inside.senders
    c.self.inside.least c.args.word
    c.self.inside.left c.self.inside.bytes c.self.inside.bytes (
      c.self.invariant.1,
      c.self.invariant.2,
    ) c.in-Some.head c.in-Some.ensures.some
    stays))

pub returns-in-None-clause-steps : goal.returns-in-None-clause-steps
returns-in-None-clause-steps c =
    refused_at c.self.inside.most c.self.inside.senders c.self.inside.least c.self.inside.left
    place.Between
    c.self.inside.place c.self.inside.bytes c.args.word c.args.self.now c.self.view_is c.requires
    (refuses_head c.self.inside.most c.self.inside.senders c.self.inside.least c.args.word
    c.self.inside.left
    c.self.inside.bytes c.self.invariant.1 c.in-None.ensures.none)
