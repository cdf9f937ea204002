use Rattle.bus_batch.specs.declared.readers.Place.TheVariants as place
use Rattle.std.proofs.Common.{inl, inr}
use Rattle.bus_batch.proofs.Bodies.{takes_end, refuses_end}
use Rattle.bus_batch.proofs.Taking.{good, refused_at, at_place, sound_at}
use Rattle.bus_batch.proofs.readers.FrameReader.take_end.Goals as goal

pub returns-then-room-most-clause-steps :
    goal.returns-then-room-most-clause-steps
returns-then-room-most-clause-steps c =
    let sound = sound_at c.self.inside.most c.self.inside.senders c.self.inside.least
    c.self.inside.left
    (place.Body c.args.owner c.args.left c.args.room) c.self.inside.place c.self.inside.bytes
    c.args.self.now c.self.view_is c.requires.place c.self.invariant.0 in
    at_place c.self.inside.most c.self.inside.senders c.self.inside.least c.self.inside.left
    (place.Body c.args.owner c.args.left c.args.room) c.self.inside.place c.self.inside.bytes
    c.args.word _ c.args.self.now _ c.self.view_is c.requires.place
    (good _ _ c.args.word _ (takes_end c.self.inside.most c.self.inside.senders c.self.inside.least
    c.args.word
    c.self.inside.left c.args.owner c.args.left c.args.room c.self.inside.bytes c.self.inside.bytes
    sound.1 c.requires.word c.if-left-eq1.true c.if-room-most.true))

pub returns-else-left-eq1-clause-steps : goal.returns-else-left-eq1-clause-steps
returns-else-left-eq1-clause-steps c =
    let sound = sound_at c.self.inside.most c.self.inside.senders c.self.inside.least
    c.self.inside.left
    (place.Body c.args.owner c.args.left c.args.room) c.self.inside.place c.self.inside.bytes
    c.args.self.now c.self.view_is c.requires.place c.self.invariant.0 in
    refused_at c.self.inside.most c.self.inside.senders c.self.inside.least c.self.inside.left
    (place.Body c.args.owner c.args.left c.args.room) c.self.inside.place c.self.inside.bytes
    c.args.word c.args.self.now c.self.view_is c.requires.place
    (refuses_end c.self.inside.most c.self.inside.senders c.self.inside.least c.args.word
    c.self.inside.left
    c.args.owner c.args.left c.args.room c.self.inside.bytes c.self.inside.bytes sound.1
    c.requires.word
    (λ alone fresh. elim c.else-left-eq1.either [ inl w ↦ w.1 fresh | inr w ↦ w alone ]))
