use Rattle.bus_batch.specs.declared.readers.Place.TheVariants as place
use Rattle.std.proofs.Common.{arith}
use Rattle.bus_batch.proofs.Bodies.{refuses_other}
use Rattle.bus_batch.proofs.Taking.{refused_at, sound_at}
use Rattle.bus_batch.proofs.readers.FrameReader.take_message.Goals as goal

pub returns-in-None-clause-steps : goal.returns-in-None-clause-steps
returns-in-None-clause-steps c =
    let sound = sound_at c.self.inside.most c.self.inside.senders c.self.inside.least
    c.self.inside.left
    (place.Body c.args.owner c.args.left c.args.room) c.self.inside.place c.self.inside.bytes
    c.args.self.now c.self.view_is c.requires c.self.invariant.0 in
    refused_at c.self.inside.most c.self.inside.senders c.self.inside.least c.self.inside.left
    (place.Body c.args.owner c.args.left c.args.room) c.self.inside.place c.self.inside.bytes
    c.args.word c.args.self.now c.self.view_is c.requires
    (refuses_other c.self.inside.most c.self.inside.senders c.self.inside.least c.args.word
    c.self.inside.left
    c.args.owner c.args.left c.args.room c.self.inside.bytes c.self.inside.bytes sound.1
    (λ e. let below = c.if-word-ge-END.false in absurd (omega arith))
    (λ e. let below = c.if-word-ge-END.false in absurd (omega arith)) c.in-None.ensures.none)
