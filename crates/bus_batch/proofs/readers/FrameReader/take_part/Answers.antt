use Rattle.bus_batch.specs.declared.readers.Place.TheVariants as place
use Rattle.std.proofs.Common.{◌+◌, ◌-◌, ◌<◌, length, sym, subst, Ok, None}
use Rattle.bus_batch.specs.Reading.{Reading}
use Rattle.bus_batch.specs.Steps.{Steps}
use Rattle.bus_batch.proofs.Taking.{reading, at_place, sound_at, takes_eight}
use Rattle.bus_batch.proofs.readers.FrameReader.take_part.Goals as goal

pub returns-clause-steps : goal.returns-clause-steps
returns-clause-steps c =
    let sound = sound_at c.self.inside.most c.self.inside.senders c.self.inside.least
    c.self.inside.left
    (place.Data c.args.owner c.args.left c.args.room c.args.told.number c.args.told.len)
    c.self.inside.place c.self.inside.bytes c.args.self.now c.self.view_is c.requires.place
    c.self.invariant.0 in
    at_place c.self.inside.most c.self.inside.senders c.self.inside.least c.self.inside.left
    (place.Data c.args.owner c.args.left c.args.room c.args.told.number c.args.told.len)
    c.self.inside.place c.self.inside.bytes c.args.word _ c.args.self.now _ c.self.view_is
    c.requires.place
    (subst (λ bytes. Steps (reading c.self.inside.most c.self.inside.senders c.self.inside.least
    c.self.inside.left
    (place.Data c.args.owner c.args.left c.args.room c.args.told.number c.args.told.len)
    c.self.inside.bytes) c.args.word (Ok None) (reading c.self.inside.most c.self.inside.senders
    c.self.inside.least
    c.self.inside.left
    (place.Data c.args.owner (c.args.left - 1) c.args.room c.args.told.number c.args.told.len)
    bytes))
    (sym c.append_word.ensures)
    (takes_eight c.self.inside.most c.self.inside.senders c.self.inside.least c.args.word
    c.self.inside.left
    c.args.owner c.args.left c.args.room c.args.told.number c.args.told.len c.self.inside.bytes
    c.ranges.word.fits sound.2 sound.3 sound.4
    (subst (λ (r : Reading). length r.bytes + 8 < c.args.told.len) (sym c.self.view_is)
    c.requires.more)))
