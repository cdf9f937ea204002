use Rattle.bus_batch.specs.declared.readers.Place.TheVariants as place
use Rattle.std.proofs.Common.{◌-◌, arith, refl, sym, subst, inl, inr, Ok, None}
use Rattle.bus_batch.specs.Steps.{Steps}
use Rattle.bus_batch.proofs.Bodies.{takes_begun, refuses_long, refuses_short}
use Rattle.bus_batch.proofs.Taking.{reading, good, at_place, refuses_at, sound_at}
use Rattle.bus_batch.proofs.readers.FrameReader.begin_message.Goals as goal

pub returns-then-not-can_hold-clause-bad : goal.returns-then-not-can_hold-clause-bad
returns-then-not-can_hold-clause-bad c _ =
    let sound = sound_at c.self.inside.most c.self.inside.senders c.self.inside.least
    c.self.inside.left
    (place.Body c.args.owner c.args.left c.args.room) c.self.inside.place c.self.inside.bytes
    c.args.self.now c.self.view_is c.requires.place c.self.invariant.0 in (
      refuses_at c.self.inside.most c.self.inside.senders c.self.inside.least c.self.inside.left
          (place.Body c.args.owner c.args.left c.args.room) c.self.inside.place c.self.inside.bytes
          c.args.word c.args.self.now c.self.view_is c.requires.place
          (elim (c.can_hold.ensures.none c.if-not-can_hold.true) [
            | inl long ↦ refuses_long c.self.inside.most c.self.inside.senders c.self.inside.least
                c.args.word
                c.self.inside.left c.args.owner c.args.left c.args.room c.self.inside.bytes
                c.args.length c.requires.word sound.1 long
            | inr short ↦ refuses_short c.self.inside.most c.self.inside.senders
                c.self.inside.least c.args.word
                c.self.inside.left c.args.owner c.args.left c.args.room c.self.inside.bytes
                c.args.length c.requires.word sound.1 short
          ]),
      refl,
    )

pub returns-clause-good : goal.returns-clause-good
returns-clause-good c _ =
    let sound = sound_at c.self.inside.most c.self.inside.senders c.self.inside.least
    c.self.inside.left
    (place.Body c.args.owner c.args.left c.args.room) c.self.inside.place c.self.inside.bytes
    c.args.self.now c.self.view_is c.requires.place c.self.invariant.0 in
    let enough = c.can_hold.ensures.enough c.if-not-can_hold.false in
    let fillable = c.can_hold.ensures.fillable c.if-not-can_hold.false in
    at_place c.self.inside.most c.self.inside.senders c.self.inside.least c.self.inside.left
    (place.Body c.args.owner c.args.left c.args.room) c.self.inside.place c.self.inside.bytes
    c.args.word _ c.args.self.now _ c.self.view_is c.requires.place
    (subst (λ bytes. Steps (reading c.self.inside.most c.self.inside.senders c.self.inside.least
    c.self.inside.left
    (place.Body c.args.owner c.args.left c.args.room) c.self.inside.bytes) c.args.word (Ok None)
    (reading c.self.inside.most c.self.inside.senders c.self.inside.least c.self.inside.left
    (place.Data c.args.owner (c.args.left - 1) (c.args.room - 1) c.args.length.number
    c.args.length.len) bytes))
    (sym sound.0)
    (good _ _ c.args.word _ (takes_begun c.self.inside.most c.self.inside.senders
    c.self.inside.least c.args.word
    c.self.inside.left c.args.owner c.args.left c.args.room c.self.inside.bytes c.args.length
    c.requires.word sound.1
    enough (omega arith) sound.3 fillable c.requires.some)))
