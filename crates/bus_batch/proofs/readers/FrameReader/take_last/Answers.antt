use Rattle.bus_batch.specs.declared.readers.Place.TheVariants as place
use Rattle.bus_batch.specs.declared.messages.Piece.TheVariants as piece
use Rattle.std.proofs.Common.{◌≡◌, ◌≤◌, ◌+◌, ◌-◌, ◌++◌, min, length, take, arith, refl, sym, ap}
use Rattle.std.proofs.Common.{◌∙◌, subst, Ok, Some}
use Rattle.std.proofs.lemmas.Bool.{false≢true}
use Rattle.std.specs.Int.{w64, to_be_bytes}
use Rattle.bus_batch.specs.Reading.{Reading}
use Rattle.bus_batch.specs.Steps.{Steps}
use Rattle.bus_batch.proofs.Bytes.{takes_last, refuses_padding}
use Rattle.bus_batch.proofs.Taking.{reading, good, refuses_at, at_place, sound_at}
use Rattle.bus_batch.proofs.readers.FrameReader.take_last.Goals as goal

pub returns-then-not-is_padded-clause-bad : goal.returns-then-not-is_padded-clause-bad
returns-then-not-is_padded-clause-bad c _ =
    let sound = sound_at c.self.inside.most c.self.inside.senders c.self.inside.least
    c.self.inside.left
    (place.Data c.args.owner c.args.left c.args.room c.args.told.number c.args.told.len)
    c.self.inside.place c.self.inside.bytes c.args.self.now c.self.view_is c.requires.place
    c.self.invariant.0 in
    let bytes_are = ap (λ (r : Reading). r.bytes) c.self.view_is in
    let k_is : c.args.told.len - c.len.result
    ≡ min (c.args.told.len - length c.self.inside.bytes) 8 =
    let last = subst (λ z. c.args.told.len ≤ length z + 8) (sym bytes_are) c.requires.last in
    let e = c.len.ensures.len in omega arith in (
      refuses_at c.self.inside.most c.self.inside.senders c.self.inside.least c.self.inside.left
          (place.Data c.args.owner c.args.left c.args.room c.args.told.number c.args.told.len)
          c.self.inside.place c.self.inside.bytes c.args.word c.args.self.now c.self.view_is
          c.requires.place
          (refuses_padding c.self.inside.most c.self.inside.senders c.self.inside.least c.args.word
          c.self.inside.left
          c.args.owner c.args.left c.args.room c.args.told.number c.args.told.len
          (c.args.told.len - c.len.result) c.self.inside.bytes c.ranges.word.fits sound.0 sound.2
          sound.3 sound.4 k_is
          (λ zero. false≢true (sym c.if-not-is_padded.true
          ∙ c.is_padded.ensures.1 zero))),
      refl,
      refl,
    )

pub returns-clause-good : goal.returns-clause-good
returns-clause-good c _ =
    let sound = sound_at c.self.inside.most c.self.inside.senders c.self.inside.least
    c.self.inside.left
    (place.Data c.args.owner c.args.left c.args.room c.args.told.number c.args.told.len)
    c.self.inside.place c.self.inside.bytes c.args.self.now c.self.view_is c.requires.place
    c.self.invariant.0 in
    let bytes_are = ap (λ (r : Reading). r.bytes) c.self.view_is in
    let k_is : c.args.told.len - c.len.result
    ≡ min (c.args.told.len - length c.self.inside.bytes) 8 =
    let last = subst (λ z. c.args.told.len ≤ length z + 8) (sym bytes_are) c.requires.last in
    let e = c.len.ensures.len in omega arith in
    at_place c.self.inside.most c.self.inside.senders c.self.inside.least c.self.inside.left
    (place.Data c.args.owner c.args.left c.args.room c.args.told.number c.args.told.len)
    c.self.inside.place c.self.inside.bytes c.args.word _ c.args.self.now _ c.self.view_is
    c.requires.place
    (subst (λ m. Steps (reading c.self.inside.most c.self.inside.senders c.self.inside.least
    c.self.inside.left
    (place.Data c.args.owner c.args.left c.args.room c.args.told.number c.args.told.len)
    c.self.inside.bytes) c.args.word
    (Ok
    (Some
    (piece.Item (record { sender = c.args.owner; number = c.args.told.number; message = m }))))
    (reading c.self.inside.most c.self.inside.senders c.self.inside.least c.self.inside.left
    c.place_after-self-inside.result c.finish.new.begun))
    (sym (c.finish.ensures.same
    ∙ ap (λ n. c.self.inside.bytes ++ take n (to_be_bytes w64 c.args.word))
    (let e = c.len.ensures.len in omega arith)))
    (good _ _ c.args.word _ (takes_last c.self.inside.most c.self.inside.senders
    c.self.inside.least c.args.word
    c.self.inside.left c.args.owner c.args.left c.args.room c.args.told.number c.args.told.len
    (c.args.told.len - c.len.result) c.self.inside.bytes c.ranges.word.fits sound.0 sound.2 sound.3
    sound.4 k_is
    (c.is_padded.ensures.0 c.if-not-is_padded.false)
    c.place_after-self-inside.result c.finish.new.begun
    (let e = c.len.ensures.len in let few = sound.0 in omega arith)
    c.place_after-self-inside.ensures)))

pub finish-requires-clause-begun : goal.finish-requires-clause-begun
finish-requires-clause-begun c =
    let sound = sound_at c.self.inside.most c.self.inside.senders c.self.inside.least
    c.self.inside.left
    (place.Data c.args.owner c.args.left c.args.room c.args.told.number c.args.told.len)
    c.self.inside.place c.self.inside.bytes c.args.self.now c.self.view_is c.requires.place
    c.self.invariant.0 in
    let short = sound.0 in let most = sound.1 in let eights = sound.5 in omega arith
