use Rattle.bus_batch.specs.declared.readers.Place.TheVariants as place
use Rattle.bus_batch.specs.declared.messages.Piece.TheVariants as piece
use Rattle.std.proofs.Common.{◌≡◌, arith, sym, subst, inl, inr, Ok, Some}
use Rattle.bus_batch.specs.Steps.{Steps}
use Rattle.bus_batch.proofs.Bodies.{takes_empty, refuses_long, refuses_short}
use Rattle.bus_batch.proofs.Taking.{reading, good, refused, refused_at, at_place, sound_at}
use Rattle.bus_batch.proofs.readers.FrameReader.take_length.Goals as goal

pub returns-else-begin_message-clause-steps : goal.returns-else-begin_message-clause-steps
returns-else-begin_message-clause-steps c = refused c.args.self.now c.begin_message.new.self
    c.args.word (c.begin_message.ensures.bad c.if-begin_message.false)

pub returns-then-not-can_hold-clause-steps : goal.returns-then-not-can_hold-clause-steps
returns-then-not-can_hold-clause-steps c =
    let sound = sound_at c.self.inside.most c.self.inside.senders c.self.inside.least
    c.self.inside.left
    (place.Body c.args.owner c.args.left c.args.room) c.self.inside.place c.self.inside.bytes
    c.args.self.now c.self.view_is c.requires.place c.self.invariant.0 in
    refused_at c.self.inside.most c.self.inside.senders c.self.inside.least c.self.inside.left
    (place.Body c.args.owner c.args.left c.args.room) c.self.inside.place c.self.inside.bytes
    c.args.word c.args.self.now c.self.view_is c.requires.place
    (elim (c.can_hold.ensures.none c.if-not-can_hold.true) [
      | inl long ↦ refuses_long c.self.inside.most c.self.inside.senders c.self.inside.least
          c.args.word
          c.self.inside.left c.args.owner c.args.left c.args.room c.self.inside.bytes c.args.length
          c.requires.word sound.1 (omega arith)
      | inr short ↦ refuses_short c.self.inside.most c.self.inside.senders c.self.inside.least
          c.args.word
          c.self.inside.left c.args.owner c.args.left c.args.room c.self.inside.bytes c.args.length
          c.requires.word sound.1 (omega arith)
    ])

pub returns-clause-steps : goal.returns-clause-steps
returns-clause-steps c =
    let sound = sound_at c.self.inside.most c.self.inside.senders c.self.inside.least
    c.self.inside.left
    (place.Body c.args.owner c.args.left c.args.room) c.self.inside.place c.self.inside.bytes
    c.args.self.now c.self.view_is c.requires.place c.self.invariant.0 in
    let enough = c.can_hold.ensures.enough c.if-not-can_hold.false in
    let fillable = c.can_hold.ensures.fillable c.if-not-can_hold.false in
    let empty : c.args.length.len ≡ 0 = omega arith in
    at_place c.self.inside.most c.self.inside.senders c.self.inside.least c.self.inside.left
    (place.Body c.args.owner c.args.left c.args.room) c.self.inside.place c.self.inside.bytes
    c.args.word _ c.args.self.now _ c.self.view_is c.requires.place
    (subst (λ m. Steps (reading c.self.inside.most c.self.inside.senders c.self.inside.least
    c.self.inside.left
    (place.Body c.args.owner c.args.left c.args.room) c.self.inside.bytes) c.args.word
    (Ok
    (Some
    (piece.Item (record { sender = c.args.owner; number = c.args.length.number; message = m }))))
    (reading c.self.inside.most c.self.inside.senders c.self.inside.least c.self.inside.left
    c.place_after-self-inside.result c.self.inside.bytes))
    (sym c.new.ensures)
    (good _ _ c.args.word _ (takes_empty c.self.inside.most c.self.inside.senders
    c.self.inside.least c.args.word
    c.self.inside.left c.args.owner c.args.left c.args.room c.self.inside.bytes c.args.length
    c.requires.word sound.1
    (omega arith) (omega arith) sound.3 (omega arith) c.place_after-self-inside.result
    c.self.inside.bytes empty c.place_after-self-inside.ensures)))
