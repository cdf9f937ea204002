use Rattle.std.proofs.Common.{◌≡◌, ◌-◌, ◌+◌, drop, take, arith, sym, subst, ap, ◌∙◌, Some}
use Rattle.std.proofs.lemmas.Bool.{false≢true}
use Rattle.std.specs.Prelude.{All}
use Rattle.std.specs.Int.{w64, to_be_bytes}
use Rattle.bus_batch.specs.declared.messages.Piece.TheVariants as piece
use Rattle.bus_batch.specs.Reading.{Reading}
use Rattle.bus_batch.specs.Spans.{LeadsOn, midway}
use Rattle.bus_batch.proofs.Spans.{leads_last, stops_at, missing, long_enough, padding_is}
use Rattle.bus_batch.proofs.Spans.{after_sound}
use Rattle.bus_batch.proofs.readers.FrameReader.take_span.Goals as goal

pub returns-then-not-is_padded-clause-bad : goal.returns-then-not-is_padded-clause-bad
returns-then-not-is_padded-clause-bad c _ taken has =
    stops_at c.args.self.now c.args.span c.requires.span taken c.args.last has.all
    c.ranges.last.fits
    (λ zero. false≢true (sym c.if-not-is_padded.true
    ∙ c.is_padded.ensures.1
    (subst (λ n. All (λ b. b ≡ 0) (drop n (to_be_bytes w64 c.args.last)))
    (missing c.args.self.now c.args.span c.requires.span taken c.args.last has.all) zero)))

pub truncate-requires-clause-within : goal.truncate-requires-clause-within
truncate-requires-clause-within c =
    let some = c.requires.bytes in
    long_enough c.args.self.now c.args.span c.requires.span some.0 c.args.last some.1.all
    c.args.item.now some.1.are

pub truncate-requires-clause-padding : goal.truncate-requires-clause-padding
truncate-requires-clause-padding c =
    let some = c.requires.bytes in
    subst (λ z. All (λ b. b ≡ 0) z)
    (sym (padding_is c.args.self.now c.args.span c.requires.span some.0 c.args.last some.1.all
    c.args.item.now some.1.are
    ∙ ap (λ n. drop n (to_be_bytes w64 c.args.last))
    (missing c.args.self.now c.args.span c.requires.span some.0 c.args.last some.1.all)))
    (c.is_padded.ensures.0 c.if-not-is_padded.false)

pub returns-clause-good : goal.returns-clause-good
returns-clause-good c _ taken has =
    let span = c.requires.span in
    let fillable = span.fillable in
    let room = span.room in
    subst (λ r. LeadsOn (midway c.args.self.now c.args.span taken) c.args.last
    (Some
    (piece.Item (record {
      sender = c.args.span.owner;
      number = c.args.span.number;
      message = c.truncate.new.self;
    })))
    (record r { place = c.place_after-self-inside.result; bytes = c.self.inside.bytes }))
    (sym c.self.view_is)
    (subst (λ m. LeadsOn (midway c.args.self.now c.args.span taken) c.args.last
    (Some
    (piece.Item (record { sender = c.args.span.owner; number = c.args.span.number; message = m })))
    (record c.args.self.now {
      place = c.place_after-self-inside.result;
      bytes = c.self.inside.bytes;
    }))
    (sym (c.truncate.ensures ∙ ap (take c.args.span.len) has.are))
    (leads_last c.args.self.now c.args.span span taken c.args.last has.all c.ranges.last.fits
    c.place_after-self-inside.result c.self.inside.bytes
    (subst (λ n. All (λ b. b ≡ 0) (drop n (to_be_bytes w64 c.args.last)))
    (sym (missing c.args.self.now c.args.span span taken c.args.last has.all))
    (c.is_padded.ensures.0 c.if-not-is_padded.false))
    c.place_after-self-inside.ensures
    (after_sound c.args.self.now.most c.args.span.owner (c.args.span.left - (1 + c.args.span.words))
    (c.args.span.room - 1) c.place_after-self-inside.result c.self.inside.bytes
    c.place_after-self-inside.ensures
    (ap (λ (r : Reading). r.bytes) c.self.view_is ∙ span.bytes) fillable (omega arith))))
