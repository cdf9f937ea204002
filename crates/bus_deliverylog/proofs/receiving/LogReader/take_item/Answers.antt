use Rattle.std.proofs.Common.{Some, refl, sym, ap, ◌∙◌, subst}
use Rattle.bus_batch.specs.declared.messages.Piece.TheVariants as piece
use Rattle.bus_batch.specs.Reading.{Reading}
use Rattle.bus_deliverylog.specs.Receiving.{LogReading, HasSeen}
use Rattle.bus_deliverylog.proofs.ReceiveLaws.{good_word, seen_more}
use Rattle.bus_deliverylog.proofs.receiving.LogReader.take_item.Goals as goal

pub returns-then-take_item-clause-word : goal.returns-then-take_item-clause-word
returns-then-take_item-clause-word c _ words pieces had =
    let going = ap (λ (r : LogReading). r.ended) c.self.view_is ∙ c.requires.going in
    good_word c.args.self.now _ c.self.view_is c.take_item.new.self c.args.got
    (Some (piece.Item c.take_item.new.item))
    c.self.inside.ended (λ w p h. c.take_item.ensures.read _ w p h c.if-take_item.true)
    c.take_item.ensures.senders going
    _ words pieces had (λ w p h. c.take_item.ensures.gives _ w p h c.if-take_item.true) refl

pub invariant_of-self : goal.invariant_of-self
invariant_of-self c =
    let going = ap (λ (r : LogReading). r.ended) c.self.view_is ∙ c.requires.going in
    seen_more c.args.self.now _ c.self.view_is c.take_item.new.self c.args.got
    (Some (piece.Item c.take_item.new.item))
    c.self.inside.ended (λ w p h. c.take_item.ensures.read _ w p h c.if-take_item.true)
    c.take_item.ensures.senders going
    c.requires.unread c.requires.going c.self.invariant

pub invariant_of-self-else-take_item : goal.invariant_of-self-else-take_item
invariant_of-self-else-take_item c = (
  c.self.invariant.0,
  subst (λ (z : Reading). HasSeen (record {
    known = c.self.inside.known;
    place = c.self.inside.place;
    frames = z;
    ended = c.self.inside.ended;
  }))
      (sym (c.take_item.ensures.stays c.if-take_item.false).0) c.self.invariant.1,
)
