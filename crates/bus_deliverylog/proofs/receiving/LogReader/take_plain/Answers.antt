use Rattle.std.proofs.Common.{None, refl, sym, ap, ◌∙◌, subst}
use Rattle.bus_batch.specs.Reading.{Reading}
use Rattle.bus_deliverylog.specs.Receiving.{LogReading, HasSeen}
use Rattle.bus_deliverylog.proofs.ReceiveLaws.{good_word, seen_more}
use Rattle.bus_deliverylog.proofs.receiving.LogReader.take_plain.Goals as goal

pub returns-then-take_plain-clause-word : goal.returns-then-take_plain-clause-word
returns-then-take_plain-clause-word c _ words pieces had =
    let going = ap (λ (r : LogReading). r.ended) c.self.view_is ∙ c.requires.going in
    good_word c.args.self.now _ c.self.view_is c.take_plain.new.self c.args.got None
    c.self.inside.ended (λ w p h. c.take_plain.ensures.read _ w p h c.if-take_plain.true)
    c.take_plain.ensures.senders going
    _ words pieces had (λ w p h. c.take_plain.ensures.gives _ w p h c.if-take_plain.true) refl

pub invariant_of-self : goal.invariant_of-self
invariant_of-self c =
    let going = ap (λ (r : LogReading). r.ended) c.self.view_is ∙ c.requires.going in
    seen_more c.args.self.now _ c.self.view_is c.take_plain.new.self c.args.got None
    c.self.inside.ended (λ w p h. c.take_plain.ensures.read _ w p h c.if-take_plain.true)
    c.take_plain.ensures.senders going
    c.requires.unread c.requires.going c.self.invariant

pub invariant_of-self-else-take_plain : goal.invariant_of-self-else-take_plain
invariant_of-self-else-take_plain c = (
  c.self.invariant.0,
  subst (λ (z : Reading). HasSeen (record {
    known = c.self.inside.known;
    place = c.self.inside.place;
    frames = z;
    ended = c.self.inside.ended;
  }))
      (sym (c.take_plain.ensures.stays c.if-take_plain.false)) c.self.invariant.1,
)
