use Rattle.std.proofs.Common.{◌+◌, ◌≤◌, Some, refl, sym, ap, ◌∙◌, subst, inl, false}
use Rattle.bus_batch.specs.declared.messages.Piece.TheVariants as piece
use Rattle.bus_deliverylog.specs.declared.receiving.RecvTurn.TheVariants as turn
use Rattle.bus_deliverylog.specs.Receiving.{LogReading, HasSeen, TakesNext, midway_in}
use Rattle.bus_deliverylog.proofs.ReceiveLaws.{span_ends, span_seen}
use Rattle.bus_deliverylog.proofs.receiving.LogReader.take_span.Goals as goal

pub invariant_of-self : goal.invariant_of-self
invariant_of-self c =
    let some = c.requires.bytes in
    let going = ap (λ (r : LogReading). r.ended) c.self.view_is ∙ c.requires.going in
    let parts : LogReading = record {
      known = c.self.inside.known;
      place = c.self.inside.place;
      frames = c.self.inside.frames;
      ended = c.self.inside.ended;
    } in
    let more = span_seen parts c.args.span some.0 c.args.last some.1.all c.take_span.new.self
    (Some (piece.Item c.take_span.new.item)) refl
    (c.take_span.ensures.good c.if-take_span.true some.0 some.1) c.take_span.ensures.senders
    (subst (λ (r : LogReading). r.place + (1 + c.args.span.words) ≤ r.known) (sym c.self.view_is)
    c.requires.known)
    (subst (λ (r : LogReading). HasSeen (midway_in r c.args.span some.0)) (sym c.self.view_is)
    some.2) in (
      more.0,
      subst (λ e. HasSeen (record {
        known = c.self.inside.known;
        place = c.self.inside.place + (1 + c.args.span.words);
        frames = c.take_span.new.self;
        ended = e;
      })) (sym going) more.1,
    )

pub returns-then-take_span-clause-word : goal.returns-then-take_span-clause-word
returns-then-take_span-clause-word c _ taken has =
    let going = ap (λ (r : LogReading). r.ended) c.self.view_is ∙ c.requires.going in
    let parts : LogReading = record {
      known = c.self.inside.known;
      place = c.self.inside.place;
      frames = c.self.inside.frames;
      ended = c.self.inside.ended;
    } in
    subst (λ e. TakesNext (midway_in c.args.self.now c.args.span taken) c.args.last
    (turn.Item c.take_span.new.item) (record {
      known = c.self.inside.known;
      place = c.self.inside.place + (1 + c.args.span.words);
      frames = c.take_span.new.self;
      ended = e;
    })) (sym going)
    (subst (λ (r : LogReading). TakesNext (midway_in r c.args.span taken) c.args.last
    (turn.Item c.take_span.new.item) (record {
      known = c.self.inside.known;
      place = c.self.inside.place + (1 + c.args.span.words);
      frames = c.take_span.new.self;
      ended = false;
    })) c.self.view_is
    (span_ends parts c.args.span taken c.args.last has.all c.take_span.new.self
    (Some (piece.Item c.take_span.new.item)) refl
    (c.take_span.ensures.good c.if-take_span.true taken has) c.take_span.ensures.senders
    (turn.Item c.take_span.new.item) refl))

pub returns-else-take_span-clause-bad : goal.returns-else-take_span-clause-bad
returns-else-take_span-clause-bad c _ taken has =
    subst (λ (r : LogReading). TakesNext (midway_in r c.args.span taken) c.args.last turn.Going
    (midway_in r c.args.span taken)) c.self.view_is
    (λ words pieces had. inl (
      c.take_span.ensures.bad c.if-take_span.false taken has _ words pieces had.read,
      refl,
      refl,
    ))
