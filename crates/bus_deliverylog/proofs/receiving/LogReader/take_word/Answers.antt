use Rattle.std.proofs.Common.{inl, true, Some, refl, sym, ap, ◌∙◌, subst}
use Rattle.bus_batch.specs.Frames.{is_end, IsBadWord}
use Rattle.bus_batch.specs.Reading.{Reading}
use Rattle.bus_deliverylog.specs.Receiving.{LogReading, HasReceived, HasSeen, turn_of}
use Rattle.bus_deliverylog.proofs.ReceiveLaws.{good_word, seen_more}
use Rattle.bus_deliverylog.proofs.receiving.LogReader.take_word.Goals as goal

pub returns-in_default-clause-word : goal.returns-in_default-clause-word
returns-in_default-clause-word c words pieces had =
    let read = subst (λ (r : LogReading). HasReceived words pieces r) (sym c.self.view_is) had in
    inl (
      subst (λ (r : LogReading). IsBadWord r.frames.senders words c.args.got) c.self.view_is
          ((c.in_default.ensures.bad _ words pieces read.read).0 refl),
      refl,
      ap (λ (z : Reading). record {
        known = c.self.inside.known;
        place = c.self.inside.place;
        frames = z;
        ended = c.self.inside.ended;
      }) c.in_default.ensures.stays ∙ c.self.view_is,
    )

pub returns-in-None-clause-word : goal.returns-in-None-clause-word
returns-in-None-clause-word c words pieces had =
    let found_is = c.in-None.is in
    good_word c.args.self.now _ c.self.view_is c.try_feed.new.self c.args.got c.in-Ok.found
    c.self.inside.ended (c.in-Ok.ensures.read _) c.in-Ok.ensures.senders
    ((ap (λ (r : LogReading). r.ended) c.self.view_is ∙ c.requires.going)
    ∙ sym (ap is_end found_is))
    _ words pieces had (c.in-Ok.ensures.gives _) (sym (ap turn_of found_is))

pub returns-in-Some-Head-clause-word : goal.returns-in-Some-Head-clause-word
returns-in-Some-Head-clause-word c words pieces had =
    let found_is = c.in-Some-Head.is ∙ ap Some c.in-Some-Head.field-0-is in
    good_word c.args.self.now _ c.self.view_is c.try_feed.new.self c.args.got c.in-Ok.found
    c.self.inside.ended (c.in-Ok.ensures.read _) c.in-Ok.ensures.senders
    ((ap (λ (r : LogReading). r.ended) c.self.view_is ∙ c.requires.going)
    ∙ sym (ap is_end found_is))
    _ words pieces had (c.in-Ok.ensures.gives _) (sym (ap turn_of found_is))

pub returns-in-Some-Item-clause-word : goal.returns-in-Some-Item-clause-word
returns-in-Some-Item-clause-word c words pieces had =
    let found_is = c.in-Some-Item.is ∙ ap Some c.in-Some-Item.field-0-is in
    good_word c.args.self.now _ c.self.view_is c.try_feed.new.self c.args.got c.in-Ok.found
    c.self.inside.ended (c.in-Ok.ensures.read _) c.in-Ok.ensures.senders
    ((ap (λ (r : LogReading). r.ended) c.self.view_is ∙ c.requires.going)
    ∙ sym (ap is_end found_is))
    _ words pieces had (c.in-Ok.ensures.gives _) (sym (ap turn_of found_is))

pub returns-in-Some-Leave-clause-word : goal.returns-in-Some-Leave-clause-word
returns-in-Some-Leave-clause-word c words pieces had =
    let found_is = c.in-Some-Leave.is ∙ ap Some c.in-Some-Leave.field-0-is in
    good_word c.args.self.now _ c.self.view_is c.try_feed.new.self c.args.got c.in-Ok.found
    c.self.inside.ended (c.in-Ok.ensures.read _) c.in-Ok.ensures.senders
    ((ap (λ (r : LogReading). r.ended) c.self.view_is ∙ c.requires.going)
    ∙ sym (ap is_end found_is))
    _ words pieces had (c.in-Ok.ensures.gives _) (sym (ap turn_of found_is))

pub returns-in-Some-End-clause-word : goal.returns-in-Some-End-clause-word
returns-in-Some-End-clause-word c words pieces had =
    let found_is = c.in-Some-End.is ∙ ap Some c.in-Some-End.field-0-is in
    good_word c.args.self.now _ c.self.view_is c.try_feed.new.self c.args.got c.in-Ok.found true
    (c.in-Ok.ensures.read _) c.in-Ok.ensures.senders (refl ∙ sym (ap is_end found_is))
    _ words pieces had (c.in-Ok.ensures.gives _) (sym (ap turn_of found_is))

pub invariant_of-self : goal.invariant_of-self
invariant_of-self c = (
  c.self.invariant.0,
  subst (λ (z : Reading). HasSeen (record {
    known = c.self.inside.known;
    place = c.self.inside.place;
    frames = z;
    ended = c.self.inside.ended;
  }))
      (sym c.in_default.ensures.stays) c.self.invariant.1,
)

pub invariant_of-self-in-None : goal.invariant_of-self-in-None
invariant_of-self-in-None c =
    let found_is = c.in-None.is in
    seen_more c.args.self.now _ c.self.view_is c.try_feed.new.self c.args.got c.in-Ok.found
    c.self.inside.ended (c.in-Ok.ensures.read _) c.in-Ok.ensures.senders
    ((ap (λ (r : LogReading). r.ended) c.self.view_is ∙ c.requires.going)
    ∙ sym (ap is_end found_is))
    c.requires.unread c.requires.going c.self.invariant

pub invariant_of-self-in-Some-Head : goal.invariant_of-self-in-Some-Head
invariant_of-self-in-Some-Head c =
    let found_is = c.in-Some-Head.is ∙ ap Some c.in-Some-Head.field-0-is in
    seen_more c.args.self.now _ c.self.view_is c.try_feed.new.self c.args.got c.in-Ok.found
    c.self.inside.ended (c.in-Ok.ensures.read _) c.in-Ok.ensures.senders
    ((ap (λ (r : LogReading). r.ended) c.self.view_is ∙ c.requires.going)
    ∙ sym (ap is_end found_is))
    c.requires.unread c.requires.going c.self.invariant

pub invariant_of-self-in-Some-Item : goal.invariant_of-self-in-Some-Item
invariant_of-self-in-Some-Item c =
    let found_is = c.in-Some-Item.is ∙ ap Some c.in-Some-Item.field-0-is in
    seen_more c.args.self.now _ c.self.view_is c.try_feed.new.self c.args.got c.in-Ok.found
    c.self.inside.ended (c.in-Ok.ensures.read _) c.in-Ok.ensures.senders
    ((ap (λ (r : LogReading). r.ended) c.self.view_is ∙ c.requires.going)
    ∙ sym (ap is_end found_is))
    c.requires.unread c.requires.going c.self.invariant

pub invariant_of-self-in-Some-Leave : goal.invariant_of-self-in-Some-Leave
invariant_of-self-in-Some-Leave c =
    let found_is = c.in-Some-Leave.is ∙ ap Some c.in-Some-Leave.field-0-is in
    seen_more c.args.self.now _ c.self.view_is c.try_feed.new.self c.args.got c.in-Ok.found
    c.self.inside.ended (c.in-Ok.ensures.read _) c.in-Ok.ensures.senders
    ((ap (λ (r : LogReading). r.ended) c.self.view_is ∙ c.requires.going)
    ∙ sym (ap is_end found_is))
    c.requires.unread c.requires.going c.self.invariant

pub invariant_of-self-in-Some-End : goal.invariant_of-self-in-Some-End
invariant_of-self-in-Some-End c =
    let found_is = c.in-Some-End.is ∙ ap Some c.in-Some-End.field-0-is in
    seen_more c.args.self.now _ c.self.view_is c.try_feed.new.self c.args.got c.in-Ok.found true
    (c.in-Ok.ensures.read _) c.in-Ok.ensures.senders (refl ∙ sym (ap is_end found_is))
    c.requires.unread c.requires.going c.self.invariant
