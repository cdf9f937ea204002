use Rattle.std.proofs.Common.{◌≡◌, ◌++◌, ◌∷◌, [], refl, sym, ap, ◌∙◌}
use Rattle.bus_pageslot.specs.Buses.{BusId}
use Rattle.bus_pageslot.specs.Seats.{table_of}
use Rattle.bus_receiver.specs.Listening.{bus_of}
use Rattle.bus_handles.specs.Handles.{seats_of}
use Rattle.bus_handles.proofs.HandleLaws.{one_more, none_of_bus, all_of_bus, nothing_left}
use Rattle.bus_handles.proofs.HandleLaws.{one_given, holds_next}
use Rattle.bus_handles.proofs.opening.share.Goals as goal

pub new-requires-in-loop-sender : goal.new-requires-in-loop-sender
new-requires-in-loop-sender g c =
    let rest = c.loop-sender.sender-iterator.rest.items in
    holds_next (λ s. table_of s ≡ c.args.bus.table) c.loop-sender.sending.items rest
    c.next.new.self.rest.items c.args.senders.items c.in-Some.sender
    c.in-Some.ensures.steps.0 c.loop-sender.invariant.1 c.requires.senders
    ∙ sym (ap (λ (b : BusId). b.table) (c.in_ok-try_clone.ensures ∙ c.loop-sender.invariant.0))

pub loop-sender-preserved : goal.loop-sender-preserved
loop-sender-preserved g c =
    let old = c.loop-sender.sending.items in
    let rest = c.loop-sender.sender-iterator.rest.items in (
      c.loop-sender.invariant.0,
      one_given old c.push.new.self.items rest c.next.new.self.rest.items c.args.senders.items
          c.in-Some.sender
          (c.in_ok-push.ensures.items
          ∙ ap (λ z. old ++ z ∷ []) c.new-in-loop-sender.ensures)
          c.in-Some.ensures.steps.0 c.loop-sender.invariant.1,
    )

pub new-requires-in-loop-tap : goal.new-requires-in-loop-tap
new-requires-in-loop-tap g c =
    let rest = c.loop-tap.tap-iterator.rest.items in
    ap bus_of c.new-receiver.ensures
    ∙ holds_next (λ t. t.table_id ≡ c.args.bus.table) (seats_of c.loop-tap.receiving.items) rest
    c.next-in-loop-tap.new.self.rest.items c.args.taps.items c.in-Some-tap.tap
    c.in-Some-tap.ensures.steps.0 c.loop-tap.invariant.2 c.requires.taps
    ∙ sym (ap (λ (b : BusId). b.table) (c.in_ok-try_clone-2.ensures ∙ c.loop-tap.invariant.0))

pub loop-tap-init : goal.loop-tap-init
loop-tap-init g c =
    let rest = c.loop-sender.sender-iterator.rest in (
      c.loop-sender.invariant.0,
      nothing_left c.loop-sender.sending.items rest.items c.args.senders.items
          (sym rest.ok.0 ∙ c.in-None.ensures.steps.0) c.loop-sender.invariant.1,
      ap (λ z. seats_of z ++ c.into_iter-tap-iterator.result.rest.items)
          c.new-receiving.ensures.items ∙ c.into_iter-tap-iterator.ensures.into_iter_gives.0,
      none_of_bus c.new-receiving.result.items c.args.bus c.new-receiving.ensures.items,
    )

pub loop-tap-preserved : goal.loop-tap-preserved
loop-tap-preserved g c =
    let old = c.loop-tap.receiving.items in
    let new = c.push-in-loop-tap.new.self.items in
    let rest = c.loop-tap.tap-iterator.rest.items in
    let seat = c.new-in-loop-tap.ensures.seat ∙ c.new-receiver.ensures in
    let of_bus : c.new-in-loop-tap.result.bus ≡ c.args.bus =
    c.new-in-loop-tap.ensures.bus ∙ (c.in_ok-try_clone-2.ensures ∙ c.loop-tap.invariant.0) in (
      c.loop-tap.invariant.0,
      c.loop-tap.invariant.1,
      one_given (seats_of old) (seats_of new) rest c.next-in-loop-tap.new.self.rest.items
          c.args.taps.items c.in-Some-tap.tap
          (one_more old new c.new-in-loop-tap.result (seats_of old) c.in-Some-tap.tap
          c.in_ok-push-2.ensures.items refl seat)
          c.in-Some-tap.ensures.steps.0 c.loop-tap.invariant.2,
      all_of_bus old new c.new-in-loop-tap.result c.args.bus c.in_ok-push-2.ensures.items
          c.loop-tap.invariant.3 of_bus,
    )

pub returns-clause-receivers : goal.returns-clause-receivers
returns-clause-receivers g c =
    let rest = c.loop-tap.tap-iterator.rest in
    nothing_left (seats_of c.loop-tap.receiving.items) rest.items c.args.taps.items
    (sym rest.ok.0 ∙ c.in-None-tap.ensures.steps.0) c.loop-tap.invariant.2
