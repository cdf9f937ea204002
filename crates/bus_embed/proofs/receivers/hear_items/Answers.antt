use Rattle.std.proofs.Common.{arith, ◌∙◌, ap, length, slice_set, ◌<◌}
use Rattle.bus_embed.proofs.HearLaws.{goes, gives, full, finds_none, finds_end}
use Rattle.bus_embed.proofs.receivers.hear_items.Goals as goal
use Rattle.bus_embed.proofs.receivers.hear_items.Goals.{in-Going, in-Item}

pub returns-then-many-items-clause-hears : goal.returns-then-many-items-clause-hears
returns-then-many-items-clause-hears c =
    let left = c.loop-test.true in
    full c.loop.invariant.3 (omega (arith, left)) (c.if-many-items.true ∙ c.loop.invariant.1)

pub returns-in-Empty-clause-hears : goal.returns-in-Empty-clause-hears
returns-in-Empty-clause-hears c =
    let left = c.loop-test.true in
    let other = c.if-many-items.false in
    let same = c.loop.invariant.1 in let most = c.loop.invariant.2 in
    finds_none c.loop.invariant.3 (omega (arith, other, same, most)) (omega (arith, left))
    c.in-Empty.ensures.hears

pub returns-in-End-clause-hears : goal.returns-in-End-clause-hears
returns-in-End-clause-hears c =
    let left = c.loop-test.true in
    let other = c.if-many-items.false in
    let same = c.loop.invariant.1 in let most = c.loop.invariant.2 in
    finds_end c.loop.invariant.3 (omega (arith, other, same, most)) (omega (arith, left))
    c.in-End.ensures.hears

pub loop-preserved : goal.loop-preserved
loop-preserved c =
    let other = c.if-many-items.false in
    let same = c.loop.invariant.1 in let most = c.loop.invariant.2 in
    let room : c.loop.many < length c.args.items.now = omega (arith, other, same, most) in
    let heard = c.item_turns.ensures.hears in
    elim c.match-item_turns.branch [
      | in-Going w ↦ (
        c.item_turns.ensures.bus ∙ c.loop.invariant.0,
        c.match-item_turns.auto.items ∙ same,
        rw w.many-is most,
        goes w.in-Going.is c.loop.invariant.3 heard room w.many-is w.items-is,
      )
      | in-Item w ↦ let more = w.many-is in (
        c.item_turns.ensures.bus ∙ c.loop.invariant.0,
        c.match-item_turns.auto.items ∙ same,
        omega (arith, more, room),
        gives w.in-Item.is c.loop.invariant.3 heard room w.many-is
            (w.items-is ∙ ap (slice_set c.loop.items c.loop.many) w.tell.ensures),
      )
    ]
