use Rattle.std.proofs.Common.{◌++◌, take, ap, append_assoc, length, refl, [], ◌∷◌, sym, ◌∙◌}
use Rattle.std.proofs.lemmas.List.{take_all, take_at, take_more}
use Rattle.bus_replica.proofs.replaying.push_all.Goals as goal

pub loop-item-preserved : goal.loop-item-preserved
loop-item-preserved c =
    let k = c.loop-item.item-index in
    let more = c.args.more.now in
    let old = c.args.items.now.items in
    let item = c.item-item.result in
    c.in_ok-push.ensures.items
    ∙ ap (λ z. z ++ c.copied.result ∷ []) c.loop-item.invariant
    ∙ append_assoc old (take k more) (c.copied.result ∷ [])
    ∙ ap (λ z. old ++ z)
    (ap (λ z. take k more ++ z ∷ []) (c.copied.ensures ∙ c.item-item.is)
    ∙ sym (take_more more k item c.loop-item-test.true))

pub returns-in_err-push-clause-kept : goal.returns-in_err-push-clause-kept
returns-in_err-push-clause-kept c =
    let old = c.args.items.now.items in
    ap (λ z. take (length old) z) (c.in_err-push.ensures.items ∙ c.loop-item.invariant)
    ∙ take_at old (take c.loop-item.item-index c.args.more.now) (length old) refl

pub returns-clause-ok : goal.returns-clause-ok
returns-clause-ok c =
    c.loop-item.invariant
    ∙ ap (λ z. c.args.items.now.items ++ z)
    (take_all c.loop-item.item-index c.args.more.now c.loop-item-test.false)

pub returns-clause-kept : goal.returns-clause-kept
returns-clause-kept c =
    let old = c.args.items.now.items in
    ap (λ z. take (length old) z) c.loop-item.invariant
    ∙ take_at old (take c.loop-item.item-index c.args.more.now) (length old) refl
