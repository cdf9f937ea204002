use Rattle.std.proofs.Common.{◌≡◌, ℕ, ◌+◌, List, [], ◌∷◌, ◌++◌, take, ap, sym, subst, ◌∙◌}
use Rattle.std.proofs.lemmas.List.{take_more}
use Rattle.bus_replica.specs.Replicas.{Folds, Begins, Then}
use Rattle.bus_replica.proofs.replaying.replay.Goals as goal

pub loop-item-init : goal.loop-item-init
loop-item-init g c = Begins

pub loop-item-preserved : goal.loop-item-preserved
loop-item-preserved g c =
    let k = c.loop-item.item-index in
    let items = c.deref-item-items.result.now in
    let item = c.item-item.result in
    let next : take (k + 1) items ≡ take k items ++ item ∷ [] =
    take_more items k item c.loop-item-test.true
    ∙ ap (λ z. take k items ++ z ∷ []) (sym c.item-item.is) in
    subst (λ z. Folds g.S.State.applies c.args.state.now z c.apply.new.self) (sym next)
    (Then (take k items) c.loop-item.state item c.apply.result c.apply.new.self
    c.loop-item.invariant
    (subst (λ (z : List ℕ). g.S.State.applies c.loop-item.state item.sender.0 z c.apply.result
    c.apply.new.self) c.as_slice.ensures.same c.apply.ensures))
