use Rattle.std.proofs.Common.{◌≡◌, ◌≤◌, List, ap, length, min, subst, sym, ◌∙◌}
use Rattle.std.proofs.Math.Nat.{min-le_right}
use Rattle.std.proofs.lemmas.List.{length-take}
use Rattle.bus_batch.specs.declared.messages.Item.{Item}
use Rattle.bus_deliverylog.proofs.Merging.{further}
use Rattle.bus_replica.proofs.replaying.append.Goals as goal

pub returns-else-is_err-clause-places : goal.returns-else-is_err-clause-places
returns-else-is_err-clause-places c = λ places.
    let old = c.args.order.now.items.items in
    let new = c.push_all-pushed.new.items.items in
    let size : min (length old) (length new) ≡ length old =
    sym (length-take (length old) new)
    ∙ ap (λ (z : List Item). length z) c.push_all-pushed.ensures.kept in
    let within : length old ≤ length new =
    subst (λ z. z ≤ length new) size (min-le_right (length old) (length new)) in
    further 0 (length old) (length new) c.args.order.now.left.items within places
