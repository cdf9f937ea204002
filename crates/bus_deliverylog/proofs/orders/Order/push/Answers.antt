use Rattle.std.proofs.Common.{[], ◌∷◌, ◌++◌, List, length, arith, ap, subst, sym, ◌∙◌}
use Rattle.std.proofs.lemmas.List.{length-append}
use Rattle.bus_batch.specs.declared.messages.Item.{Item}
use Rattle.bus_batch.specs.Frames.{Entry}
use Rattle.bus_batch.proofs.PieceLaws.{order_made}
use Rattle.bus_deliverylog.specs.Orders.{AreMarks, merged}
use Rattle.bus_deliverylog.proofs.Merging.{item_joins, further}
use Rattle.bus_deliverylog.proofs.orders.Order.push.Goals as goal

pub returns-clause-joins : goal.returns-clause-joins
returns-clause-joins c =
    ap (λ (z : List Entry). order_made z c.args.self.now.ended)
    (ap (λ (z : List Item). merged z c.args.self.now.left.items) c.in_ok-push.ensures.items
    ∙ item_joins c.args.self.now.items.items c.args.self.now.left.items c.args.item c.requires)

pub returns-clause-places : goal.returns-clause-places
returns-clause-places c =
    let size = length-append c.args.self.now.items.items (c.args.item ∷ []) in
    subst (λ (z : List Item). AreMarks 0 (length z) c.args.self.now.left.items)
    (sym c.in_ok-push.ensures.items)
    (further 0 (length c.args.self.now.items.items)
    (length (c.args.self.now.items.items ++ c.args.item ∷ [])) c.args.self.now.left.items
    (omega arith) c.requires)
