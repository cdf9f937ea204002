use Rattle.std.proofs.Common.{rules, ◌≡◌, ℕ, [], ◌∷◌, ◌++◌, List, length, arith, ap, subst, sym}
use Rattle.std.proofs.Common.{◌∙◌}
use Rattle.bus_register.specs.declared.registers.SenderNo.{SenderNo}
use Rattle.bus_batch.specs.Frames.{Entry}
use Rattle.bus_batch.proofs.PieceLaws.{order_made}
use Rattle.bus_deliverylog.specs.Orders.{AreMarks, merged}
use Rattle.bus_deliverylog.proofs.Merging.{mark_joins, one_mark_more}
use Rattle.bus_deliverylog.proofs.orders.Order.leave.Goals as goal

pub returns-clause-joins : goal.returns-clause-joins
returns-clause-joins c =
    let place : c.len.result ≡ length c.args.self.now.items.items = search rules in
    let noted : c.push.new.self.items
    ≡ c.args.self.now.left.items ++ (c.args.sender, length c.args.self.now.items.items) ∷ [] =
    c.in_ok-push.ensures.items
    ∙ ap (λ (z : ℕ). c.args.self.now.left.items ++ (c.args.sender, z) ∷ []) place in
    ap (λ (z : List Entry). order_made z c.args.self.now.ended)
    (ap (λ (z : List (SenderNo × ℕ)). merged c.args.self.now.items.items z) noted
    ∙ mark_joins c.args.self.now.items.items c.args.self.now.left.items c.args.sender c.requires)

pub returns-clause-places : goal.returns-clause-places
returns-clause-places c =
    let place : c.len.result ≡ length c.args.self.now.items.items = search rules in
    let noted : c.push.new.self.items
    ≡ c.args.self.now.left.items ++ (c.args.sender, length c.args.self.now.items.items) ∷ [] =
    c.in_ok-push.ensures.items
    ∙ ap (λ (z : ℕ). c.args.self.now.left.items ++ (c.args.sender, z) ∷ []) place in
    subst (λ (z : List (SenderNo × ℕ)). AreMarks 0 (length c.args.self.now.items.items) z)
    (sym noted)
    (one_mark_more 0 (length c.args.self.now.items.items) c.args.self.now.left.items c.args.sender
    (omega arith) c.requires)
