use Rattle.std.proofs.Common.{◌≡◌, ℕ, ◌+◌, ◌-◌, List, ◌++◌, length, take, drop, replicate, arith}
use Rattle.std.proofs.Common.{sym, ap, ◌∙◌, subst}
use Rattle.std.proofs.lemmas.List.{length-take}
use Rattle.bus_batch.proofs.Padding.{more_long, more_spared}
use Rattle.bus_batch.proofs.messages.Message.append.Goals as goal

pub invariant_of-self : goal.invariant_of-self
invariant_of-self c =
    let a = c.self.inside.len in
    let xs = c.self.inside.bytes in
    let ys = c.copy_from_slice.new.self in
    let inv = c.self.invariant in
    let k = a + length c.args.more.now - a in
    let had : length c.args.self.now ≡ a =
    ap (λ (z : List ℕ). length z) (sym c.self.view_is) ∙ length-take a xs
    ∙ (let e = inv.0 in let e' = inv.1 in omega arith) in
    let size : length ys ≡ length c.args.more.now =
    ap (λ (z : List ℕ). length z) c.copy_from_slice.ensures.after in
    let room = c.requires in (
      omega arith,
      more_long a k xs ys (omega arith) inv.1 (omega arith),
      subst
          (λ n. drop (a + n) (take a xs ++ (ys ++ drop k (drop a xs))) ≡ replicate (56 - (a + n)) 0)
          size (more_spared a k xs ys (omega arith) inv.1 (omega arith) inv.2),
    )
