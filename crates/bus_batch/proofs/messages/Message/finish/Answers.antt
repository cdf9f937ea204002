use Rattle.std.proofs.Common.{◌≡◌, ℕ, ◌+◌, ◌-◌, List, ◌++◌, length, take, drop, arith, sym, ap}
use Rattle.std.proofs.Common.{◌∙◌, subst}
use Rattle.std.specs.Prelude.{All}
use Rattle.std.proofs.lemmas.List.{length-take}
use Rattle.bus_batch.proofs.Padding.{written, all_long, rest_is}
use Rattle.bus_batch.proofs.messages.Message.finish.Goals as goal

pub invariant_of-self : goal.invariant_of-self
invariant_of-self c =
    let a = c.begun.inside.len in
    let xs = c.begun.inside.bytes in
    let inv = c.begun.invariant in
    let had : length c.args.begun.now ≡ a =
    ap (λ (z : List ℕ). length z) (sym c.begun.view_is) ∙ length-take a xs
    ∙ (let e = inv.0 in let e' = inv.1 in omega arith) in
    let ys_is = c.copy_from_slice.ensures.after ∙ c.to_be_bytes.ensures in
    let whole = c.requires.whole in
    let begun = c.requires.begun in
    let eight : length c.copy_from_slice.new.self ≡ 8 = ap (λ (z : List ℕ). length z) ys_is in
    let none : All (λ b. b ≡ 0) (drop (c.args.len - a) c.copy_from_slice.new.self) =
    subst (λ n. All (λ b. b ≡ 0) (drop (c.args.len - n) c.copy_from_slice.new.self)) had
    (subst (λ z. All (λ b. b ≡ 0) (drop (c.args.len - length c.args.begun.now) z)) (sym ys_is)
    c.requires.padding) in (
      omega arith,
      all_long a (a + 8 - a) c.args.len xs c.copy_from_slice.new.self (omega arith) inv.1
          (omega arith) (omega arith) (omega arith) eight,
      rest_is a (a + 8 - a) c.args.len xs c.copy_from_slice.new.self (omega arith) inv.1
          (omega arith) (omega arith) (omega arith) eight inv.2 none,
    )

pub returns-clause-same : goal.returns-clause-same
returns-clause-same c =
    let a = c.begun.inside.len in
    let xs = c.begun.inside.bytes in
    let inv = c.begun.invariant in
    let had : length c.args.begun.now ≡ a =
    ap (λ (z : List ℕ). length z) (sym c.begun.view_is) ∙ length-take a xs
    ∙ (let e = inv.0 in let e' = inv.1 in omega arith) in
    let ys_is = c.copy_from_slice.ensures.after ∙ c.to_be_bytes.ensures in
    let whole = c.requires.whole in
    let begun = c.requires.begun in
    let eight : length c.copy_from_slice.new.self ≡ 8 = ap (λ (z : List ℕ). length z) ys_is in
    written a (a + 8 - a) c.args.len xs c.copy_from_slice.new.self (omega arith) inv.1 (omega arith)
    (omega arith) (omega arith) eight
    ∙ (λ i. c.begun.view_is i ++ take (c.args.len - sym had i) (ys_is i))
