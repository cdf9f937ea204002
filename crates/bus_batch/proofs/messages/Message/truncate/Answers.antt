use Rattle.std.proofs.Common.{◌≡◌, ℕ, List, length, take, drop, arith, sym, ap, ◌∙◌, subst}
use Rattle.std.specs.Prelude.{All}
use Rattle.std.proofs.lemmas.List.{length-take}
use Rattle.bus_batch.proofs.Spans.{cut_spared, cut_is}
use Rattle.bus_batch.proofs.messages.Message.truncate.Goals as goal

pub invariant_of-self : goal.invariant_of-self
invariant_of-self c =
    let a = c.self.inside.len in
    let xs = c.self.inside.bytes in
    let inv = c.self.invariant in
    let had : length c.args.self.now ≡ a =
    ap (λ (z : List ℕ). length z) (sym c.self.view_is) ∙ length-take a xs
    ∙ (let e = inv.0 in let e' = inv.1 in omega arith) in
    let within = c.requires.within in (
      (let few = inv.0 in omega arith),
      inv.1,
      cut_spared a c.args.len xs (omega arith) inv.0 inv.1 inv.2
          (subst (λ z. All (λ b. b ≡ 0) (drop c.args.len z)) (sym c.self.view_is)
          c.requires.padding),
    )

pub returns : goal.returns
returns c =
    let a = c.self.inside.len in
    let xs = c.self.inside.bytes in
    let inv = c.self.invariant in
    let had : length c.args.self.now ≡ a =
    ap (λ (z : List ℕ). length z) (sym c.self.view_is) ∙ length-take a xs
    ∙ (let e = inv.0 in let e' = inv.1 in omega arith) in
    let within = c.requires.within in
    cut_is a c.args.len xs (omega arith) ∙ ap (take c.args.len) c.self.view_is
