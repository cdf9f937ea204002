use Rattle.std.proofs.Common.{◌≡◌, ◌∙◌, ap, eqb, ◌&&◌}
use Rattle.std.specs.Bool.{Decides}
use Rattle.std.proofs.lemmas.Bool.Decides.{Decides-and, Decides-eqb, Decides-like}
use Rattle.std.proofs.lemmas.Slice.Eq.{slice_eq-Decides}
use Rattle.bench_rounds.specs.declared.workers.Got.{Got}
use Rattle.bench_rounds.proofs.checks.is_same.Goals as goal

same_item : (a b : Got) → (a.sender.0 ≡ b.sender.0) × (a.number ≡ b.number) → a ≡ b
same_item a b h =
    let first : a ≡ record a { sender = b.sender } =
    ap (λ n. record a { sender = record { 0 = n } }) h.0 in
    first ∙ ap (λ n. record b { number = n }) h.1

each_item : (a b : Got) → Decides (eqb a.sender.0 b.sender.0 && eqb a.number b.number) (a ≡ b)
each_item a b =
    Decides-like _ (same_item a b)
    (λ e. (ap (λ (g : Got). g.sender.0) e, ap (λ (g : Got). g.number) e))
    (Decides-and _ _ (Decides-eqb a.sender.0 b.sender.0) (Decides-eqb a.number b.number))

pub returns : goal.returns
returns c = slice_eq-Decides each_item c.args.order.now c.args.other.now c.eq.result c.eq.ensures
