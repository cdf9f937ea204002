-- A transfer has one outcome.
use Rattle.std.proofs.Common.{◌≡◌, ℕ, Bool, true, false, List, refl, sym, ◌∙◌}
use Rattle.bus_replica.specs.OneOrder.{AreFunctions}
use Rattle.example_ledger.specs.Transfers.{IsFirst, Applies}

one_next : (old : List ℕ) (from : ℕ) (op : List ℕ) (paid paid' : Bool) (new new' : List ℕ)
    → Applies old from op paid new → Applies old from op paid' new'
    → (paid ≡ paid') × (new ≡ new')
one_next old from op true true new new' h k =
    let paid = h.exact.0 refl in
    (refl, h.applied paid.0 paid.1 refl ∙ sym (k.applied paid.0 paid.1 refl))
one_next old from op true false new new' h k =
    absurd (let no : false ≡ true = k.exact.1 (h.exact.0 refl) in cc)
one_next old from op false true new new' h k =
    absurd (let no : false ≡ true = h.exact.1 (k.exact.0 refl) in cc)
one_next old from op false false new new' h k = (refl, h.refused ∙ sym k.refused)

pub functions : AreFunctions IsFirst Applies
functions = record {
  one_first = λ a b first other. first ∙ sym other;
  one_next = one_next;
}
