-- A state that keeps what was applied to it shows what a recovery must not lead to.
use Rattle.std.proofs.Common.{◌≡◌, ℕ, List, [], ◌∷◌, ◌++◌, length, map, get_or, sym, ◌∙◌, ap}
use Rattle.std.proofs.Common.{append_assoc, arith}
use Rattle.std.proofs.lemmas.List.{append-nil, map-append}
use Rattle.std.proofs.lemmas.Grind.{common_steps}
use Rattle.bus_batch.specs.declared.messages.Item.{Item}
use Rattle.bus_replica.specs.Replicas.{Folds, Begins, LeadTo, Then}
use Rattle.bus_replica.specs.Sittings.{Kept, RecoveriesRefuse, keeps, kept_of, nothing}

folds_keep : (first : Kept) (items : List Item) (last : Kept) → Folds keeps first items last
    → last ≡ first ++ map kept_of items
folds_keep first _ _ Begins = sym (append-nil first)
folds_keep first _ _ (Then items old item answer new before applied) =
    applied
    ∙ ap (λ z. z ++ kept_of item ∷ []) (folds_keep first items old before)
    ∙ append_assoc first (map kept_of items) (kept_of item ∷ [])
    ∙ ap (λ z. first ++ z) (sym (map-append kept_of items (item ∷ [])))

leads_keep : (items : List Item) (last : Kept) → LeadTo nothing keeps items last
    → last ≡ map kept_of items
leads_keep items last l =
    folds_keep l.first items last l.folds ∙ ap (λ z. z ++ map kept_of items) l.begins

abbrev first_of : Kept → ℕ × List ℕ
first_of kept = get_or kept 0 (0, [])

pub recoveries_refuse : (a b : Item) → RecoveriesRefuse a b
recoveries_refuse a b =
    let two : List Item = a ∷ b ∷ [] in
    record {
      last_lost = λ l. grind (arith, common_steps, length, leads_keep);
      first_lost = λ l. grind (arith, common_steps, length, leads_keep);
      doubled = λ l.
          let long = ap (λ (z : Kept). length z)
          (leads_keep two (kept_of a ∷ kept_of a ∷ kept_of b ∷ []) l) in
          absurd (omega (arith, long));
      turned = λ others l.
          others (sym (ap first_of (leads_keep two (kept_of b ∷ kept_of a ∷ []) l)));
      misplaced = λ sender others l. grind (arith, common_steps, leads_keep);
    }
