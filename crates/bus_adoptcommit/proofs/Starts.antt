-- Processes come to their starts one after another.
use Rattle.std.proofs.Common.{◌≡◌, ℕ, ◌+◌, ◌<◌, ◌≤◌, Bool, List, [], ◌∷◌, ◌++◌, slice_get, Option}
use Rattle.std.proofs.Common.{Some, inl, inr, arith, sym, ◌∙◌, ap, subst}
use Rattle.std.proofs.lemmas.Bool.{cases_eq}
use Rattle.std.proofs.lemmas.List.{length_push}
use Rattle.std.proofs.lemmas.Option.{same_Some, slice_get_past}
use Rattle.bus_register.specs.declared.registers.Op.{Op}
use Rattle.bus_register.specs.Protocol.{Protocol, Laws}
use Rattle.bus_register.specs.Private.TableLaws.{push_here, push_beside}
use Rattle.bus_adoptcommit.specs.declared.verdicts.Verdict.{Verdict}
use Rattle.bus_adoptcommit.specs.Agreement.{Legal}
use Rattle.bus_adoptcommit.specs.Plays.{AtStarts}

module _ {S : Type 0} (op : S → ℕ → Option Op) (fed : S → ℕ → ℕ → S) (P : Protocol S Bool Verdict)
    (laws : Laws op fed P Legal) where
  -- one more
  pub starts_one : (n i : ℕ) (given : List Bool) (processes new : List S) (v : Bool) (s : S)
      → AtStarts P n i given processes → slice_get given i ≡ Some v → i < n → n ≤ 64
      → s ≡ P.started n i v 0 → new ≡ processes ++ s ∷ [] → AtStarts P n (i + 1) given new
  starts_one n i given processes new v s h e below few is pushed =
      let size = h.size in
      subst (AtStarts P n (i + 1) given) (sym pushed) record {
        size = length_push processes s ∙ ap (λ z. z + 1) size;
        starts = λ p t f. elim (cases_eq p i) [
          | inl j ↦ (
            v,
            ap (slice_get given) j ∙ e,
            same_Some _ _ (sym f ∙ push_here processes s p (j ∙ sym size)) ∙ is
                ∙ ap (λ z. P.started n z v 0) (sym j),
          )
          | inr ne ↦ h.starts p t (sym (push_beside processes s p (omega arith)) ∙ f)
        ];
        kept = laws.enters n 0 (λ _. 0) (slice_get processes) (slice_get (processes ++ s ∷ [])) i v
            h.kept below few (slice_get_past processes i (omega arith))
            (push_here processes s i (sym size) ∙ ap Some is)
            (λ q ne. push_beside processes s q (omega arith));
      }
