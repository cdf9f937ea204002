-- Adopt-commit over tables is what the checks look at in lists.
use Rattle.std.proofs.Common.{◌≡◌, ◌↔◌, ℕ, Bool, true, false, not, List, slice_get, Option, Some}
use Rattle.std.proofs.Common.{None, All, Contains, refl, sym, ◌∙◌, ap, subst}
use Rattle.std.proofs.lemmas.Bool.{true≢false}
use Rattle.std.proofs.lemmas.Option.{slice_get_within, slice_get-get_or, get_or_from_slice_get}
use Rattle.bus_register.specs.Private.TableLaws.{some_of}
use Rattle.bus_register.specs.Tables.{of_some}
use Rattle.bus_adoptcommit.specs.declared.verdicts.Verdict.{Verdict}
use Rattle.bus_adoptcommit.specs.declared.verdicts.Verdict.TheVariants.{Commit, Adopt}
use Rattle.bus_adoptcommit.specs.Agreement.{value_of, IsValid, IsConvergent, IsCoherent}
use Rattle.bus_adoptcommit.specs.Agreement.{WeaklyLegal, Legal}
use Rattle.bus_adoptcommit.specs.Checks.{HasInput, CommitsTo, ConvergesOn, AgreesWith}
use Rattle.bus_adoptcommit.specs.Schedule.{table_of}

-- ── what a list has at a place ──
table_is : {A : Type 0} (xs : List (Option A)) (p : ℕ) (x : A) → table_of xs p ≡ Some x
    → slice_get xs p ≡ Some (Some x)
table_is xs p x e = let a = some_of (λ o. o) (slice_get xs p) x e in a.1 ∙ ap Some a.2

table_so : {A : Type 0} (xs : List (Option A)) (p : ℕ) (x : A) → slice_get xs p ≡ Some (Some x)
    → table_of xs p ≡ Some x
table_so xs p x e = ap (of_some (λ o. o)) e

-- what holds of each element, by place
All-at : {A : Type 0} (P : A → Type 0) (xs : List A) (p : ℕ) (x : A) → All P xs
    → slice_get xs p ≡ Some x → P x
All-at P xs p x h e = subst P (get_or_from_slice_get xs p x x e) (h p x (slice_get_within xs p x e))

All-from : {A : Type 0} (P : A → Type 0) (xs : List A)
    → ((p : ℕ) (x : A) → slice_get xs p ≡ Some x → P x) → All P xs
All-from P xs h k d l = h k _ (slice_get-get_or xs k d l)

-- an element that stands at some place
contained : {A : Type 0} (xs : List (Option A)) (x : A) → Contains xs (Some x)
    → (q : ℕ) × (table_of xs q ≡ Some x)
contained xs x c = (c.0, table_so xs c.0 x (slice_get-get_or xs c.0 (Some x) c.1 ∙ ap Some c.2))

contains : {A : Type 0} (xs : List (Option A)) (x : A) (q : ℕ) → table_of xs q ≡ Some x
    → Contains xs (Some x)
contains xs x q e =
    let h = table_is xs q x e in
    (q, slice_get_within xs q (Some x) h, get_or_from_slice_get xs q (Some x) (Some x) h)

-- ── each part ──
-- what is not the other value is the value
other : (v w : Bool) → ¬ (w ≡ not v) → w ≡ v
other true true h = refl
other true false h = absurd (h refl)
other false true h = absurd (h refl)
other false false h = refl

-- no value is the other one
differs : (v : Bool) → not v ≡ v → ⊥
differs true e = true≢false (sym e)
differs false e = true≢false e

module _ (inputs : List (Option Bool)) (outputs : List (Option Verdict)) where
  -- validity
  valid_is : All (HasInput inputs) outputs → IsValid (table_of inputs) (table_of outputs)
  valid_is h p d e = contained inputs (value_of d)
      (All-at (HasInput inputs) outputs p (Some d) h (table_is outputs p d e))

  has_input_at : IsValid (table_of inputs) (table_of outputs) → (p : ℕ) (o : Option Verdict)
      → slice_get outputs p ≡ Some o → HasInput inputs o
  has_input_at v p None e = tt
  has_input_at v p (Some d) e =
      let q = v p d (table_so outputs p d e) in contains inputs (value_of d) q.0 q.1

  -- convergence
  convergent_is : ConvergesOn inputs outputs false → ConvergesOn inputs outputs true
      → IsConvergent (table_of inputs) (table_of outputs)
  convergent_is f t v all p d e =
      let on : ConvergesOn inputs outputs v = elim v as (ConvergesOn inputs outputs) [
        | true ↦ t
        | false ↦ f
      ] in
      let alone : ¬ Contains inputs (Some (not v)) =
      λ c. let q = contained inputs (not v) c in differs v (all q.0 (not v) q.1) in
      All-at (CommitsTo v) outputs p (Some d) (on alone) (table_is outputs p d e)

  commits_at : IsConvergent (table_of inputs) (table_of outputs) → (v : Bool)
      → ¬ Contains inputs (Some (not v)) → (p : ℕ) (o : Option Verdict)
      → slice_get outputs p ≡ Some o → CommitsTo v o
  commits_at c v alone p None e = tt
  commits_at c v alone p (Some d) e = c v
      (λ q w f. other v w (λ g. alone (contains inputs (not v) q (f ∙ ap Some g)))) p d
      (table_so outputs p d e)

  converges_on : IsConvergent (table_of inputs) (table_of outputs) → (v : Bool)
      → ConvergesOn inputs outputs v
  converges_on c v alone = All-from (CommitsTo v) outputs (commits_at c v alone)

  -- coherence
  coherent_is : All (λ first. All (AgreesWith first) outputs) outputs
      → IsCoherent (table_of outputs)
  coherent_is h p q v d e f =
      All-at (AgreesWith (Some (Commit v))) outputs q (Some d)
      (All-at (λ first. All (AgreesWith first) outputs) outputs p (Some (Commit v)) h
      (table_is outputs p (Commit v) e)) (table_is outputs q d f)

  agrees_at : IsCoherent (table_of outputs) → (p q : ℕ) (a b : Option Verdict)
      → slice_get outputs p ≡ Some a → slice_get outputs q ≡ Some b → AgreesWith a b
  agrees_at c p q None b e f = tt
  agrees_at c p q (Some (Adopt v)) b e f = tt
  agrees_at c p q (Some (Commit v)) None e f = tt
  agrees_at c p q (Some (Commit v)) (Some d) e f =
      c p q v d (table_so outputs p (Commit v) e) (table_so outputs q d f)

  all_valid : IsValid (table_of inputs) (table_of outputs) → All (HasInput inputs) outputs
  all_valid v = All-from (HasInput inputs) outputs (has_input_at v)

  all_agree : IsCoherent (table_of outputs) → All (λ first. All (AgreesWith first) outputs) outputs
  all_agree c = All-from _ outputs
      (λ p a e. All-from (AgreesWith a) outputs (λ q b f. agrees_at c p q a b e f))

  -- ── the whole ──
  pub weakly_legal_is : (All (HasInput inputs) outputs
      × (ConvergesOn inputs outputs false × ConvergesOn inputs outputs true))
      ↔ WeaklyLegal (table_of inputs) (table_of outputs)
  weakly_legal_is = (
    λ h. record { valid = valid_is h.0; convergent = convergent_is h.1.0 h.1.1 },
    λ l. (all_valid l.valid, (converges_on l.convergent false, converges_on l.convergent true)),
  )

  pub legal_is : (WeaklyLegal (table_of inputs) (table_of outputs)
      × All (λ first. All (AgreesWith first) outputs) outputs)
      ↔ Legal (table_of inputs) (table_of outputs)
  legal_is = (
    λ h. record { valid = h.0.valid; convergent = h.0.convergent; coherent = coherent_is h.1 },
    λ l. (record { valid = l.valid; convergent = l.convergent }, all_agree l.coherent),
  )
