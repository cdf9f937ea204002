-- What a receiver that forks neither finds nor makes.
use Rattle.std.proofs.Common.{◌≡◌, ◌≢◌, ℕ, ◌+◌, ◌<◌, List, [], ◌∷◌, ◌++◌, All, length, ◌∙◌, ap}
use Rattle.std.proofs.Common.{arith, length-append, sym}
use Rattle.bus_register.specs.declared.limits.TheConstants.{PASSED_ALL}
use Rattle.bus_automaton.specs.Processes.{TableLayout, passed_word}
use Rattle.bus_pageslot.specs.declared.rule.View.TheVariants.{Tap}
use Rattle.bus_pageslot.specs.Notes.{Look}
use Rattle.bus_pageslot.specs.ReceiverViews.{ReceiverView, receiver_tried}
use Rattle.bus_pageslot.specs.Rule.{Sat, receiver_view_in}
use Rattle.bus_receiver.specs.Forking.{ForksRefuse, with_try, with_tries}

abbrev tries_in : {C : Type 0} → Sat C → List Look
tries_in m = (receiver_view_in m.0).tried

tries_shown : (C : Type 0) (x : TableLayout) (e : ReceiverView) (number : ℕ) (found : List ℕ)
    → length (tries_in {C = C} (with_tries (Tap x e, []) number found))
    ≡ length e.tried + length found
tries_shown C x e number [] = omega arith
tries_shown C x e number (at ∷ more) =
    let look : Look = record { word = passed_word x number; found = at } in
    let one = length-append e.tried (look ∷ []) in
    let rest = tries_shown C x (receiver_tried e (passed_word x number) at) (number + 1) more in
    omega arith

one_longer : (C : Type 0) (x : TableLayout) (e : ReceiverView) (number : ℕ) (found : List ℕ)
    (word at : ℕ)
    → length (tries_in {C = C} (with_try (with_tries (Tap x e, []) number found) word at))
    ≡ length e.tried + length found + 1
one_longer C x e number [] word at =
    let look : Look = record { word = word; found = at } in
    let one = length-append e.tried (look ∷ []) in
    omega arith
one_longer C x e number (first ∷ more) word at =
    let look : Look = record { word = passed_word x number; found = first } in
    let one = length-append e.tried (look ∷ []) in
    let now = receiver_tried e (passed_word x number) first in
    let rest = one_longer C x now (number + 1) more word at in
    omega arith

same_last : (looks : List Look) (a b : Look) → looks ++ a ∷ [] ≡ looks ++ b ∷ [] → a ≡ b
same_last [] a b same = cc
same_last (first ∷ more) a b same =
    let rest : more ++ a ∷ [] ≡ more ++ b ∷ [] = cc in
    same_last more a b rest

-- the seat after a try that found a number free
abbrev free_at : (C : Type 0) → TableLayout → ReceiverView → ℕ → Sat C
free_at C x e number = (Tap x (receiver_tried e (passed_word x number) PASSED_ALL), [])

skips_none : (C : Type 0) (x : TableLayout) (e : ReceiverView) (found : List ℕ) (number : ℕ)
    → number ≡ e.me + 1 + length found
    → free_at C x e (e.me + 2)
    ≡ with_try (with_tries (Tap x e, []) (e.me + 1) found) (passed_word x number) PASSED_ALL
    → ⊥
skips_none C x e [] number next same =
    let looks = same_last e.tried _ _ (ap (λ (m : Sat C). tries_in m) same) in
    let words = ap (λ (it : Look). it.word) looks in
    omega arith
skips_none C x e (at ∷ more) number next same =
    let longer = ap (λ (m : Sat C). length (tries_in m)) same in
    let shown =
    one_longer C x e (e.me + 1) (at ∷ more) (passed_word x number) PASSED_ALL in
    let look : Look = record { word = passed_word x (e.me + 2); found = PASSED_ALL } in
    let one = length-append e.tried (look ∷ []) in
    omega arith

finds_free : (C : Type 0) (x : TableLayout) (e : ReceiverView) (found : List ℕ)
    → All (λ (at : ℕ). at ≢ PASSED_ALL) found
    → free_at C x e (e.me + 1) ≡ with_tries (Tap x e, []) (e.me + 1) found → ⊥
finds_free C x e [] others same =
    let longer = ap (λ (m : Sat C). length (tries_in m)) same in
    let look : Look = record { word = passed_word x (e.me + 1); found = PASSED_ALL } in
    let one = length-append e.tried (look ∷ []) in
    omega arith
finds_free C x e (at ∷ []) others same =
    let looks = same_last e.tried _ _ (ap (λ (m : Sat C). tries_in m) same) in
    others 0 0 (omega arith) (sym (ap (λ (it : Look). it.found) looks))
finds_free C x e (at ∷ next ∷ more) others same =
    let longer = ap (λ (m : Sat C). length (tries_in m)) same in
    let shown = tries_shown C x e (e.me + 1) (at ∷ next ∷ more) in
    let look : Look = record { word = passed_word x (e.me + 1); found = PASSED_ALL } in
    let one = length-append e.tried (look ∷ []) in
    omega arith

same_before : (looks : List Look) (a b c d : Look)
    → (looks ++ a ∷ []) ++ c ∷ [] ≡ (looks ++ b ∷ []) ++ d ∷ [] → a ≡ b
same_before [] a b c d same = cc
same_before (first ∷ more) a b c d same =
    let rest : (more ++ a ∷ []) ++ c ∷ [] ≡ (more ++ b ∷ []) ++ d ∷ [] = cc in
    same_before more a b c d rest

-- the seat after a try that found the next number free, and one more
abbrev past_free : (C : Type 0) → TableLayout → ReceiverView → ℕ → Sat C
past_free C x e found = (
  Tap x (receiver_tried (receiver_tried e (passed_word x (e.me + 1)) PASSED_ALL)
      (passed_word x (e.me + 2)) found),
  [],
)

two_longer : (e : ReceiverView) (a b : Look)
    → length ((e.tried ++ a ∷ []) ++ b ∷ []) ≡ length e.tried + 2
two_longer e a b =
    let one = length-append e.tried (a ∷ []) in
    let two = length-append (e.tried ++ a ∷ []) (b ∷ []) in
    omega arith

goes_on_none : (C : Type 0) (x : TableLayout) (e : ReceiverView) (found : List ℕ) (last number : ℕ)
    → All (λ (at : ℕ). at ≢ PASSED_ALL) found
    → past_free C x e last
    ≡ with_try (with_tries (Tap x e, []) (e.me + 1) found) (passed_word x number) PASSED_ALL
    → ⊥
goes_on_none C x e (at ∷ []) last number others same =
    let looks = same_before e.tried _ _ _ _ (ap (λ (m : Sat C). tries_in m) same) in
    others 0 0 (omega arith) (sym (ap (λ (it : Look). it.found) looks))
goes_on_none C x e [] last number others same =
    let longer = ap (λ (m : Sat C). length (tries_in m)) same in
    let shown = one_longer C x e (e.me + 1) [] (passed_word x number) PASSED_ALL in
    let first : Look = record { word = passed_word x (e.me + 1); found = PASSED_ALL } in
    let two = two_longer e first record { word = passed_word x (e.me + 2); found = last } in
    omega arith
goes_on_none C x e (at ∷ next ∷ more) last number others same =
    let longer = ap (λ (m : Sat C). length (tries_in m)) same in
    let shown =
    one_longer C x e (e.me + 1) (at ∷ next ∷ more) (passed_word x number) PASSED_ALL in
    let first : Look = record { word = passed_word x (e.me + 1); found = PASSED_ALL } in
    let two = two_longer e first record { word = passed_word x (e.me + 2); found = last } in
    omega arith

pub forks_refuse : (C : Type 0) (x : TableLayout) (e : ReceiverView) → 0 < x.passers
    → ForksRefuse C x e
forks_refuse C x e any = record {
  skips = λ n h. let r = h.ring any in
      skips_none C x e r.found r.number r.next
      (r.tries ∙ ap (λ m. with_try m (passed_word x r.number) PASSED_ALL) r.before.tries);
  untried = λ above h.
      let longer = ap (λ (m : Sat C). length (tries_in m)) h.tries.tries in
      let shown = tries_shown C x e (e.me + 1) h.found in
      let all = h.all in
      omega arith;
  free = λ h. finds_free C x e h.found h.tries.others h.tries.tries;
  short = λ found more h.
      let longer = ap (λ (m : Sat C). length (tries_in m)) h.tries.tries in
      let shown = tries_shown C x e (e.me + 1) h.found in
      let look : Look = record { word = passed_word x (e.me + 1); found = found } in
      let one = length-append e.tried (look ∷ []) in
      let all = h.all in
      omega arith;
  goes_on = λ n found h. let r = h.ring any in
      goes_on_none C x e r.found found r.number r.before.others
      (r.tries ∙ ap (λ m. with_try m (passed_word x r.number) PASSED_ALL) r.before.tries);
}
