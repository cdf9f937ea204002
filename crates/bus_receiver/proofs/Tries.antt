-- A receiver that forks tries one number after another.
use Rattle.std.proofs.Common.{◌≡◌, ◌≢◌, ℕ, ◌+◌, ◌<◌, true, false, List, [], ◌∷◌, ◌++◌, length, refl}
use Rattle.std.proofs.Common.{sym, ◌∙◌, ap, subst, arith, length-append}
use Rattle.std.proofs.lemmas.List.Elements.{All-nil, All-push}
use Rattle.bus_register.specs.declared.limits.TheConstants.{PASSED_ALL}
use Rattle.bus_automaton.specs.Processes.{TableLayout, passed_word}
use Rattle.bus_pageslot.specs.declared.rule.View.TheVariants.{Maker, Sender, Tap, Meeting, Telling}
use Rattle.bus_pageslot.specs.declared.rule.View.TheVariants.{Spent}
use Rattle.bus_pageslot.specs.Rule.{Sat, table_layout_in}
use Rattle.bus_pageslot.specs.Steps.{HasTried, HasTriedBy, IsForkOf}
use Rattle.bus_receiver.specs.Forking.{FindsTaken, HasForked, number_in, with_try, with_tries}

layout_kept : {C : Type 0} (m : Sat C) (word found : ℕ)
    → table_layout_in (with_try m word found).0 ≡ table_layout_in m.0
layout_kept (Maker x made, w) word found = refl
layout_kept (Sender c sender_trail notes, w) word found = refl
layout_kept (Tap x e, w) word found = refl
layout_kept (Meeting x e y f, w) word found = refl
layout_kept (Telling c sender_trail notes x e, w) word found = refl
layout_kept (Spent, w) word found = refl

number_kept : {C : Type 0} (m : Sat C) (word found : ℕ)
    → number_in (with_try m word found) ≡ number_in m
number_kept (Maker x made, w) word found = refl
number_kept (Sender c sender_trail notes, w) word found = refl
number_kept (Tap x e, w) word found = refl
number_kept (Meeting x e y f, w) word found = refl
number_kept (Telling c sender_trail notes x e, w) word found = refl
number_kept (Spent, w) word found = refl

pub same_layout : {C : Type 0} (m : Sat C) (number : ℕ) (found : List ℕ)
    → table_layout_in (with_tries m number found).0 ≡ table_layout_in m.0
same_layout m number [] = refl
same_layout m number (at ∷ more) =
    let word = passed_word (table_layout_in m.0) number in
    same_layout (with_try m word at) (number + 1) more ∙ layout_kept m word at

pub same_number : {C : Type 0} (m : Sat C) (number : ℕ) (found : List ℕ)
    → number_in (with_tries m number found) ≡ number_in m
same_number m number [] = refl
same_number m number (at ∷ more) =
    let word = passed_word (table_layout_in m.0) number in
    same_number (with_try m word at) (number + 1) more ∙ number_kept m word at

-- one try more
one_more : {C : Type 0} (m : Sat C) (number : ℕ) (found : List ℕ) (at : ℕ)
    → with_tries m number (found ++ at ∷ [])
    ≡ with_try (with_tries m number found)
    (passed_word (table_layout_in (with_tries m number found).0) (number + length found)) at
one_more m number [] at =
    let same : number ≡ number + 0 = omega arith in
    ap (λ n. with_try m (passed_word (table_layout_in m.0) n) at) same
one_more m number (first ∷ more) at =
    let now = with_try m (passed_word (table_layout_in m.0) number) first in
    let same : number + 1 + length more ≡ number + length (first ∷ more) = omega arith in
    let last = with_tries now (number + 1) more in
    one_more now (number + 1) more at
    ∙ ap (λ n. with_try last (passed_word (table_layout_in last.0) n) at) same

pub finds_none : {C : Type 0} (m : Sat C) → FindsTaken m [] m
finds_none m = record { others = All-nil (λ (at : ℕ). at ≢ PASSED_ALL); tries = refl }

-- what stays as it was
pub found_layout : {C : Type 0} (m : Sat C) (found : List ℕ) (old : Sat C)
    → FindsTaken m found old → table_layout_in old.0 ≡ table_layout_in m.0
found_layout m found old h =
    ap (λ z. table_layout_in z.0) h.tries ∙ same_layout m (number_in m + 1) found

pub found_number : {C : Type 0} (m : Sat C) (found : List ℕ) (old : Sat C)
    → FindsTaken m found old → number_in old ≡ number_in m
found_number m found old h = ap (λ z. number_in z) h.tries ∙ same_number m (number_in m + 1) found

pub finds_one_more : {C : Type 0} (m : Sat C) (found : List ℕ) (old : Sat C) (number : ℕ)
    (m' : Sat C) → FindsTaken m found old → 0 < (table_layout_in m.0).passers
    → number ≡ number_in m + 1 + length found
    → HasTriedBy old number false m' → (more : List ℕ) × (length more ≡ length found + 1)
    × FindsTaken m more m'
finds_one_more m found old number m' h any next tries =
    let any_old : 0 < (table_layout_in old.0).passers =
    subst (λ (x : TableLayout). 0 < x.passers) (sym (found_layout m found old h)) any in
    let tried = tries.ring any_old in
    let at = tried.0 in
    let other : at ≢ PASSED_ALL = λ is. absurd (let no : false ≡ true = tried.1.1 is in cc) in (
      found ++ at ∷ [],
      length-append found (at ∷ []),
      record {
        others = All-push (λ (it : ℕ). it ≢ PASSED_ALL) found at h.others other;
        tries = tried.2
            ∙ ap (λ z. with_try z (passed_word (table_layout_in z.0) number) at) h.tries
            ∙ ap (λ n. with_try (with_tries m (number_in m + 1) found)
            (passed_word (table_layout_in (with_tries m (number_in m + 1) found).0) n) at) next
            ∙ sym (one_more m (number_in m + 1) found at);
      },
    )

pub forks_then : {C : Type 0} (m : Sat C) (found : List ℕ) (old : Sat C) (number : ℕ) (n m' : Sat C)
    → FindsTaken m found old → 0 < (table_layout_in m.0).passers
    → number ≡ number_in m + 1 + length found → number < (table_layout_in m.0).passers
    → HasTriedBy old number true m' → IsForkOf old number n → HasForked m n m'
forks_then m found old number n m' h any next within tries made = record {
  ring = λ _.
      let any_old : 0 < (table_layout_in old.0).passers =
      subst (λ (x : TableLayout). 0 < x.passers) (sym (found_layout m found old h)) any in
      let tried = tries.ring any_old in
      record {
        found = found;
        old = old;
        before = h;
        number = number;
        next = next;
        within = within;
        tries = subst (λ (x : TableLayout). HasTried old (passed_word x number) PASSED_ALL m')
            (found_layout m found old h)
            (subst (λ at. HasTried old (passed_word (table_layout_in old.0) number) at m')
            (tried.1.0 refl) tried.2);
        made = made;
      };
  flat = λ none. absurd (omega arith);
}
