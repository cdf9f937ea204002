-- Reading the steps of a line one by one.
use Rattle.std.proofs.Common.{◌≡◌, ℕ, ◌<◌, ◌≤◌, Bool, true, false, ltb, leb, not, ◌&&◌, List, []}
use Rattle.std.proofs.Common.{◌∷◌, ◌++◌, length, Some, sym, ap, ◌∙◌, append_assoc, arith}
use Rattle.std.specs.List.{list_all}
use Rattle.std.proofs.lemmas.Bool.{le-leb, lt-ltb, le-ltb}
use Rattle.std.proofs.lemmas.List.{length-append}
use Rattle.std.proofs.lemmas.List.Folds.{list_all-append}
use Rattle.std.proofs.Math.Bool.{and-false, and-true}
use Rattle.bus_script.specs.Grammar.{number_of, each_of, and_before}
use Rattle.bus_script.proofs.EachLaws.{behind, behind_one_more}

-- The steps of a line, as far as its words were looked at: all of them, those that are left,
-- whether there was none yet, whether all have a process, and the schedule before the line and now.
pub record TakesSteps (n : ℕ) (words left : List (List ℕ)) (is_empty are_known : Bool)
    (old new : List ℕ) : Type 0 where
  pub steps : List ℕ
  pub said : behind steps (each_of number_of left) ≡ each_of number_of words
  pub none : is_empty ≡ not (leb 1 (length steps))
  pub known : are_known ≡ list_all (λ p. ltb p n) steps
  pub taken : are_known ≡ true → new ≡ old ++ steps

some_now : (steps : List ℕ) (p : ℕ) → leb 1 (length (steps ++ p ∷ [])) ≡ true
some_now steps p = le-leb 1 (length (steps ++ p ∷ [])) (omega (arith, length-append steps (p ∷ [])))

all_and : (n : ℕ) (steps : List ℕ) (p : ℕ)
    → list_all (λ q. ltb q n) (steps ++ p ∷ []) ≡ list_all (λ q. ltb q n) steps && ltb p n
all_and n steps p =
    list_all-append (λ q. ltb q n) steps (p ∷ [])
    ∙ ap (λ b. list_all (λ q. ltb q n) steps && b) (and-true (ltb p n))

-- a step of a process
pub TakesSteps-one : (n p : ℕ) (words left : List (List ℕ)) (word : List ℕ)
    (is_empty are_known : Bool) (old new newer : List ℕ)
    → TakesSteps n words (word ∷ left) is_empty are_known old new → number_of word ≡ Some p → p < n
    → newer ≡ new ++ p ∷ []
    → TakesSteps n words left false are_known old newer
TakesSteps-one n p words left word is_empty are_known old new newer h number lt e = record {
  steps = h.steps ++ p ∷ [];
  said =
      behind_one_more h.steps p (each_of number_of left)
      ∙ ap (λ o. behind h.steps (and_before o (each_of number_of left))) (sym number) ∙ h.said;
  none = ap not (sym (some_now h.steps p));
  known =
      h.known ∙ sym (and-true _)
      ∙ ap (λ b. list_all (λ q. ltb q n) h.steps && b) (sym (lt-ltb p n lt))
      ∙ sym (all_and n h.steps p);
  taken = λ k. e ∙ ap (λ (l : List ℕ). l ++ p ∷ []) (h.taken k) ∙ append_assoc old h.steps (p ∷ []);
}

-- a number that has no process
pub TakesSteps-stranger : (n p : ℕ) (words left : List (List ℕ)) (word : List ℕ)
    (is_empty are_known : Bool) (old new : List ℕ)
    → TakesSteps n words (word ∷ left) is_empty are_known old new → number_of word ≡ Some p → n ≤ p
    → TakesSteps n words left false false old new
TakesSteps-stranger n p words left word is_empty are_known old new h number le = record {
  steps = h.steps ++ p ∷ [];
  said =
      behind_one_more h.steps p (each_of number_of left)
      ∙ ap (λ o. behind h.steps (and_before o (each_of number_of left))) (sym number) ∙ h.said;
  none = ap not (sym (some_now h.steps p));
  known =
      sym (and-false (list_all (λ q. ltb q n) h.steps))
      ∙ ap (λ b. list_all (λ q. ltb q n) h.steps && b) (sym (le-ltb p n le))
      ∙ sym (all_and n h.steps p);
  taken = λ k. absurd cc;
}
