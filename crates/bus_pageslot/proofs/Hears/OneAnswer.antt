-- Each turn of a receiver adds one answer.
use Rattle.std.proofs.Common.{◌≡◌, ◌⊎◌, inl, inr, ℕ, ◌<◌, ◌≤◌, Bool, true, false, Option, List}
use Rattle.std.proofs.Common.{[], ◌∷◌, ◌++◌, drop, length, take, arith, refl, sym, ◌∙◌, ap, subst}
use Rattle.std.specs.Prelude.{if◌then◌else◌, ◌==◌}
use Rattle.std.proofs.lemmas.Bool.{cases_lt}
use Rattle.std.proofs.lemmas.Bool.Decides.{eqb_tells}
use Rattle.std.proofs.lemmas.List.{length-append, take_all, take-append-drop}
use Rattle.std.proofs.lemmas.List.{take-append-le}
use Rattle.std.proofs.lemmas.Grind.{common_steps}
use Rattle.bus_deliverylog.specs.declared.receiving.RecvTurn.{RecvTurn}
use Rattle.bus_deliverylog.specs.declared.receiving.RecvTurn.TheVariants as turn
use Rattle.bus_register.specs.declared.registers.SenderNo.{SenderNo}
use Rattle.bus_tenure.specs.declared.pages.Page.{Page}
use Rattle.bus_world.specs.Headline.{IsPrefix, end_heard}
use Rattle.bus_world.proofs.Growing.{nothing_more}
use Rattle.bus_world.proofs.HearTrails.{end_told}
use Rattle.bus_automaton.specs.Processes.{TableLayout, no_table_layout}
use Rattle.bus_pageslot.specs.Listening.{Hears, PassIsDue}
use Rattle.bus_pageslot.specs.OneAnswer.{AddsAnswer}
use Rattle.bus_pageslot.specs.ReceiverViews.{ReceiverView, length_turn}
use Rattle.bus_pageslot.specs.Rule.{Sat, receiver_view_in, table_layout_in}
use Rattle.bus_pageslot.specs.declared.rule.View.{View}
use Rattle.bus_pageslot.specs.declared.rule.View.TheVariants.{Maker, Sender, Tap, Meeting, Telling}
use Rattle.bus_pageslot.specs.declared.rule.View.TheVariants.{Spent}

-- ---- what can be told apart is the same where it is not untrue that it is
abbrev Apart : {A : Type 0} → A → A → Type 0
Apart x y = (x ≡ y) ⊎ (x ≡ y → ⊥)

stable : {A : Type 0} {x y : A} → Apart x y → ((x ≡ y → ⊥) → ⊥) → x ≡ y
stable (inl same) h = same
stable (inr other) h = absurd (h other)

numbers : (m n : ℕ) → Apart m n
numbers m n = elim (eqb_tells m n) [ inl i ↦ inl i.1 | inr i ↦ inr i.1 ]

truths : (a b : Bool) → Apart a b
truths true true = inl refl
truths false false = inl refl
truths true false = inr (λ e. let no : true ≡ false = e in cc)
truths false true = inr (λ e. let no : false ≡ true = e in cc)

lists : {A : Type 0} → ((x y : A) → Apart x y) → (xs ys : List A) → Apart xs ys
lists d [] [] = inl refl
lists {A} d [] (y ∷ ys) = inr (λ e. let no : ◌≡◌ {A = List A} [] (y ∷ ys) = e in cc)
lists {A} d (x ∷ xs) [] = inr (λ e. let no : ◌≡◌ {A = List A} (x ∷ xs) [] = e in cc)
lists d (x ∷ xs) (y ∷ ys) = elim (d x y) [
  | inl same ↦ elim (lists d xs ys) [
    | inl rest ↦ inl (cc)
    | inr other ↦ inr (λ e. other (cc))
  ]
  | inr other ↦ inr (λ e. other (cc))
]

-- what is spelled in such a way that it can be read back
by_code : {A : Type 0} (code : A → List (List ℕ)) (read : List (List ℕ) → A)
    → ((x : A) → read (code x) ≡ x) → (x y : A) → Apart x y
by_code code read back x y = elim (lists (lists numbers) (code x) (code y)) [
  | inl same ↦ inl (sym (back x) ∙ ap read same ∙ back y)
  | inr other ↦ inr (λ e. other (ap code e))
]

abbrev sender_no : ℕ → SenderNo
sender_no n = record { 0 = n }

abbrev spelled : RecvTurn → List (List ℕ)
spelled turn.Going = []
spelled turn.Empty = [] ∷ []
spelled (turn.Head tenure owner) = (tenure ∷ owner.0 ∷ []) ∷ []
spelled (turn.Item item) = (item.sender.0 ∷ item.number ∷ item.message) ∷ [] ∷ []
spelled (turn.Leave sender) = (sender.0 ∷ []) ∷ []
spelled turn.End = [] ∷ [] ∷ []

abbrev read : List (List ℕ) → RecvTurn
read [] = turn.Going
read ([] ∷ []) = turn.Empty
read ([] ∷ (y ∷ ys)) = turn.End
read ((a ∷ []) ∷ ys) = turn.Leave (sender_no a)
read ((a ∷ (b ∷ c)) ∷ []) = turn.Head a (sender_no b)
read ((a ∷ (b ∷ c)) ∷ (y ∷ ys)) =
    turn.Item record { sender = sender_no a; number = b; message = c }

read_back : (a : RecvTurn) → read (spelled a) ≡ a
read_back turn.Going = refl
read_back turn.Empty = refl
read_back (turn.Head tenure owner) = refl
read_back (turn.Item item) = refl
read_back (turn.Leave sender) = refl
read_back turn.End = refl

answers_apart : (a b : RecvTurn) → Apart a b
answers_apart = by_code spelled read read_back

abbrev layout_code : TableLayout → List (List ℕ)
layout_code x =
    (x.senders ∷ x.words ∷ x.log ∷ x.capacity ∷ x.passed ∷ x.passers ∷ x.batch ∷ []) ∷ []

abbrev layout_numbers : List ℕ → TableLayout
layout_numbers (a ∷ (b ∷ (c ∷ (d ∷ (p ∷ (q ∷ (m ∷ more))))))) = record {
  senders = a;
  words = b;
  log = c;
  capacity = d;
  passed = p;
  passers = q;
  batch = m;
}
layout_numbers ws = no_table_layout

abbrev layout_read : List (List ℕ) → TableLayout
layout_read [] = no_table_layout
layout_read (ws ∷ more) = layout_numbers ws

layouts_apart : (x y : TableLayout) → Apart x y
layouts_apart = by_code layout_code layout_read (λ x. refl)

-- ---- a list that begins another
begins : (xs ys : List ℕ) → IsPrefix xs ys → take (length xs) ys ≡ xs
begins xs ys h = grind (arith, common_steps, take, length, take-append-le, take_all)

stable_prefix : (xs ys : List ℕ) → ((IsPrefix xs ys → ⊥) → ⊥) → IsPrefix xs ys
stable_prefix xs ys h =
    let same : take (length xs) ys ≡ xs =
    stable (lists numbers (take (length xs) ys) xs) (λ n. h (λ is. n (begins xs ys is))) in
    record {
      rest = drop (length xs) ys;
      together =
          ap (λ z. z ++ drop (length xs) ys) (sym same) ∙ take-append-drop (length xs) ys;
    }

stable_le : (m n : ℕ) → ((m ≤ n → ⊥) → ⊥) → m ≤ n
stable_le m n h = grind (arith, common_steps, cases_lt)

stable_adds : (e f : ReceiverView) (answer : RecvTurn) → ((AddsAnswer e answer f → ⊥) → ⊥)
    → AddsAnswer e answer f
stable_adds e f answer h = record {
  answers = stable (lists answers_apart f.answers (e.answers ++ answer ∷ []))
      (λ n. h (λ a. n a.answers));
  known = stable_prefix e.known f.known (λ n. h (λ a. n a.known));
  place = stable_le e.place f.place (λ n. h (λ a. n a.place));
  within = stable_le f.place (length f.known) (λ n. h (λ a. n a.within));
  ended = stable (truths f.ended (end_heard answer)) (λ n. h (λ a. n a.ended));
  me = stable (numbers f.me e.me) (λ n. h (λ a. n a.me));
  gone = stable (truths f.gone e.gone) (λ n. h (λ a. n a.gone));
}

-- ---- a seat that shows a receiver of this bus
abbrev IsTapOf : {C : Type 0} → TableLayout → Sat C → Type 0
IsTapOf x m = (f : ReceiverView) × (m ≡ (Tap x f, []))

abbrev is_tap : {C : Type 0} → View C → Bool
is_tap (Maker x made) = false
is_tap (Sender c t stored) = false
is_tap (Tap x e) = true
is_tap (Meeting x e y f) = false
is_tap (Telling c t stored x e) = false
is_tap Spent = false

module _ {C : Type 0} (x : TableLayout) where
  other_view : (v : View C) (carried : List (ℕ × Option Page)) → is_tap v ≡ false
      → ((IsTapOf x (v, carried) → ⊥) → ⊥) → ⊥
  other_view v carried none h =
      h (λ k. let no : false ≡ true = sym none ∙ ap (λ (y : Sat C). is_tap y.0) k.1 in cc)

  stable_tap : (v : View C) (carried : List (ℕ × Option Page))
      → ((IsTapOf x (v, carried) → ⊥) → ⊥) → IsTapOf x (v, carried)
  stable_tap (Maker y made) carried h = absurd (other_view (Maker y made) carried refl h)
  stable_tap (Sender c t stored) carried h =
      absurd (other_view (Sender c t stored) carried refl h)
  stable_tap (Tap y f) [] h =
      let same : y ≡ x =
      stable (layouts_apart y x) (λ n. h (λ k. n (ap (λ (z : Sat C). table_layout_in z.0) k.1))) in
      (f, λ i. (Tap (same i) f, []))
  stable_tap (Tap y f) (out ∷ more) h = grind (arith, common_steps)
  stable_tap (Meeting y e z f) carried h = absurd (other_view (Meeting y e z f) carried refl h)
  stable_tap (Telling c t stored y e) carried h =
      absurd (other_view (Telling c t stored y e) carried refl h)
  stable_tap Spent carried h = absurd (other_view Spent carried refl h)

longer : {A : Type 0} (xs ys : List A) → IsPrefix xs ys → length xs ≤ length ys
longer xs ys h =
    let all = length-append xs h.rest in let same = ap length h.together in omega arith

quiet_if : (b : Bool) → end_heard (if b then turn.Empty else turn.Going) ≡ false
quiet_if true = refl
quiet_if false = refl

quiet_length : (place got : ℕ) → end_heard (length_turn place got) ≡ false
quiet_length place got = quiet_if (got == place)

-- ---- one turn
module _ {C : Type 0} (x : TableLayout) (e : ReceiverView) (answer : RecvTurn) (m : Sat C)
    (going : e.ended ≡ false) (within : e.place ≤ length e.known)
    (h : Hears (Tap x e, []) answer m) where
  abbrev Added : Type 0
  Added = (f : ReceiverView) × (m ≡ (Tap x f, [])) × AddsAnswer e answer f

  at_pass : PassIsDue x e → Added
  at_pass due = grind (arith, common_steps, nothing_more)

  at_word : (PassIsDue x e → ⊥) → e.place < length e.known → Added
  at_word not_due low = grind (arith, common_steps, nothing_more, end_told)

  at_length : (PassIsDue x e → ⊥) → e.place ≡ length e.known → Added
  at_length not_due all = grind (arith, common_steps, longer, quiet_length)

  not_at_pass : (PassIsDue x e → ⊥) → Added
  not_at_pass not_due = grind (arith, common_steps, cases_lt, length, at_word, at_length)

  -- whether its passed place is due is not told apart, so this is not untrue at first
  not_untrue : (Added → ⊥) → ⊥
  not_untrue n = n (not_at_pass (λ due. n (at_pass due)))

  pub hears_adds : Added
  hears_adds =
      let tap = stable_tap x m.0 m.1 (λ n. not_untrue (λ a. n (a.0, a.1))) in (
        tap.0,
        tap.1,
        stable_adds e tap.0 answer (λ n. not_untrue (λ a.
            n (subst (AddsAnswer e answer)
            (ap (λ (y : Sat C). receiver_view_in y.0) (sym a.1 ∙ tap.1)) a.2))),
      )
