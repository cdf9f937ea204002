-- What a turn of a receiver adds to the items that it was given.
use Rattle.std.proofs.Common.{◌≡◌, ℕ, ◌≤◌, Bool, true, false, inl, inr, List, [], ◌∷◌, ◌++◌, length}
use Rattle.std.proofs.Common.{flat_map, arith, refl, ap}
use Rattle.std.proofs.lemmas.Bool.{cases_lt}
use Rattle.std.proofs.lemmas.Bool.Decides.{eqb_tells}
use Rattle.std.proofs.lemmas.Grind.{flat_map-append, common_steps}
use Rattle.std.proofs.lemmas.List.{append-nil, length-append}
use Rattle.std.specs.Prelude.{◌⊎◌}
use Rattle.bus_batch.specs.declared.messages.Item.{Item}
use Rattle.bus_batch.specs.Frames.{Entry, Says, Leaves, items_in}
use Rattle.bus_deliverylog.specs.declared.receiving.RecvTurn.{RecvTurn}
use Rattle.bus_world.specs.Headline.{IsPrefix, entry_heard}
use Rattle.bus_pageslot.specs.Listening.{Hears, PassesNext}
use Rattle.bus_pageslot.specs.ReceiverViews.{ReceiverView}
use Rattle.bus_pageslot.specs.Rule.{Sat, receiver_view_in, known_in, with_receiver_view}
use Rattle.bus_pageslot.specs.Steps.{Learns}
use Rattle.bus_pageslot.specs.declared.rule.View.{View}
use Rattle.bus_pageslot.specs.declared.rule.View.TheVariants.{Maker, Sender, Tap, Meeting, Telling}
use Rattle.bus_pageslot.specs.declared.rule.View.TheVariants.{Spent}
use Rattle.bus_replica.specs.Replicas.{items_heard, has_view}
use Rattle.bus_replica.proofs.OrderLaws.{items_given}

-- ---- lists of items can be told apart, so what is not untrue of them is true
tells_list : {A : Type 0} → ((x y : A) → (x ≡ y) ⊎ (x ≡ y → ⊥)) → (xs ys : List A)
    → (xs ≡ ys) ⊎ (xs ≡ ys → ⊥)
tells_list d [] [] = inl refl
tells_list {A} d [] (y ∷ ys) = inr (λ e. let no : ◌≡◌ {A = List A} [] (y ∷ ys) = e in cc)
tells_list {A} d (x ∷ xs) [] = inr (λ e. let no : ◌≡◌ {A = List A} (x ∷ xs) [] = e in cc)
tells_list d (x ∷ xs) (y ∷ ys) = elim (d x y) [
  | inl same ↦ elim (tells_list d xs ys) [
    | inl rest ↦ inl (cc)
    | inr other ↦ inr (λ e. other (cc))
  ]
  | inr other ↦ inr (λ e. other (cc))
]

tells_number : (m n : ℕ) → (m ≡ n) ⊎ (m ≡ n → ⊥)
tells_number m n = elim (eqb_tells m n) [ inl i ↦ inl i.1 | inr i ↦ inr i.1 ]

tells_item : (x y : Item) → (x ≡ y) ⊎ (x ≡ y → ⊥)
tells_item x y = elim (tells_number x.sender.0 y.sender.0) [
  | inl sender ↦ elim (tells_number x.number y.number) [
    | inl number ↦ elim (tells_list tells_number x.message y.message) [
      | inl message ↦ grind (arith, common_steps)
      | inr other ↦ inr (λ e. other (ap (λ (z : Item). z.message) e))
    ]
    | inr other ↦ inr (λ e. other (ap (λ (z : Item). z.number) e))
  ]
  | inr other ↦ inr (λ e. other (ap (λ (z : Item). z.sender.0) e))
]

tells_entry : (x y : Entry) → (x ≡ y) ⊎ (x ≡ y → ⊥)
tells_entry (Says i) (Says j) = elim (tells_item i j) [
  | inl same ↦ inl (ap (λ z. Says z) same)
  | inr other ↦ inr (λ e. other (cc))
]
tells_entry (Says i) (Leaves t) = inr (λ e. let no : ◌≡◌ {A = Entry} (Says i) (Leaves t) = e in cc)
tells_entry (Leaves s) (Says j) = inr (λ e. let no : ◌≡◌ {A = Entry} (Leaves s) (Says j) = e in cc)
tells_entry (Leaves s) (Leaves t) = grind (arith, common_steps, tells_number)

stable_entries : (xs ys : List Entry) → ((xs ≡ ys → ⊥) → ⊥) → xs ≡ ys
stable_entries xs ys h = elim (tells_list tells_entry xs ys) [ inl e ↦ e | inr n ↦ absurd (h n) ]

stable_true : (b : Bool) → ((b ≡ true → ⊥) → ⊥) → b ≡ true
stable_true true h = refl
stable_true false h = absurd (h (λ e. let no : false ≡ true = e in cc))

stable_le : (m n : ℕ) → ((m ≤ n → ⊥) → ⊥) → m ≤ n
stable_le m n h = grind (arith, common_steps, cases_lt)

-- ---- what a seat shows once something of its receiver has changed
shows_new : {C : Type 0} (v : View C) (e : ReceiverView) → has_view v ≡ true
    → (receiver_view_in (with_receiver_view v e) ≡ e) × (has_view (with_receiver_view v e) ≡ true)
shows_new (Maker x made) e has = absurd (let no : false ≡ true = has in cc)
shows_new (Sender c t notes) e has = absurd (let no : false ≡ true = has in cc)
shows_new (Tap x old) e has = (refl, refl)
shows_new (Meeting x old y f) e has = (refl, refl)
shows_new (Telling c t notes x old) e has = (refl, refl)
shows_new Spent e has = absurd (let no : false ≡ true = has in cc)

-- the items and leave marks among what it was answered
abbrev pub entries_heard : {C : Type 0} → View C → List Entry
entries_heard v = flat_map entry_heard (receiver_view_in v).answers

-- what holds after a turn: what it found is one more, and all else is as before
pub record HasGrown {C : Type 0} (old : Sat C) (entries : List Entry) (new : Sat C) : Type 0 where
  pub entries_are : entries_heard new.0 ≡ entries_heard old.0 ++ entries
  pub heard : has_view new.0 ≡ true
  pub within : (receiver_view_in new.0).place ≤ length (known_in new.0)

-- one answer more
one_more : (e f : ReceiverView) (answer : RecvTurn) → f.answers ≡ e.answers ++ answer ∷ []
    → flat_map entry_heard f.answers ≡ flat_map entry_heard e.answers ++ entry_heard answer
one_more e f answer is = grind (arith, common_steps, flat_map, flat_map-append, append-nil)

-- so the items have grown by the items among it
pub items_grow : {C : Type 0} (old : Sat C) (entries : List Entry) (new : Sat C)
    → HasGrown old entries new → items_heard new.0 ≡ items_heard old.0 ++ items_in entries
items_grow old entries new g = grind (arith, common_steps, items_given, flat_map-append)

-- a step that left this receiver
left_by : {C : Type 0} (old new : Sat C) (f : ReceiverView) (entries : List Entry)
    → has_view old.0 ≡ true → new ≡ (with_receiver_view old.0 f, old.1)
    → flat_map entry_heard f.answers ≡ entries_heard old.0 ++ entries
    → f.place ≤ length f.known → HasGrown old entries new
left_by {C} old new f entries has is grown within =
    grind (arith, common_steps, shows_new, flat_map, length)

longer : {A : Type 0} (xs ys : List A) → IsPrefix xs ys → length xs ≤ length ys
longer xs ys h =
    let all = length-append xs h.rest in let same = ap length h.together in omega arith

-- ---- one turn
module _ {C : Type 0} (old : Sat C) (answer : RecvTurn) (new : Sat C) (has : has_view old.0 ≡ true)
    (within : (receiver_view_in old.0).place ≤ length (known_in old.0))
    (h : Hears old answer new) where
  at_end : (receiver_view_in old.0).ended ≡ true → HasGrown old (entry_heard answer) new
  at_end over = grind (arith, common_steps, append-nil, length)

  at_pass : (receiver_view_in old.0).ended ≡ false → PassesNext old.0
      → HasGrown old (entry_heard answer) new
  at_pass going due = grind (arith, common_steps, left_by, one_more)

  not_at_pass : (receiver_view_in old.0).ended ≡ false → (PassesNext old.0 → ⊥)
      → HasGrown old (entry_heard answer) new
  not_at_pass going not_due =
      grind (arith, common_steps, cases_lt, length, left_by, one_more, longer)

  -- whether its passed place is due is told apart by no more than this
  either : {A : Type 0} → (((A → ⊥) → ⊥) → A) → (HasGrown old (entry_heard answer) new → A) → A
  either {A} stable part = elim_ended (receiver_view_in old.0).ended refl
    where
      elim_ended : (b : Bool) → (receiver_view_in old.0).ended ≡ b → A
      elim_ended true over = part (at_end over)
      elim_ended false going = stable (λ n.
          n (part (not_at_pass going (λ due. n (part (at_pass going due))))))

  pub hears_grows : HasGrown old (entry_heard answer) new
  hears_grows = record {
    entries_are =
        either (stable_entries (entries_heard new.0) (entries_heard old.0 ++ entry_heard answer))
        (λ g. g.entries_are);
    heard = either (stable_true (has_view new.0)) (λ g. g.heard);
    within = grind (arith, common_steps, either, stable_le, length);
  }

-- ---- a load of the length, out of turn
pub learns_grows : {C : Type 0} (old : Sat C) (got : ℕ) (new : Sat C) → has_view old.0 ≡ true
    → (receiver_view_in old.0).place ≤ length (known_in old.0) → Learns old got new
    → HasGrown old [] new
learns_grows old got new has within h =
    grind (arith, common_steps, longer, left_by, append-nil, flat_map)

-- it knows as many words as it has found
pub learns_length : {C : Type 0} (old : Sat C) (got : ℕ) (new : Sat C) → has_view old.0 ≡ true
    → Learns old got new → length (known_in new.0) ≡ got
learns_length {C} old got new has h = grind (arith, common_steps, shows_new, length)
