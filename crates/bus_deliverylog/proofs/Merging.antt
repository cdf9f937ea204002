-- What is noted at the end joins the one list at its end.
use Rattle.std.proofs.Common.{◌≡◌, ℕ, zero, suc, ◌+◌, ◌-◌, ◌≤◌, List, [], ◌∷◌, ◌++◌, length, take}
use Rattle.std.proofs.Common.{drop, arith, refl, sym, ◌∙◌, ap, subst, append_assoc}
use Rattle.std.specs.Prelude.{map, min, Some, slice_get}
use Rattle.std.proofs.lemmas.Option.{same_Some}
use Rattle.std.proofs.lemmas.List.{length-append, length-drop, length-take}
use Rattle.std.proofs.lemmas.List.{take-append-drop, take_all}
use Rattle.std.proofs.lemmas.List.Concat.{flat_map-append}
use Rattle.bus_register.specs.declared.registers.SenderNo.{SenderNo}
use Rattle.bus_batch.specs.declared.messages.Item.{Item}
use Rattle.bus_batch.specs.Frames.{Entry, Says, Leaves, item_in, items_in}
use Rattle.bus_deliverylog.specs.Orders.{merged_from, merged, AreMarks}

take_in : (n : ℕ) (xs ys : List Item) → n ≤ length xs → take n (xs ++ ys) ≡ take n xs
take_in zero xs ys l = refl
take_in (suc n) [] ys l = absurd (omega arith)
take_in (suc n) (x ∷ xs) ys l = ap (λ z. x ∷ z) (take_in n xs ys (omega arith))

drop_in : (n : ℕ) (xs ys : List Item) → n ≤ length xs → drop n (xs ++ ys) ≡ drop n xs ++ ys
drop_in zero xs ys l = refl
drop_in (suc n) [] ys l = absurd (omega arith)
drop_in (suc n) (x ∷ xs) ys l = drop_in n xs ys (omega arith)

drop_whole : (n : ℕ) (xs : List Item) → n ≡ length xs → drop n xs ≡ []
drop_whole zero [] e = refl
drop_whole zero (x ∷ xs) e = absurd (omega arith)
drop_whole (suc n) [] e = refl
drop_whole (suc n) (x ∷ xs) e = drop_whole n xs (omega arith)

says_more : (xs ys : List Item) → map Says (xs ++ ys) ≡ map Says xs ++ map Says ys
says_more [] ys = refl
says_more (x ∷ xs) ys = ap (λ z. Says x ∷ z) (says_more xs ys)

item_joins_from : (before : ℕ) (items : List Item) (marks : List (SenderNo × ℕ)) (i : Item)
    → AreMarks before (before + length items) marks
    → merged_from before (items ++ i ∷ []) marks ≡ merged_from before items marks ++ Says i ∷ []
item_joins_from before items [] i a = says_more items (i ∷ [])
item_joins_from before items (m ∷ marks) i a =
    let within : m.1 - before ≤ length items = let low = a.0 in let high = a.1 in omega arith in
    let size = length-drop (m.1 - before) items in
    let last : m.1 + length (drop (m.1 - before) items) ≡ before + length items =
    let low = a.0 in let high = a.1 in omega arith in
    ap
    (λ z. map Says z ++ Leaves m.0 ∷ merged_from m.1 (drop (m.1 - before) (items ++ i ∷ [])) marks)
    (take_in (m.1 - before) items (i ∷ []) within)
    ∙ ap (λ z. map Says (take (m.1 - before) items) ++ Leaves m.0 ∷ merged_from m.1 z marks)
    (drop_in (m.1 - before) items (i ∷ []) within)
    ∙ ap (λ z. map Says (take (m.1 - before) items) ++ Leaves m.0 ∷ z)
    (item_joins_from m.1 (drop (m.1 - before) items) marks i
    (subst (λ z. AreMarks m.1 z marks) (sym last) a.2))
    ∙ sym (append_assoc (map Says (take (m.1 - before) items))
    (Leaves m.0 ∷ merged_from m.1 (drop (m.1 - before) items) marks) (Says i ∷ []))

mark_joins_from : (before last : ℕ) (items : List Item) (marks : List (SenderNo × ℕ)) (s : SenderNo)
    → last ≡ before + length items
    → AreMarks before last marks
    → merged_from before items (marks ++ (s, last) ∷ [])
    ≡ merged_from before items marks ++ Leaves s ∷ []
mark_joins_from before last items [] s is a =
    ap (λ z. map Says z ++ Leaves s ∷ map Says (drop (last - before) items))
    (take_all (last - before) items (omega arith))
    ∙ ap (λ z. map Says items ++ Leaves s ∷ map Says z)
    (drop_whole (last - before) items (omega arith))
mark_joins_from before last items (m ∷ marks) s is a =
    let size = length-drop (m.1 - before) items in
    let later : last ≡ m.1 + length (drop (m.1 - before) items) =
    let low = a.0 in let high = a.1 in omega arith in
    ap (λ z. map Says (take (m.1 - before) items) ++ Leaves m.0 ∷ z)
    (mark_joins_from m.1 last (drop (m.1 - before) items) marks s later a.2)
    ∙ sym (append_assoc (map Says (take (m.1 - before) items))
    (Leaves m.0 ∷ merged_from m.1 (drop (m.1 - before) items) marks) (Leaves s ∷ []))

says_are : (items : List Item) → items_in (map Says items) ≡ items
says_are [] = refl
says_are (i ∷ items) = ap (λ z. i ∷ z) (says_are items)

items_are_from : (before : ℕ) (items : List Item) (marks : List (SenderNo × ℕ))
    → items_in (merged_from before items marks) ≡ items
items_are_from before items [] = says_are items
items_are_from before items (m ∷ marks) =
    flat_map-append item_in (map Says (take (m.1 - before) items))
    (Leaves m.0 ∷ merged_from m.1 (drop (m.1 - before) items) marks)
    ∙ ap (λ z. z ++ items_in (merged_from m.1 (drop (m.1 - before) items) marks))
    (says_are (take (m.1 - before) items))
    ∙ ap (λ z. take (m.1 - before) items ++ z)
    (items_are_from m.1 (drop (m.1 - before) items) marks)
    ∙ take-append-drop (m.1 - before) items

pub item_joins : (items : List Item) (marks : List (SenderNo × ℕ)) (i : Item)
    → AreMarks 0 (length items) marks
    → merged (items ++ i ∷ []) marks ≡ merged items marks ++ Says i ∷ []
item_joins items marks i a = item_joins_from 0 items marks i
    (subst (λ z. AreMarks 0 z marks) (let e : length items ≡ 0 + length items = omega arith in e) a)

pub mark_joins : (items : List Item) (marks : List (SenderNo × ℕ)) (s : SenderNo)
    → AreMarks 0 (length items) marks
    → merged items (marks ++ (s, length items) ∷ []) ≡ merged items marks ++ Leaves s ∷ []
mark_joins items marks s a = mark_joins_from 0 (length items) items marks s (omega arith) a

pub items_are : (items : List Item) (marks : List (SenderNo × ℕ))
    → items_in (merged items marks) ≡ items
items_are items marks = items_are_from 0 items marks

-- ---- the places of marks

-- each mark stands behind as many items as it says, of which so many stand before
stand_from : (before : ℕ) (items : List Item) (marks : List (SenderNo × ℕ)) (k : ℕ) (s : SenderNo)
    (place : ℕ)
    → AreMarks before (before + length items) marks
    → slice_get marks k ≡ Some (s, place)
    → (front : List Entry) × (rest : List Entry)
    × (merged_from before items marks ≡ front ++ Leaves s ∷ rest)
    × (before + length (items_in front) ≡ place)
stand_from before items [] k s place a at = absurd (cc)
stand_from before items (m ∷ marks) zero s place a at =
    let is : m ≡ (s, place) = same_Some m (s, place) at in
    let low = a.0 in let high = a.1 in
    let size : length (take (m.1 - before) items) ≡ min (m.1 - before) (length items) =
    length-take (m.1 - before) items in
    let said : length (items_in (map Says (take (m.1 - before) items)))
    ≡ length (take (m.1 - before) items) =
    ap (λ (z : List Item). length z) (says_are (take (m.1 - before) items)) in
    let there : m.1 ≡ place = ap (λ (z : SenderNo × ℕ). z.1) is in (
      map Says (take (m.1 - before) items),
      merged_from m.1 (drop (m.1 - before) items) marks,
      ap (λ (z : SenderNo × ℕ).
          map Says (take (m.1 - before) items)
          ++ Leaves z.0 ∷ merged_from m.1 (drop (m.1 - before) items) marks) is,
      omega arith,
    )
stand_from before items (m ∷ marks) (suc k) s place a at =
    let low = a.0 in let high = a.1 in
    let left = length-drop (m.1 - before) items in
    let last : before + length items ≡ m.1 + length (drop (m.1 - before) items) = omega arith in
    let r = stand_from m.1 (drop (m.1 - before) items) marks k s place
    (subst (λ z. AreMarks m.1 z marks) last a.2) at in
    let size : length (take (m.1 - before) items) ≡ min (m.1 - before) (length items) =
    length-take (m.1 - before) items in
    let said : length (items_in (map Says (take (m.1 - before) items)))
    ≡ length (take (m.1 - before) items) =
    ap (λ (z : List Item). length z) (says_are (take (m.1 - before) items)) in
    let parted : items_in (map Says (take (m.1 - before) items) ++ Leaves m.0 ∷ r.0)
    ≡ items_in (map Says (take (m.1 - before) items)) ++ items_in r.0 =
    flat_map-append item_in (map Says (take (m.1 - before) items)) (Leaves m.0 ∷ r.0) in
    let long =
    ap (λ (z : List Item). length z) parted
    ∙ length-append (items_in (map Says (take (m.1 - before) items))) (items_in r.0) in
    let rest_is = r.3 in (
      map Says (take (m.1 - before) items) ++ Leaves m.0 ∷ r.0,
      r.1,
      ap (λ z. map Says (take (m.1 - before) items) ++ Leaves m.0 ∷ z) r.2
          ∙ sym
          (append_assoc (map Says (take (m.1 - before) items)) (Leaves m.0 ∷ r.0) (Leaves s ∷ r.1)),
      omega arith,
    )

pub marks_stand :
    (items : List Item) (marks : List (SenderNo × ℕ)) (k : ℕ) (s : SenderNo) (place : ℕ)
    → AreMarks 0 (length items) marks
    → slice_get marks k ≡ Some (s, place)
    → (front : List Entry) × (rest : List Entry) × (merged items marks ≡ front ++ Leaves s ∷ rest)
    × (length (items_in front) ≡ place)
marks_stand items marks k s place a at =
    let r = stand_from 0 items marks k s place
    (subst (λ z. AreMarks 0 z marks) (let e : length items ≡ 0 + length items = omega arith in e) a)
    at in
    let long = r.3 in (r.0, r.1, r.2, omega arith)

pub further : (before last last' : ℕ) (marks : List (SenderNo × ℕ)) → last ≤ last'
    → AreMarks before last marks
    → AreMarks before last' marks
further before last last' [] l a = tt
further before last last' (m ∷ marks) l a = (
  a.0,
  (let high = a.1 in omega arith),
  further m.1 last last' marks l a.2,
)

pub one_mark_more : (before last : ℕ) (marks : List (SenderNo × ℕ)) (s : SenderNo) → before ≤ last
    → AreMarks before last marks
    → AreMarks before last (marks ++ (s, last) ∷ [])
one_mark_more before last [] s l a = (l, omega arith, tt)
one_mark_more before last (m ∷ marks) s l a = (a.0, a.1, one_mark_more m.1 last marks s a.1 a.2)
