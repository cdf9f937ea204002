-- Who was answered that all workers have left was given the whole order.
use Rattle.std.proofs.Common.{◌≡◌, ℕ, zero, suc, ◌+◌, ◌<◌, inl, inr, true, false, Some, Option}
use Rattle.std.proofs.Common.{List, [], ◌∷◌, ◌++◌, length, slice_get, refl, sym, ◌∙◌, ap}
use Rattle.std.proofs.Common.{subst, arith, append_assoc}
use Rattle.std.proofs.lemmas.Bool.Decides.{eqb_tells}
use Rattle.std.proofs.lemmas.Grind.{flat_map-append, common_steps}
use Rattle.std.proofs.lemmas.List.{append-nil}
use Rattle.std.proofs.lemmas.Option.{same_Some}
use Rattle.std.specs.Prelude.{◌||◌}
use Rattle.std.specs.List.{list_any}
use mathlib.Core.Option.{some}
use lib.ListN.{get_elem?}
use Rattle.atomic_table.specs.Table.{State}
use Rattle.bus_register.specs.declared.registers.SenderNo.{SenderNo}
use Rattle.bus_batch.specs.Frames.{Frame, Entry, Says, Leaves, AreFrames, AreFramesFrom}
use Rattle.bus_batch.specs.Frames.{is_leave_of, items_in, order_of}
use Rattle.bus_tenure.specs.declared.pages.Page.{Page}
use Rattle.bus_world.specs.Headline.{IsPrefix}
use Rattle.bus_world.proofs.Framing.{entry_of, gone_for_good}
use Rattle.bus_world.proofs.Places.{none_in, got_before}
use Rattle.bus_automaton.specs.Processes.{Process, TableLayout}
use Rattle.bus_pageslot.specs.Promised.{IsPromised}
use Rattle.bus_pageslot.specs.Rule.{receiver_view_in}
use Rattle.bus_pageslot.specs.declared.rule.View.{View}
use Rattle.bus_replica.specs.Replicas.{HaveAllLeft, items_heard, has_view}
use Rattle.bus_replica.proofs.OrderLaws.{items_given, shows_own}
use Rattle.bus_replica.proofs.OwnLaws.{at_place}
use Rattle.bus_replica.proofs.HearingLaws.{entries_heard}
use Rattle.bus_replica.proofs.TimeLaws.{front_frames}

owner_in : (senders least : ℕ) (fs : List Frame) → AreFramesFrom senders least fs → (k : ℕ)
    (f : Frame) → slice_get fs k ≡ Some f → f.owner.0 < senders
owner_in senders least [] lawful k f at = absurd (none_in k f at)
owner_in senders least (g ∷ fs) lawful zero f at =
    subst (λ (z : Frame). z.owner.0 < senders) (same_Some g f at) lawful.0.owner
owner_in senders least (g ∷ fs) lawful (suc k) f at =
    owner_in senders (g.tenure + 1) fs lawful.3 k f at

-- where a leave mark is among entries
gone_at : (s : ℕ) (entries : List Entry) → list_any (is_leave_of s) entries ≡ true
    → (k : ℕ) × (o : SenderNo) × (k < length entries)
    × (slice_get entries k ≡ Some (Leaves o)) × (o.0 ≡ s)
gone_at s [] left = absurd (let no : false ≡ true = left in cc)
gone_at s (Says i ∷ entries) left =
    let r = gone_at s entries left in
    let l = r.2 in (suc r.0, r.1, omega (arith, l), r.3, r.4)
gone_at s (Leaves o ∷ entries) left = elim (eqb_tells o.0 s) [
  | inl i ↦ (0, o, omega arith, refl, i.1)
  | inr i ↦
      (let r = gone_at s entries
      (ap (λ b. b || list_any (is_leave_of s) entries) (sym i.0) ∙ left) in
      let l = r.2 in (suc r.0, r.1, omega (arith, l), r.3, r.4))
]

-- where all have left nothing follows
nothing_behind : (senders : ℕ) (fs : List Frame) → AreFrames senders fs
    → (front rest : List Entry) → (order_of fs).entries ≡ front ++ rest
    → ((p : ℕ) → p < senders → list_any (is_leave_of p) front ≡ true) → rest ≡ []
nothing_behind senders fs lawful front [] is all = refl
nothing_behind senders fs lawful front (x ∷ rest) is all =
    let entries = (order_of fs).entries in
    let at : slice_get entries (length front) ≡ Some x =
    ap (λ z. slice_get z (length front)) is ∙ at_place front rest x in
    let mine = entry_of fs (length front) x at in
    let few = owner_in senders 0 fs lawful mine.place mine.frame mine.at in
    let gone = gone_at mine.frame.owner.0 front (all mine.frame.owner.0 few) in
    let there : slice_get entries gone.0 ≡ Some (Leaves gone.1) =
    ap (λ z. slice_get z gone.0) is ∙ got_before front (x ∷ rest) gone.0 (Leaves gone.1) gone.3 in
    grind (arith, common_steps, gone_for_good, length)

module _ {C : Type 0} (P : Process C) (x : TableLayout) (base : ℕ → ℕ) where
  -- what a receiver was given begins the order
  given : (log : List ℕ) (s : State (Option Page) (View C)) (h : IsPromised P x base log s)
      (i : ℕ) (v : View C) → get_elem? s.views i ≡ some v → has_view v ≡ true
      → (later : List Entry) × (h.order.entries ≡ entries_heard v ++ later)
  given log s h i v at has =
      let answers = (receiver_view_in v).answers in
      let page = h.promises (λ r. answers) (λ r. inr (i, v, at, shows_own v has)) in
      let front = page.delivered 0 in (front.later, front.entries)

  -- and is all of any later order, where all have left
  whole : (log later : List ℕ) (s t : State (Option Page) (View C)) (h : IsPromised P x base log s)
      (k : IsPromised P x base later t) → IsPrefix log later → (i : ℕ) (v : View C)
      → get_elem? s.views i ≡ some v → has_view v ≡ true → HaveAllLeft v x.senders
      → entries_heard v ≡ k.order.entries
  whole log later s t h k on i v at has left =
      let a = h.spelled in
      let b = k.spelled in
      let split = front_frames x.senders 0 0 a.frames b.frames on.rest a.lawful b.lawful
      (ap (λ z. z ++ on.rest) a.words_are ∙ on.together ∙ sym b.words_are) in
      let more = (order_of split.0).entries in
      let front = given log s h i v at has in
      let mine = entries_heard v in
      grind (arith, common_steps, flat_map-append, append_assoc, nothing_behind, append-nil)

  pub equal_ends : (log later : List ℕ) (s t : State (Option Page) (View C))
      (h : IsPromised P x base log s) (k : IsPromised P x base later t) → IsPrefix log later
      → (i j : ℕ) (v w : View C) → get_elem? s.views i ≡ some v → get_elem? t.views j ≡ some w
      → has_view v ≡ true → has_view w ≡ true → HaveAllLeft v x.senders
      → HaveAllLeft w x.senders
      → (items_heard v ≡ items_heard w) × (items_heard v ≡ items_in h.order.entries)
  equal_ends log later s t h k on i j v w at at' has has' left left' =
      let none : (l : List ℕ) → IsPrefix l l = λ l. record { rest = []; together = append-nil l } in
      let same : entries_heard v ≡ entries_heard w =
      whole log later s t h k on i v at has left
      ∙ sym (whole later later t t k k (none later) j w at' has' left') in
      let given_v = items_given (receiver_view_in v).answers in (
        given_v ∙ ap items_in same ∙ sym (items_given (receiver_view_in w).answers),
        given_v ∙ ap items_in (whole log log s s h h (none log) i v at has left),
      )
