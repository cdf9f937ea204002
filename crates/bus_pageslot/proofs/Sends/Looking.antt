-- What a look finds, and how many words the frame of a batch has.
use Rattle.std.proofs.Common.{◌≡◌, ◌≢◌, ℕ, zero, suc, ◌+◌, ◌*◌, ◌<◌, ◌≤◌, ◌==◌, Bool, true}
use Rattle.std.proofs.Common.{false, List, [], ◌∷◌, ◌++◌, length, arith, All, append_assoc}
use Rattle.std.proofs.Common.{Option, refl, sym, ◌∙◌, ap, subst, inl, inr, ◌⊎◌}
use Rattle.std.proofs.Common.{slice_index, if◌then◌else◌}
use Rattle.std.specs.Prelude.{IsTrue, ◌↔◌, get_or}
use Rattle.std.proofs.lemmas.Bool.{cases_eq, eq-eqb, ne_eqb, true≢false}
use Rattle.std.proofs.lemmas.List.{append-nil, append_cancel_left, get_or_append_left}
use Rattle.std.proofs.lemmas.List.{get_or_push, length-append}
use Rattle.std.proofs.lemmas.Grind.{common_steps}
use Rattle.atomic_table.specs.Seated.{TableId}
use Rattle.atomic_table.specs.declared.shared.Seat.{Seat}
use Rattle.bus_adoptcommit.specs.declared.verdicts.Verdict.{Verdict}
use Rattle.bus_batch.specs.Batches.{Pending, frame_of}
use Rattle.bus_batch.specs.Frames.{frame_words}
use Rattle.bus_core.specs.Senders.{Sender}
use Rattle.bus_core.specs.declared.limits.TheConstants.{PASSED_APART}
use Rattle.bus_register.specs.Protocol.{Protocol}
use Rattle.bus_register.specs.declared.kinds.Kind.{Kind}
use Rattle.bus_register.specs.declared.registers.Op.{Op}
use Rattle.bus_tenure.specs.Core.{is_closing, is_leaving, length_at}
use Rattle.bus_tenure.specs.Elections.{Elector}
use Rattle.bus_tenure.specs.Situations.{lesser}
use Rattle.bus_tenure.specs.declared.pages.Page.{Page}
use Rattle.bus_world.proofs.FloorLaws.{lesser_is}
use Rattle.bus_world.specs.Log.{least_passed, floor_shown}
use Rattle.bus_automaton.specs.Processes.{TableLayout, Process, Automaton, passed_word}
use Rattle.bus_automaton.specs.SenderTrails.{SenderTrail}
use Rattle.bus_automaton.proofs.Turns.{queue_is}
use Rattle.bus_automaton.specs.Buses.{process_with}
use Rattle.bus_pageslot.specs.Looks.{IsFoundOn, LooksOn, HasLooked, FloorSeen, LookingRefuses}
use Rattle.bus_pageslot.specs.Looks.{IsSenders, batch_len, look_at, passed_looks, room_looks}
use Rattle.bus_pageslot.specs.Notes.{Look, Notes, noting}
use Rattle.bus_pageslot.specs.Rule.{Sat, sender_trail_in, notes_in, stored_in, looks_in, with_look}
use Rattle.bus_pageslot.specs.Seats.{Shows}
use Rattle.bus_pageslot.specs.Steps.{Numbers, all_in, carried_of}
use Rattle.bus_pageslot.specs.declared.rule.View.{View}
use Rattle.bus_pageslot.specs.declared.rule.View.TheVariants.{Maker, Sender as Seated, Tap}
use Rattle.bus_pageslot.specs.declared.rule.View.TheVariants.{Meeting, Telling, Spent}

-- ---- passed places
-- where there are some the floor is the least of them and of the length
pub floor_some : (words : ℕ → ℕ) (at n len : ℕ) → n ≢ 0
    → least_passed words at n len ≡ floor_shown words at n len
floor_some words at zero len some = absurd (some refl)
floor_some words at (suc n) len some = refl

-- with one more
pub one_more : (words : ℕ → ℕ) (at r len : ℕ)
    → lesser (words (at + PASSED_APART * r)) (least_passed words at r len)
    ≡ least_passed words at (r + 1) len
one_more words at r len =
    ap (λ n. least_passed words at n len) (let e : suc r ≡ r + 1 = omega arith in e)

pub lesser_low : (a b : ℕ) → lesser a b ≤ b
lesser_low a b = grind (arith, common_steps, lesser_is)

-- it is not past the length
pub least_low : (words : ℕ → ℕ) (at n len : ℕ) → least_passed words at n len ≤ len
least_low words at zero len = omega arith
least_low words at (suc k) len =
    let more = least_low words at k len in
    grind (arith, common_steps, lesser_is)

-- words that agree so far show the same
same_least : (words more : ℕ → ℕ) (at n len : ℕ)
    → ((r : ℕ) → r < n → words (at + PASSED_APART * r) ≡ more (at + PASSED_APART * r))
    → least_passed words at n len ≡ least_passed more at n len
same_least words more at zero len same = refl
same_least words more at (suc k) len same =
    ap (λ w. lesser w (least_passed words at k len)) (same k (omega arith))
    ∙ ap (lesser (more (at + PASSED_APART * k)))
    (same_least words more at k len (λ r l. same r (omega arith)))

-- and so do the looks at them
same_looks : (x : TableLayout) (words more : ℕ → ℕ) (n : ℕ)
    → ((r : ℕ) → r < n → words (passed_word x r) ≡ more (passed_word x r))
    → passed_looks x words n ≡ passed_looks x more n
same_looks x words more zero same = refl
same_looks x words more (suc k) same =
    let before = same_looks x words more k (λ r l. same r (omega arith)) in
    let here = same k (omega arith) in
    λ i. before i ++ record { word = passed_word x k; found = here i } ∷ []

length_looks : (x : TableLayout) (found : ℕ → ℕ) (n : ℕ) → length (passed_looks x found n) ≡ n
length_looks x found zero = refl
length_looks x found (suc k) =
    let before = length_looks x found k in
    let more = length-append (passed_looks x found k) (look_at found (passed_word x k) ∷ []) in
    omega arith

-- each passed place is looked at in its turn
at_passed : (x : TableLayout) (found : ℕ → ℕ) (n r : ℕ) (d : Look) → r < n
    → get_or (passed_looks x found n) r d ≡ look_at found (passed_word x r)
at_passed x found zero r d below = absurd (omega arith)
at_passed x found (suc k) r d below =
    let size = length_looks x found k in
    elim (cases_eq r k) [
      | inl last ↦ grind (arith, common_steps, get_or_push)
      | inr before ↦
          let less : r < k = omega arith in
          get_or_append_left (passed_looks x found k) (look_at found (passed_word x k) ∷ []) d r
          (omega arith) ∙ at_passed x found k r d less
    ]

-- ---- looks, one after another
-- a sender's view stays one
pub senders_look : {C : Type 0} (look : Look) (v : View C) → IsSenders v
    → IsSenders (with_look v look)
senders_look look (Maker x made) h = h
senders_look look (Seated c trail notes) h = tt
senders_look look (Tap x e) h = h
senders_look look (Meeting x e y f) h = h
senders_look look (Telling c trail notes x e) h = h
senders_look look Spent h = h

module _ {C : Type 0} (P : Process C) (A : Automaton C) where
  abbrev x : TableLayout
  x = A.table_layout

  -- one more
  looks_more : (looks : List Look) (old mid new : View C) (look : Look) → LooksOn P A old looks mid
      → IsFoundOn P A mid look.word look.found → new ≡ with_look mid look
      → LooksOn P A old (looks ++ look ∷ []) new
  looks_more [] old mid new look is found now = grind (arith, common_steps)
  looks_more (first ∷ more) old mid new look h found now =
      (h.0, looks_more more (with_look old first) mid new look h.1 found now)

  -- they leave what the seat shows of all that was done
  look_keeps : (look : Look) (v : View C) (d : C) → all_in P (with_look v look) d ≡ all_in P v d
  look_keeps look (Maker y made) d = refl
  look_keeps look (Seated c t notes) d = refl
  look_keeps look (Tap y e) d = refl
  look_keeps look (Meeting y e z f) d = refl
  look_keeps look (Telling c t notes y e) d = refl
  look_keeps look Spent d = refl

  pub looks_keep : (looks : List Look) (old new : View C) (d : C) → LooksOn P A old looks new
      → all_in P new d ≡ all_in P old d
  looks_keep [] old new d is = ap (λ v. all_in P v d) is
  looks_keep (look ∷ more) old new d h =
      looks_keep more (with_look old look) new d h.1 ∙ look_keeps look old d

  -- a sender's view shows them behind those before
  pub looks_end : (c : C) (trail : SenderTrail) (notes : Notes) (looks : List Look) (new : View C)
      → LooksOn P A (Seated c trail notes) looks new
      → new ≡ Seated c trail (record notes { looks = notes.looks ++ looks })
  looks_end c trail notes [] new is =
      is ∙ ap (λ l. Seated c trail (record notes { looks = l })) (sym (append-nil notes.looks))
  looks_end c trail notes (look ∷ more) new h =
      looks_end c trail (noting notes look) more new h.1
      ∙ ap (λ l. Seated c trail (record notes { looks = l }))
      (append_assoc notes.looks (look ∷ []) more)

  -- so many passed places were found so by looks, of which these and the length give this
  pub record Found (old : View C) (n len least : ℕ) (new : View C) : Type 0 where
    pub found : ℕ → ℕ
    pub first : found length_at ≡ len
    pub least_is : least ≡ least_passed found x.passed n len
    pub looks : LooksOn P A old (passed_looks x found n) new

  pub found_none : (old new : View C) (len : ℕ) → new ≡ old → Found old 0 len len new
  found_none old new len same = record {
    found = λ _. len;
    first = refl;
    least_is = refl;
    looks = same;
  }

  -- and one more
  pub found_more : (old mid new : View C) (n len least got : ℕ) → 2 ≤ x.passed
      → Found old n len least mid → IsFoundOn P A mid (passed_word x n) got
      → new ≡ with_look mid (record { word = passed_word x n; found = got })
      → Found old (n + 1) len (lesser got least) new
  found_more old mid new n len least got behind f so now =
      let here = passed_word x n in
      let found : ℕ → ℕ = λ k. if k == here then got else f.found k in
      let other : (k : ℕ) → k ≢ here → f.found k ≡ found k =
      λ k ne. ap (λ (b : Bool). if b then got else f.found k) (sym (ne_eqb k here ne)) in
      let mine : got ≡ found here =
      ap (λ (b : Bool). if b then got else f.found here) (sym (eq-eqb here here refl)) in
      let apart : (r : ℕ) → r < n → f.found (passed_word x r) ≡ found (passed_word x r) =
      λ r l. other (passed_word x r) (λ e. absurd (omega arith)) in
      let next : suc n ≡ n + 1 = omega arith in
      let before = same_looks x f.found found n apart in
      let all : passed_looks x f.found n ++ record { word = here; found = got } ∷ []
      ≡ passed_looks x found (suc n) =
      λ i. before i ++ record { word = here; found = mine i } ∷ [] in
      record {
        found = found;
        first = sym (other 0 (λ e. absurd (omega arith))) ∙ f.first;
        least_is = grind (arith, common_steps, same_least, one_more);
        looks = grind (arith, common_steps, looks_more);
      }

  -- ---- the floor that was seen
  -- where there are no passed places
  pub seen_none : (old new : View C) (len : ℕ) → x.passers ≡ 0 → new ≡ old
      → FloorSeen P A old len 0 new
  seen_none old new len none same = record {
    found = λ _. len;
    first = refl;
    looked = subst (λ n. LooksOn P A old (passed_looks x (λ (_ : ℕ). len) n) new) (sym none) same;
    floor_is = ap (λ n. floor_shown (λ (_ : ℕ). len) x.passed n len) (sym none);
  }

  -- and where some were found
  pub seen_some : (old new : View C) (n len least : ℕ) → n ≢ 0 → n ≡ x.passers
      → Found old n len least new → FloorSeen P A old len least new
  seen_some old new n len least some many f = grind (arith, common_steps, floor_some)

-- ---- the frame of a batch
-- it is a mark and its head, where a mark waits
pub frame_marked : (q : Pending) → (is_closing q.phase ≡ true) ⊎ (is_leaving q.phase ≡ true)
    → 2 ≡ length (frame_words (frame_of q 0))
frame_marked q some = grind (arith, common_steps, length, true≢false)

-- and a head alone, where nothing waits
pub frame_bare : (q : Pending) → is_closing q.phase ≡ false → is_leaving q.phase ≡ false
    → length q.messages ≡ 0 → 1 ≡ length (frame_words (frame_of q 0))
frame_bare q closing leaving none = grind (arith, common_steps, length, true≢false)

-- whether its contents are on their way or not
pub batch_is : {S : Type 0} (kind_of : S → Option Kind) (op : S → ℕ → Option Op)
    (fed : S → ℕ → ℕ → S) (Q : Protocol S Bool Verdict) (v : Sender (Elector S))
    → length (frame_words (frame_of v.core.queue 0))
    ≡ batch_len (process_with kind_of op fed Q) v
unfolding process_with
batch_is kind_of op fed Q v =
    ap (λ q. length (frame_words (frame_of q 0))) (sym (queue_is v.core.queue v.reuse))

-- ---- room
-- by what was found a frame fits the log or does not
pub looked : {C : Type 0} (P : Process C) (A : Automaton C) (old mid new : View C)
    (many len floor capacity : ℕ) (fits : Bool) → IsFoundOn P A old length_at len
    → mid ≡ with_look old (record { word = length_at; found = len })
    → FloorSeen P A mid len floor new → capacity ≡ A.table_layout.capacity
    → (IsTrue fits ↔ (len + many ≤ capacity + floor)) → HasLooked P A old many fits new
looked P A old mid new many len floor capacity fits long now f same says = grind arith

-- one that is longer than the log does not
pub shown_low : (words : ℕ → ℕ) (at n len : ℕ) → floor_shown words at n len ≤ len
shown_low words at zero len = omega arith
shown_low words at (suc n) len = least_low words at (suc n) len

pub never_fits : {C : Type 0} (P : Process C) (A : Automaton C) (old new : View C) (many : ℕ)
    (fits : Bool) → HasLooked P A old many fits new → A.table_layout.capacity < many
    → fits ≡ false
never_fits P A old new many false h long = refl
never_fits P A old new many true h long = grind (arith, common_steps, shown_low)

-- a length that a seat has stored is no longer than one that was found then
pub stored_reached : {C : Type 0} (P : Process C) (A : Automaton C) (c : C) (trail : SenderTrail)
    (notes : Notes) (got : ℕ) → IsFoundOn P A (Seated c trail notes) length_at got
    → notes.stored ≤ got
stored_reached P A c trail notes got f =
    let r = f.rule in
    let stood : slice_index (A.words r.state) 0 ≡ got =
    ap (λ w. slice_index w 0) (sym r.words) ∙ f.stood in
    let reached = (r.views f.here.0 (Seated c trail notes) f.here.1).reached in omega arith

module _ {C : Type 0} (P : Process C) (A : Automaton C) (c : C) (trail : SenderTrail)
    (notes : Notes) (many : ℕ) where
  abbrev old : View C
  old = Seated c trail notes

  abbrev shows : List Look → View C
  shows more = Seated c trail (record notes { looks = notes.looks ++ more })

  -- these looks are all
  all_looks : (more : List Look) (fits : Bool) (h : HasLooked P A old many fits (shows more))
      → room_looks A.table_layout h.found ≡ more
  all_looks more fits h = grind (arith, common_steps, append_cancel_left, looks_end)

  pub looking_refuses : LookingRefuses P A c trail notes many
  looking_refuses = record {
    longer = λ new long h. absurd (true≢false (never_fits P A old new many true h long));
    filled = λ new flat full h.
        let x = A.table_layout in
        let fit = h.says.0 refl in
        let none : floor_shown h.found x.passed x.passers (h.found length_at) ≡ 0 =
        ap (λ n. floor_shown h.found x.passed n (h.found length_at)) flat in
        let reached = stored_reached P A c trail notes (h.found length_at) h.looked.0 in
        absurd (omega arith);
    no_length = λ more fits none h.
        subst (All (λ (look : Look). look.word ≢ length_at)) (sym (all_looks more fits h)) none 0
        (look_at h.found 0) (omega arith) refl;
    left_out = λ more fits r below none h.
        let x = A.table_layout in
        let d : Look = look_at h.found 0 in
        let size = length_looks x h.found x.passers in
        subst (All (λ (look : Look). look.word ≢ passed_word x r)) (sym (all_looks more fits h))
        none (suc r) d (omega arith)
        (ap (λ (look : Look). look.word) (at_passed x h.found x.passers r d below));
    counted = λ more fits other h.
        let x = A.table_layout in
        let many = length_looks x h.found x.passers in
        let all = ap length (all_looks more fits h) in other (omega arith);
  }

-- ---- a sender that looked
module _ {C : Type 0} (P : Process C) (A : Automaton C) where
  -- its looks are behind those before
  pub looks_shown : (d : C) (s : Seat (Option Page) (View C)) (new : View C) (many : ℕ)
      (fits : Bool) → Shows P d s → (looked : HasLooked P A s.me.0 many fits new)
      → looks_in new ≡ looks_in s.me.0 ++ room_looks A.table_layout looked.found
  looks_shown d s new many fits h looked = grind (arith, common_steps, looks_end)

  -- its seat shows it still
  pub shows_looked : (d : C) (s s' : Seat (Option Page) (View C)) (many : ℕ) (fits : Bool)
      → Shows P d s → s'.table_id ≡ s.table_id → s'.me.1 ≡ s.me.1
      → HasLooked P A s.me.0 many fits s'.me.0
      → Shows P d s' × (stored_in s'.me.0 ≡ stored_in s.me.0)
  shows_looked d s s' many fits h table slots looked =
      let x = A.table_layout in
      let view : s.me.0 ≡ Seated h.shown (sender_trail_in s.me.0) (notes_in s.me.0) =
      ap (λ (m : Sat C). m.0) h.me in
      let now : s'.me.0 ≡ Seated h.shown (sender_trail_in s.me.0) (record (notes_in s.me.0) {
        looks = looks_in s.me.0 ++ room_looks x looked.found;
      }) =
      looks_end P A h.shown (sender_trail_in s.me.0) (notes_in s.me.0) (room_looks x looked.found)
      s'.me.0
      (subst (λ v. LooksOn P A v (room_looks x looked.found) s'.me.0) view looked.looked) in
      let trail : sender_trail_in s'.me.0 ≡ sender_trail_in s.me.0 =
      ap (λ (v : View C). sender_trail_in v) now in
      let mine : s'.me.0 ≡ Seated h.shown (sender_trail_in s'.me.0) (notes_in s'.me.0) =
      now ∙ (λ i. Seated h.shown (sender_trail_in (sym now i)) (notes_in (sym now i))) in
      let out : s'.me.1 ≡ carried_of (P.holds d) = slots ∙ ap (λ (m : Sat C). m.1) h.me in (
        record {
          shown = h.shown;
          actions = h.actions;
          accepts = h.accepts;
          counted = h.counted;
          laid = h.laid;
          numbered = subst (Numbers P h.shown) (sym trail) h.numbered;
          me = λ i. (mine i, out i);
          words = ap (λ (z : TableId). z.words) table ∙ h.words;
          slots = ap (λ (z : TableId). z.slots) table ∙ h.slots;
        },
        ap (λ (v : View C). stored_in v) now,
      )
