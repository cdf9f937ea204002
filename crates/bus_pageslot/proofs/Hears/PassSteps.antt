-- A receiver's stores in its passed place are allowed: of its place, where a frame begins, and of
-- the number past all places.
use Rattle.std.proofs.Common.{◌≡◌, ◌≢◌, inl, inr, ℕ, ◌<◌, true, false, Option, Some, None, [], ◌∷◌}
use Rattle.std.proofs.Common.{◌++◌, drop, length, slice_index, slice_set, take, arith, refl, sym}
use Rattle.std.proofs.Common.{◌∙◌, ap, subst, append_assoc}
use mathlib.Core.Option.{some}
use lib.ListN.{get_elem?}
use Rattle.std.proofs.lemmas.Bool.{cases_eq}
use Rattle.std.proofs.lemmas.List.{get_or-set_other, length-take}
use Rattle.std.proofs.lemmas.List.{take-append-drop}
use Rattle.std.proofs.lemmas.Grind.{common_steps}
use Rattle.atomic_table.specs.Table.{State, keeps, Allows}
use Rattle.atomic_table.proofs.Lists.{at_set, set_here}
use Rattle.bus_register.specs.declared.limits.TheConstants.{PASSED_ALL}
use Rattle.bus_batch.specs.Frames.{IsLog, log_words}
use Rattle.bus_tenure.specs.declared.pages.Page.{Page}
use Rattle.bus_world.proofs.Standing.{frames_begin}
use Rattle.bus_automaton.specs.Lawful.{AutomatonLaws, MayPass, PassesIn}
use Rattle.bus_automaton.specs.Processes.{TableLayout, Process, Automaton, passed_word}
use Rattle.bus_automaton.specs.SenderTrails.{SenderTrail}
use Rattle.bus_pageslot.specs.ReceiverViews.{ReceiverView, HasHeard, passed_on, left_for_good}
use Rattle.bus_pageslot.specs.Rule.{Sat, slot_of, receiver_view_in, with_receiver_view}
use Rattle.bus_pageslot.specs.Rule.{passed_word_in, Ear, Made, IsSeated, Seats, SeatsReceiver}
use Rattle.bus_pageslot.specs.Rule.{SeatsStaying}
use Rattle.bus_pageslot.specs.Rule.{IsListening, KnowsLog, IsTrueOf, TableInvariant}
use Rattle.bus_pageslot.specs.Rings.{LeavesAll}
use Rattle.bus_pageslot.specs.Steps.{HasPassed, HasLeft}
use Rattle.bus_pageslot.specs.declared.rule.View.{View}
use Rattle.bus_pageslot.specs.declared.rule.View.TheVariants.{Maker, Sender, Tap, Meeting, Telling}
use Rattle.bus_pageslot.specs.declared.rule.View.TheVariants.{Spent}
use Rattle.bus_pageslot.proofs.Ruled.AllSeats.{still_seen, within}
use Rattle.bus_pageslot.proofs.Hears.Hearing.{heard_left, heard_passed}
use Rattle.bus_pageslot.proofs.Hears.Ears.{seat_of}
use Rattle.bus_pageslot.proofs.Hears.Loads.{Listens}

module _ {C : Type 0} (P : Process C) (A : Automaton C) (L : AutomatonLaws P A)
    (s : State (Option Page) (View C)) (r : TableInvariant P A s) (id number : ℕ)
    (passed : Option ℕ) (me : ℕ) (mine : r.ear me ≡ Made id)
    (p : PassesIn A r.state me number passed) where
  -- ---- the other views stay true
  first_same : slice_index (A.words p.state) 0 ≡ slice_index (A.words r.state) 0
  first_same = grind (arith, common_steps, slice_index, get_or-set_other)

  apart : (j : ℕ) → j ≢ id → (q : ℕ) → seat_of (r.ear q) ≡ j → q ≢ me
  apart j other q at same = other (sym at ∙ ap (λ i. seat_of (r.ear i)) same ∙ ap seat_of mine)

  seated_still : (j : ℕ) (c : C) (t : SenderTrail) (stored : ℕ)
      → IsSeated P A r.state r.seat j c t stored → IsSeated P A p.state r.seat j c t stored
  seated_still j c t stored h = grind (arith, common_steps, first_same)

  listens_still : (j : ℕ) → j ≢ id → (e : ReceiverView) → Listens A r.state r.ear j e
      → Listens A p.state r.ear j e
  listens_still j other e (inl flat) = inl flat
  listens_still j other e (inr l) = grind (arith, common_steps, apart, seat_of)

  -- what a receiver knows, with what it shows then
  pub knows_with : (j : ℕ) (x : TableLayout) (e e' : ReceiverView)
      (h : KnowsLog A r.state r.ear j x e)
      → e'.known ≡ e.known → e'.place ≡ e.place → HasHeard h.frames e'
      → Listens A p.state r.ear j e' → KnowsLog A p.state r.ear j x e'
  knows_with j x e e' h known place heard listens = grind (arith, common_steps, length)

  knows_still : (j : ℕ) → j ≢ id → (x : TableLayout) (e : ReceiverView)
      → KnowsLog A r.state r.ear j x e → KnowsLog A p.state r.ear j x e
  knows_still j other x e h =
      knows_with j x e e h refl refl h.heard (listens_still j other e h.listens)

  others_true : (j : ℕ) → j ≢ id → (v : View C) → IsTrueOf P A r.state r.seat r.ear j v
      → IsTrueOf P A p.state r.seat r.ear j v
  others_true j other (Maker x made) h = grind (arith, common_steps, apart, seat_of)
  others_true j other (Sender c t notes) h = seated_still j c t notes.stored h
  others_true j other (Tap x e) h = knows_still j other x e h
  others_true j other (Meeting x e y f) h =
      (knows_still j other x e h.0, knows_still j other y f h.1, h.2)
  others_true j other (Telling c t notes x e) h =
      (seated_still j c t notes.stored h.0, knows_still j other x e h.1)
  others_true j other Spent h = tt

  -- ---- so the rule holds, where the seat shows another view
  pub stored : (v w : View C) → get_elem? s.views id ≡ some v
      → ((q : ℕ) → Seats P q v → Seats P q w)
      → ((q : ℕ) → SeatsReceiver q v → SeatsReceiver q w)
      → ((q : ℕ) → q ≢ me → SeatsStaying q v → SeatsStaying q w)
      → ((n : ℕ) → passed ≡ Some n → SeatsStaying me w) → (word : ℕ)
      → word ≡ passed_word A.table_layout me → IsTrueOf P A p.state r.seat r.ear id w
      → LeavesAll P A s r id word number w
  stored v w at sends hears stays own word is true_of = record {
    rule = record {
      state = p.state;
      reached = p.reached;
      words = ap (λ ws. slice_set ws word number) r.words
          ∙ ap (λ i. slice_set (A.words r.state) i number) is ∙ sym p.words;
      slot = r.slot ∙ ap (λ (h : Option Page). slot_of h ∷ []) (sym p.home);
      seat = r.seat;
      ear = r.ear;
      views = λ j u i. grind (arith, common_steps, some, others_true, at_set);
      all = λ q below. still_seen (Seats P q) s.views id v w at (sends q) (r.all q below);
      all_heard = λ q below. still_seen (SeatsReceiver q) s.views id v w at (hears q)
          (r.all_heard q below);
      all_staying = λ q n k. elim (cases_eq q me) [
        | inl i ↦ (
          id,
          w,
          set_here s.views id w (within s.views id v at),
          subst (λ y. SeatsStaying y w) (sym i)
              (own n (sym p.here ∙ ap (A.passed p.state) (sym i) ∙ k)),
        )
        | inr ne ↦ still_seen (SeatsStaying q) s.views id v w at (stays q ne)
            (r.all_staying q n (sym (p.others q ne) ∙ k))
      ];
    };
    log = p.log;
  }

  -- and where it shows the same receiver, which has stored this
  pub stored_own : (x : TableLayout) (e e' : ReceiverView) → get_elem? s.views id ≡ some (Tap x e)
      → e.me ≡ me → e'.me ≡ e.me → ((n : ℕ) → passed ≡ Some n → e'.gone ≡ false) → (word : ℕ)
      → word ≡ passed_word A.table_layout me
      → KnowsLog A p.state r.ear id x e'
      → LeavesAll P A s r id word number (Tap x e')
  stored_own x e e' at own same stays word is knows =
      stored (Tap x e) (Tap x e') at (λ q k. k) (λ q k. same ∙ k)
      (λ q ne k. absurd (ne (sym k.0 ∙ own))) (λ n k. (same ∙ own, stays n k)) word is knows

-- ---- a receiver that has a passed place is of its own number
pub its_own : {C : Type 0} (A : Automaton C) (z : A.State) (ear : ℕ → Ear) (j : ℕ) (x : TableLayout)
    (e : ReceiverView) → KnowsLog A z ear j x e → 0 < x.passers → IsListening A z ear j e
its_own A z ear j x e h any = grind (arith, common_steps)

-- and may pass where the words that it has read are a log
may_pass : {C : Type 0} (A : Automaton C) (z : A.State) (ear : ℕ → Ear) (j : ℕ) (x : TableLayout)
    (e : ReceiverView) → KnowsLog A z ear j x e → e.ended ≡ false
    → IsLog x.senders (take e.place e.known) → MayPass A z e.place
may_pass A z ear j x e h going log =
    let senders = ap (λ (y : TableLayout). y.senders) h.table_layout in
    let rest = drop e.place e.known ++ h.front.rest in
    let whole : log_words log.frames ++ rest ≡ log_words h.frames =
    ap (λ ws. ws ++ rest) log.words_are
    ∙ sym (append_assoc (take e.place e.known) (drop e.place e.known) h.front.rest)
    ∙ ap (λ ws. ws ++ h.front.rest) (take-append-drop e.place e.known) ∙ h.front.together
    ∙ sym h.words_are in
    grind (arith, frames_begin, length, length-take)

-- ---- its two stores
module _ {C : Type 0} (P : Process C) (A : Automaton C) (L : AutomatonLaws P A)
    (s : State (Option Page) (View C)) (r : TableInvariant P A s) (id : ℕ) (x : TableLayout)
    (e : ReceiverView) (here : get_elem? s.views id ≡ some (Tap x e)) (stays : e.gone ≡ false)
    (any : 0 < x.passers) where
  abbrev h : KnowsLog A r.state r.ear id x e
  h = r.views id (Tap x e) here

  l : IsListening A r.state r.ear id e
  l = its_own A r.state r.ear id x e h any

  abbrev word : ℕ
  word = passed_word x e.me

  is_word : word ≡ passed_word A.table_layout e.me
  is_word = ap (λ (y : TableLayout). passed_word y e.me) h.table_layout

  pub pass_leaves : e.ended ≡ false → IsLog x.senders (take e.place e.known)
      → LeavesAll P A s r id word e.place (Tap x (passed_on e word))
  pass_leaves going log =
      let p = L.passes r.state e.me e.passed e.place r.reached (l.shown stays) l.past
      (may_pass A r.state r.ear id x e h going log) in
      stored_own P A L s r id e.place (Some e.place) e.me (l.here stays) p x e (passed_on e word)
      here
      refl refl (λ n is. stays) word is_word
      (knows_with P A L s r id e.place (Some e.place) e.me (l.here stays) p id x e
      (passed_on e word) h refl refl (heard_passed h.frames e h.heard word going)
      (inr record {
        here = l.here;
        made = l.made;
        below = l.below;
        shown = λ k. p.here;
        past = omega arith;
      }))

  pub leave_leaves : LeavesAll P A s r id word PASSED_ALL (Tap x (left_for_good e word))
  leave_leaves =
      let p = L.leaves r.state e.me e.passed r.reached (l.shown stays) in
      stored_own P A L s r id PASSED_ALL None e.me (l.here stays) p x e (left_for_good e word) here
      refl refl (λ n is. absurd cc) word is_word
      (knows_with P A L s r id PASSED_ALL None e.me (l.here stays) p id x e (left_for_good e word) h
      refl refl (heard_left h.frames e h.heard word)
      (inr record {
        here = λ k. absurd (let bad : true ≡ false = k in cc);
        made = l.made;
        below = l.below;
        shown = λ k. absurd (let bad : true ≡ false = k in cc);
        past = l.past;
      }))

-- are allowed
module _ {C : Type 0} (P : Process C) (A : Automaton C) (L : AutomatonLaws P A) (slots id : ℕ)
    (m : Sat C) (x : TableLayout) (e : ReceiverView) (is : m.0 ≡ Tap x e) where
  pub pass_allowed : e.ended ≡ false → e.gone ≡ false → 0 < x.passers
      → IsLog x.senders (take e.place e.known)
      → Allows (TableInvariant P A) slots id m (passed_word x e.me) (λ _. e.place)
      (λ _ m'. (passed_word x e.me ≡ passed_word_in m.0)
      × (e.place ≡ (receiver_view_in m.0).place) × HasPassed m m')
  pass_allowed going stays any log s r count at range =
      let here : get_elem? s.views id ≡ some (Tap x e) = at ∙ ap (λ (v : View C). some v) is in (
        Tap x (passed_on e (passed_word x e.me)),
        keeps,
        tt,
        (pass_leaves P A L s r id x e here stays any going log).rule,
        (
          ap (λ (v : View C). passed_word_in v) (sym is),
          ap (λ (v : View C). (receiver_view_in v).place) (sym is),
          λ i. (
            with_receiver_view (sym is i)
                (passed_on (receiver_view_in (sym is i)) (passed_word_in (sym is i))),
            m.1,
          ),
        ),
      )

  pub leave_allowed : e.gone ≡ false → 0 < x.passers
      → Allows (TableInvariant P A) slots id m (passed_word x e.me) (λ _. PASSED_ALL)
      (λ _ m'. (passed_word x e.me ≡ passed_word_in m.0) × (PASSED_ALL ≡ PASSED_ALL)
      × HasLeft m m')
  leave_allowed stays any s r count at range =
      let here : get_elem? s.views id ≡ some (Tap x e) = at ∙ ap (λ (v : View C). some v) is in (
        Tap x (left_for_good e (passed_word x e.me)),
        keeps,
        tt,
        (leave_leaves P A L s r id x e here stays any).rule,
        (
          ap (λ (v : View C). passed_word_in v) (sym is),
          refl,
          λ i. (
            with_receiver_view (sym is i)
                (left_for_good (receiver_view_in (sym is i)) (passed_word_in (sym is i))),
            m.1,
          ),
        ),
      )
