-- The table at its start, and how senders get their seats.
use Rattle.std.proofs.Common.{◌≡◌, ◌≢◌, ℕ, zero, suc, ◌+◌, ◌-◌, ◌<◌, ◌≤◌, false, length-set, Option}
use Rattle.std.proofs.Common.{Some}
use Rattle.std.proofs.Common.{List, [], ◌∷◌, ◌++◌, length, set, slice_get, get_or, replicate}
use Rattle.std.proofs.Common.{arith, refl, sym, ◌∙◌, ap, subst, ⊎_elim, inl, inr, ◌⊎◌}
use mathlib.Core.Option.{some, some-injective, some-ne-none}
use lib.ListN.{get_elem?}
use Rattle.std.proofs.lemmas.Bool.{cases_eq, cases_lt}
use Rattle.std.proofs.lemmas.List.{length-append}
use Rattle.std.proofs.lemmas.Option.{same_Some, slice_get_within, slice_get-get_or}
use Rattle.std.specs.Prelude.{All}
use Rattle.std.proofs.lemmas.Grind.{common_steps}
use Rattle.atomic_table.specs.declared.shared.Seat.{Seat}
use Rattle.atomic_table.specs.Table.{State, Splits, opening}
use Rattle.atomic_table.proofs.Lists.{at_set}
use Rattle.bus_register.specs.Tables.{put}
use Rattle.bus_register.specs.Private.TableLaws.{put_here, put_beside, push_here, push_beside}
use Rattle.bus_batch.specs.Frames.{Frame, AreFrames, log_words}
use Rattle.bus_tenure.specs.declared.pages.Page.{Page}
use Rattle.bus_world.specs.World.{first_page}
use Rattle.bus_pageslot.specs.Notes.{no_notes}
use Rattle.bus_pageslot.specs.ReceiverViews.{new_receiver_view}
use Rattle.bus_pageslot.specs.declared.rule.View.{View}
use Rattle.bus_pageslot.specs.declared.rule.View.TheVariants.{Maker, Sender, Tap, Meeting, Telling}
use Rattle.bus_pageslot.specs.declared.rule.View.TheVariants.{Spent}
use Rattle.bus_automaton.specs.Processes.{TableLayout, Process, Automaton, IsCounted, base_in}
use Rattle.bus_automaton.specs.Processes.{log_in}
use Rattle.bus_automaton.specs.Lawful.{AutomatonLaws, Opens}
use Rattle.bus_pageslot.specs.Rule.{slot_of, Sat, tap_left, tap_right, sender_trail_in, cut_left}
use Rattle.bus_pageslot.specs.Rule.{cut_right, Ear, Unmade, Made, IsUnheard, KnowsLog, IsTrueOf}
use Rattle.bus_pageslot.specs.Rule.{Seats, SeatsReceiver, SeatsStaying, TableInvariant}
use Rattle.bus_pageslot.specs.Lasting.{LeavesViews}
use Rattle.bus_pageslot.specs.Steps.{Numbers}
use Rattle.bus_pageslot.specs.Steps.Accepts.{Nothing}
use Rattle.bus_pageslot.specs.Seats.{SenderSeat, ReceiverSeat, Shows, table_of}
use Rattle.bus_pageslot.specs.Buses.{IsNewSeat, AreNewSeats, IsNewTap, AreNewTaps}
use Rattle.bus_automaton.specs.SenderTrails.{SenderTrail, new_sender_trail}
use Rattle.bus_pageslot.proofs.Ruled.AllSeats.{seen_parted}
use Rattle.bus_pageslot.proofs.Hears.Ears.{seat_of, views_beside}
use Rattle.bus_pageslot.proofs.Hears.Loads.{Listens}
use Rattle.bus_pageslot.proofs.Hears.Hearing.{heard_new}
use Rattle.bus_pageslot.proofs.Ruled.Numbering.{numbers_next}
use Rattle.atomic_table.specs.Seated.{TableId}

pub at_end : {A : Type 0} (l : List A) (a b : A) (j : ℕ) → get_elem? (l ++ a ∷ []) j ≡ some b
    → (get_elem? l j ≡ some b) ⊎ ((j ≡ length l) × (a ≡ b))
at_end [] a b zero e = inr (refl, some-injective a b e)
at_end [] a b (suc j) e = absurd (some-ne-none b (sym e))
at_end (x ∷ xs) a b zero e = inl e
at_end (x ∷ xs) a b (suc j) e = ⊎_elim (λ h. inl h) (λ t. inr (ap suc t.0, t.1)) (at_end xs a b j e)

-- a receiver that knows nothing, of a log with these frames
knows_new : {C : Type 0} (A : Automaton C) (z : A.State) (ear : ℕ → Ear) (j me : ℕ)
    (x : TableLayout) → x ≡ A.table_layout
    → (frames : List Frame) → AreFrames A.table_layout.senders frames
    → log_words frames ≡ log_in A z → Listens A z ear j (new_receiver_view me)
    → KnowsLog A z ear j x (new_receiver_view me)
knows_new A z ear j me x table_layout frames lawful words listens =
    grind (arith, common_steps, heard_new)

module _ {C : Type 0} (P : Process C) (A : Automaton C) (L : AutomatonLaws P A) where
  abbrev first : View C
  first = Maker A.table_layout 0

  module _ (o : Opens P A) where
    only : (j : ℕ) (v : View C) → get_elem? (first ∷ []) j ≡ some v
        → IsTrueOf P A o.state (λ p. 0) (λ r. Unmade 0) j v
    only zero v e = grind (arith, common_steps, some-injective)
    only (suc j) v e = absurd (some-ne-none v (sym e))

    pub opens : (ws : List ℕ) → ws ≡ replicate A.table_layout.words 0
        → TableInvariant P A (opening ws (Some (first_page A.bases) ∷ []) first)
    opens ws zeros = record {
      state = o.state;
      reached = o.reached;
      words = zeros ∙ sym o.words;
      slot = ap (λ (h : Option Page). slot_of h ∷ []) (sym o.home);
      seat = λ p. 0;
      ear = λ r. Unmade 0;
      views = only;
      all = λ p below. (0, first, refl, omega arith);
      all_heard = λ q below. (0, first, refl, omega arith);
      all_staying = λ q n is. (0, first, refl, omega arith);
    }

  module _ (z : A.State) (seat : ℕ → ℕ) (ear : ℕ → Ear) (k id count : ℕ) (mine : seat k ≡ id)
      (j : ℕ)
      (other : j ≢ id) where
    seats_still : (q : ℕ) → seat q ≡ j → put k count seat q ≡ j
    seats_still q at = put_beside k count seat q (λ e. other (sym at ∙ ap seat e ∙ mine)) ∙ at

    cut_others : (v : View C) → IsTrueOf P A z seat ear j v
        → IsTrueOf P A z (put k count seat) ear j v
    cut_others (Maker x made) h = grind (arith, common_steps, seats_still)
    cut_others (Sender c t notes) h = grind (arith, common_steps, seats_still)
    cut_others (Tap x e) h = h
    cut_others (Meeting x e y f) h = h
    cut_others (Telling c t notes x e) h = grind (arith, common_steps, seats_still)
    cut_others Spent h = tt

  -- a seat for one more sender
  pub cut_leaves : (id : ℕ) (x : TableLayout) (made : ℕ) → made < A.table_layout.senders
      → (s : State (Option Page) (View C)) (r : TableInvariant P A s)
      → get_elem? s.views id ≡ some (Maker x made)
      → LeavesViews P A s r (set s.views id (cut_left (Maker x made))
      ++ cut_right (Some (A.started made)) (base_in A made) ∷ [])
  cut_leaves id x made below s r at =
      let old = r.views id (Maker x made) at in
      let c : C = A.started made in
      let me : P.me c ≡ made = L.started_me made in
      let mine = old.1 made (omega arith) below in
      let count : ℕ = length s.views in
      let seat : ℕ → ℕ = put made count r.seat in
      let left : View C = Maker x (made + 1) in
      let right : View C = Sender c (new_sender_trail (base_in A made)) no_notes in
      record {
        rule = record {
          state = r.state;
          reached = r.reached;
          words = r.words;
          slot = r.slot;
          seat = seat;
          ear = r.ear;
          all = λ p in_range. seen_parted (Seats P p) s.views id (Maker x made) left right at
              (λ is. elim (cases_eq p made) [
                | inl e ↦ inr (me ∙ sym e)
                | inr n ↦ inl (omega (arith, n))
              ])
              (r.all p in_range);
          all_heard = λ q in_range.
              let same = ap (λ (y : TableLayout). y.senders) old.0 in
              seen_parted (SeatsReceiver q) s.views id (Maker x made) left right at
              (λ is. inl (omega arith)) (r.all_heard q in_range);
          all_staying = λ q n is.
              let same = ap (λ (y : TableLayout). y.senders) old.0 in
              seen_parted (SeatsStaying q) s.views id (Maker x made) left right at
              (λ is. inl (omega arith)) (r.all_staying q n is);
          views = λ j v e. elim (at_end (set s.views id left) right v j e) [
            | inl u ↦ grind (arith, put_beside, some, cut_others, at_set)
            | inr u ↦ grind (arith, common_steps, length-set, put_here)
          ];
        };
        log = refl;
      }

  pub cut_allowed : (id : ℕ) (x : TableLayout) (made : ℕ) → made < A.table_layout.senders
      → Splits (TableInvariant P A) id (Maker x made) (cut_left (Maker x made))
      (cut_right (Some (A.started made)) (base_in A made))
  cut_allowed id x made below s r at = (cut_leaves id x made below s r at).rule

  -- a seat for one more receiver, behind those of all senders
  module _ (id : ℕ) (x : TableLayout) (made : ℕ) (behind : x.senders ≤ made)
      (s : State (Option Page) (View C)) (r : TableInvariant P A s)
      (at : get_elem? s.views id ≡ some (Maker x made)) where
    abbrev number : ℕ
    number = made - x.senders

    abbrev tap : View C
    tap = Tap x (new_receiver_view number)

    abbrev left : View C
    left = Maker x (made + 1)

    old : IsTrueOf P A r.state r.seat r.ear id (Maker x made)
    old = r.views id (Maker x made) at

    abbrev Tapped : Type 0
    Tapped = LeavesViews P A s r (set s.views id left ++ tap ∷ [])

    -- with these seats of receivers
    tapped : (ear' : ℕ → Ear)
        → ((j : ℕ) → j ≢ id → (v : View C) → IsTrueOf P A r.state r.seat r.ear j v
        → IsTrueOf P A r.state r.seat ear' j v)
        → ((q : ℕ) → made + 1 ≤ A.table_layout.senders + q → q < A.table_layout.passers
        → IsUnheard A r.state ear' id q)
        → Listens A r.state ear' (length s.views) (new_receiver_view number) → Tapped
    tapped ear' others unheard listens =
        let log = L.log r.state r.reached in
        let same = ap (λ (y : TableLayout). y.senders) old.0 in record {
          rule = record {
            state = r.state;
            reached = r.reached;
            words = r.words;
            slot = r.slot;
            seat = r.seat;
            ear = ear';
            all = λ p below. seen_parted (Seats P p) s.views id (Maker x made) left tap at
                (λ is. absurd (omega arith)) (r.all p below);
            all_heard = λ q below. seen_parted (SeatsReceiver q) s.views id (Maker x made) left tap
                at (λ is. elim (cases_eq number q) [
                  | inl e ↦ inr e
                  | inr n ↦ inl (omega (arith, n))
                ])
                (r.all_heard q below);
            all_staying = λ q p is. seen_parted (SeatsStaying q) s.views id (Maker x made) left tap
                at (λ is. elim (cases_eq number q) [
                  | inl e ↦ inr (e, refl)
                  | inr n ↦ inl (omega (arith, n))
                ])
                (r.all_staying q p is);
            views = λ j v e. elim (at_end (set s.views id left) tap v j e) [
              | inl u ↦ grind (arith, old, some, at_set)
              | inr u ↦ grind (arith, common_steps, length-set, knows_new, length, old)
            ];
          };
          log = refl;
        }

    pub tapped_by : (x.passers ≡ 0) ⊎ (made < x.senders + x.passers) → Tapped
    tapped_by (inl none) =
        let flat : A.table_layout.passers ≡ 0 =
        sym (ap (λ (y : TableLayout). y.passers) old.0) ∙ none in
        tapped r.ear (λ j ne v is. is) (λ q low high. absurd (omega arith)) (inl flat)
    tapped_by (inr within) =
        let senders = ap (λ (y : TableLayout). y.senders) old.0 in
        let passers = ap (λ (y : TableLayout). y.passers) old.0 in
        let count : ℕ = length s.views in
        let mine = old.2 number (omega arith) (omega arith) in
        tapped (put number (Made count) r.ear)
        (views_beside P A r.state r.seat r.ear number count id (ap seat_of mine.here))
        (λ q low high.
        let w = old.2 q (omega arith) high in
        record {
          here = put_beside number (Made count) r.ear q (λ e. absurd (omega arith)) ∙ w.here;
          passed = w.passed;
        })
        (inr record {
          here = λ stays. put_here number (Made count) r.ear;
          made = λ i none. let bad : Made count ≡ Unmade i =
              sym (put_here number (Made count) r.ear) ∙ none in cc;
          below = omega arith;
          shown = λ stays. mine.passed;
          past = omega arith;
        })

  pub tap_allowed : (id : ℕ) (x : TableLayout) (made : ℕ) → x.senders ≤ made
      → (x.passers ≡ 0) ⊎ (made < x.senders + x.passers)
      → Splits (TableInvariant P A) id (Maker x made) (tap_left (Maker x made))
      (tap_right (Maker x made))
  tap_allowed id x made behind within s r at = (tapped_by id x made behind s r at within).rule

-- a sender shows the seat that was made for it
pub shows_new : {C : Type 0} (P : Process C) (A : Automaton C) → AutomatonLaws P A → Opens P A
    → (k : ℕ) → k < A.table_layout.senders → (c : C) (s : Seat (Option Page) (View C))
    → c ≡ A.started k → s.me ≡ (cut_right (Some (A.started k)) (base_in A k), [])
    → s.table_id.words ≡ A.table_layout.words → s.table_id.slots ≡ 1 → Shows P c s
shows_new {C} P A L o k below c s is me words slots =
    let now : s.me ≡ (Sender c (new_sender_trail (base_in A k)) no_notes, []) =
    me ∙ ap (λ (y : C). (Sender y (new_sender_trail (base_in A k)) no_notes, [])) (sym is) in
    let away : P.holds c ≡ false = ap P.holds is ∙ L.started_away k in
    record {
      shown = c;
      actions = [];
      accepts = Nothing;
      counted = subst (IsCounted P) (sym is) (o.counted k);
      laid = ap P.awaits is ∙ L.started_laid k;
      numbered = subst (λ (y : C × SenderTrail). Numbers P y.0 y.1)
          (λ i. (sym is i, sym (ap (λ (m : Sat C). sender_trail_in m.0) now) i))
          (numbers_next P A L o.state o.reached k (A.started k) (L.started_me k) (o.senders k below)
          (new_sender_trail (base_in A k)) (o.sender_trail k));
      me = cc;
      words = grind (arith, common_steps);
      slots = slots;
    }

pub one_more : {C : Type 0} (P : Process C) (A : Automaton C) (table : TableId) (many : ℕ)
    (senders : List (SenderSeat C)) (s : SenderSeat C) → AreNewSeats P A table many senders
    → IsNewSeat P A table many s → AreNewSeats P A table (many + 1) (senders ++ s ∷ [])
one_more P A table many senders s h new = record {
  many_are = length-append senders (s ∷ []) ∙ (let z = h.many_are in omega arith);
  each = λ p y e.
      let within = slice_get_within (senders ++ s ∷ []) p y e in
      let size = length-append senders (s ∷ []) in
      elim (cases_lt p (length senders)) [
        | inl l ↦ h.each p y (sym (push_beside senders s p (λ i. absurd (omega arith))) ∙ e)
        | inr l ↦ grind (arith, common_steps, length, same_Some, push_here, slice_get)
      ];
}

pub one_more_tap : {C : Type 0} (x : TableLayout) (table : TableId) (many : ℕ)
    (taps : List (ReceiverSeat C)) (t : ReceiverSeat C) → AreNewTaps x table many taps
    → IsNewTap x table many t → AreNewTaps x table (many + 1) (taps ++ t ∷ [])
one_more_tap x table many taps t h new = record {
  many_are = length-append taps (t ∷ []) ∙ (let z = h.many_are in omega arith);
  each = λ r y e.
      let within = slice_get_within (taps ++ t ∷ []) r y e in
      let size = length-append taps (t ∷ []) in
      elim (cases_lt r (length taps)) [
        | inl l ↦ h.each r y (sym (push_beside taps t r (λ i. absurd (omega arith))) ∙ e)
        | inr l ↦ grind (arith, common_steps, length, same_Some, push_here, slice_get)
      ];
}

pub all_here : {C : Type 0} (P : Process C) (A : Automaton C) (table : TableId) (many : ℕ)
    (senders : List (SenderSeat C)) → AreNewSeats P A table many senders
    → All (λ s. table_of s ≡ table) senders
all_here P A table many senders h p other within =
    (h.each p (get_or senders p other) (slice_get-get_or senders p other within)).table_is

pub all_taps_here :
    {C : Type 0} (x : TableLayout) (table : TableId) (many : ℕ) (taps : List (ReceiverSeat C))
    → AreNewTaps x table many taps → All (λ t. t.table_id ≡ table) taps
all_taps_here x table many taps h r other within =
    (h.each r (get_or taps r other) (slice_get-get_or taps r other within)).table_is
