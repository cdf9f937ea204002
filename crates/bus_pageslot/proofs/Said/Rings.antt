-- A receiver of a ring finds, from what it has passed on, each word that was published there.
use Rattle.std.proofs.Common.{◌≡◌, ◌⊎◌, inl, inr, ℕ, ◌+◌, ◌<◌, ◌≤◌, false, Option, ◌++◌, length}
use Rattle.std.proofs.Common.{slice_index, take, arith, refl, sym, ◌∙◌, ap, subst}
use mathlib.Core.Option.{some}
use lib.ListN.{get_elem?}
use Rattle.std.proofs.Math.Seq.{take-append_seam}
use Rattle.std.proofs.lemmas.Grind.{flat_map-append, common_steps}
use Rattle.std.proofs.lemmas.List.{get_or-set_other, get_or_append_left, length-append}
use Rattle.std.proofs.lemmas.List.{take-append-le}
use Rattle.atomic_table.specs.Table.{State}
use Rattle.bus_register.specs.Private.TableLaws.{some_or_none}
use Rattle.bus_register.specs.declared.limits.TheConstants.{PASSED_ALL}
use Rattle.bus_batch.specs.Frames.{IsLog, frame_words, log_words}
use Rattle.bus_tenure.specs.declared.pages.Page.{Page}
use Rattle.bus_world.specs.Headline.{IsPrefix}
use Rattle.bus_automaton.proofs.Fitting.{shown_below}
use Rattle.bus_automaton.proofs.Walking.{front_lawful}
use Rattle.bus_automaton.specs.Lawful.{AutomatonLaws, MayPass, floor_in}
use Rattle.bus_automaton.specs.Processes.{TableLayout, Process, Automaton, log_cell, log_in}
use Rattle.bus_automaton.specs.Processes.{passed_word}
use Rattle.bus_pageslot.proofs.Hears.Ears.{seat_of}
use Rattle.bus_pageslot.proofs.Hears.PassSteps.{its_own}
use Rattle.bus_pageslot.specs.ReceiverViews.{ReceiverView}
use Rattle.bus_pageslot.specs.Rings.{ShowsReceiver, HasSeat, RingKeeps, RingShows, RuleRefuses}
use Rattle.bus_pageslot.specs.Rings.{IsTaken, StoresApart}
use Rattle.bus_pageslot.specs.Rule.{IsListening, KnowsLog, IsTrueOf, SeatsReceiver, SeatsStaying}
use Rattle.bus_pageslot.specs.Rule.{TableInvariant}
use Rattle.bus_pageslot.specs.declared.rule.View.{View}
use Rattle.bus_pageslot.specs.declared.rule.View.TheVariants.{Maker, Sender, Tap, Meeting, Telling}
use Rattle.bus_pageslot.specs.declared.rule.View.TheVariants.{Spent}

apart : (word log k : ℕ) → word < log → word ≡ log + k → ⊥
apart word log k low same = omega arith

module _ {C : Type 0} (P : Process C) (A : Automaton C) (L : AutomatonLaws P A)
    (s : State (Option Page) (View C)) (r : TableInvariant P A s) where
  abbrev x : TableLayout
  x = A.table_layout

  module _ (j : ℕ) (y : TableLayout) (e : ReceiverView) (h : KnowsLog A r.state r.ear j y e)
      (any : 0 < x.passers) where
    l : IsListening A r.state r.ear j e
    l = its_own A r.state r.ear j y e h
        (let same = ap (λ (z : TableLayout). z.passers) h.table_layout in omega arith)

    shown_at : (i : ℕ) → slice_index s.words i ≡ slice_index (A.words r.state) i
    shown_at i = ap (λ ws. slice_index ws i) r.words

    word : e.gone ≡ false → slice_index s.words (passed_word x e.me) ≡ e.passed
    word is =
        shown_at (passed_word x e.me) ∙ (L.shows r.state e.me e.passed r.reached (l.shown is)).2

    -- once it has left that is so of its passed place, or another has its number
    left : (slice_index s.words (passed_word x e.me) ≡ PASSED_ALL) ⊎ IsTaken s.views e.me
    left = elim (some_or_none (A.passed r.state e.me)) [
      | inl none ↦ inl
          (shown_at (passed_word x e.me) ∙ L.left r.state e.me r.reached l.below none)
      | inr has ↦ inr (taken_by (r.all_staying e.me has.0 has.1))
    ] where
      taken_in : (j : ℕ) (v : View C) → get_elem? s.views j ≡ some v
          → IsTrueOf P A r.state r.seat r.ear j v → SeatsStaying e.me v → IsTaken s.views e.me
      taken_in j (Maker y made) at h is = grind (arith, common_steps, l)
      taken_in j (Sender c t notes) at h none = absurd none
      taken_in j (Tap y f) at h is = (j, Tap y f, f, at, refl, is.0, is.1)
      taken_in j (Meeting y f z g) at h (inl is) =
          (j, Meeting y f z g, f, at, inl refl, is.0, is.1)
      taken_in j (Meeting y f z g) at h (inr is) =
          (j, Meeting y f z g, g, at, inr refl, is.0, is.1)
      taken_in j (Telling c t notes y f) at h is =
          (j, Telling c t notes y f, f, at, refl, is.0, is.1)
      taken_in j Spent at h none = absurd none

      taken_by : (j : ℕ) × (v : View C) × (get_elem? s.views j ≡ some v) × SeatsStaying e.me v
          → IsTaken s.views e.me
      taken_by h = taken_in h.0 h.1 h.2 (r.views h.0 h.1 h.2) h.3

    module _ (stays : e.gone ≡ false) where
      may : MayPass A r.state e.passed
      may = L.passed_whole r.state e.me e.passed r.reached (l.shown stays)

      -- the frames before what it has passed
      front_words : log_words may.begins.front ≡ take e.passed e.known
      front_words =
          let all = may.words_are
          ∙ sym h.front.together in
          let parts = sym (flat_map-append frame_words may.begins.front may.begins.rest)
          ∙ sym (ap log_words may.begins.frames_are) in
          sym (take-append_seam (log_words may.begins.front) (log_words may.begins.rest))
          ∙ ap (λ n. take n (log_words may.begins.front ++ log_words may.begins.rest))
          (sym may.begins.place_is)
          ∙ ap (take e.passed) (parts ∙ all)
          ∙ take-append-le e.passed e.known h.front.rest
          (let a = l.past in let b = h.below in omega arith)

      whole : IsLog x.senders (take e.passed e.known)
      whole = grind (arith, common_steps, may, front_lawful, front_words)

      floor : floor_in x s.words ≤ e.passed
      floor =
          let below = shown_below (slice_index s.words) x.passed (slice_index s.words 0) x.passers
          e.me l.below in
          let here : slice_index s.words (passed_word x e.me) ≡ e.passed = word stays in
          omega arith

      kept : RingKeeps x s.words (log_in A r.state) e
      kept = record {
        whole = whole;
        floor = floor;
        room = grind (arith, common_steps, floor);
        stands = λ place past below.
            shown_at (log_cell x place)
            ∙ L.finds r.state e.me place r.reached (inr (e.passed, l.shown stays, past)) below;
      }

    pub served : RingShows x s.words (log_in A r.state) s.views e
    served = grind (arith, common_steps, l, word, left, kept)

  -- a passed place is none of the words of the log, nor the length or the stage
  pub stores_beside : (me : ℕ) → me < x.passers → (number : ℕ) → StoresApart x s.words me number
  stores_beside me few number = grind (arith, get_or-set_other, apart)

  -- what is known of a receiver that a view shows
  pub known_of : (j : ℕ) (e : ReceiverView) (v : View C) → IsTrueOf P A r.state r.seat r.ear j v
      → ShowsReceiver e v → (y : TableLayout) × KnowsLog A r.state r.ear j y e
  known_of j e (Maker y made) h none = absurd none
  known_of j e (Sender c t notes) h none = absurd none
  known_of j e (Tap y f) h same = (y, subst (KnowsLog A r.state r.ear j y) same h)
  known_of j e (Meeting y f z g) h (inl same) =
      (y, subst (KnowsLog A r.state r.ear j y) same h.0)
  known_of j e (Meeting y f z g) h (inr same) =
      (z, subst (KnowsLog A r.state r.ear j z) same h.1)
  known_of j e (Telling c t notes y f) h same =
      (y, subst (KnowsLog A r.state r.ear j y) same h.1)
  known_of j e Spent h none = absurd none

  module _ (j : ℕ) (v : View C) (e : ReceiverView) (at : get_elem? s.views j ≡ some v)
      (is : ShowsReceiver e v) (some : 0 < x.passers) where
    pub all_served : RingShows x s.words (log_in A r.state) s.views e
    all_served =
        let k = known_of j e v (r.views j v at) is in served j k.0 e k.1 some

    -- what it knows is a beginning of all that was published
    pub knows_here : IsPrefix e.known (log_in A r.state)
    knows_here = (known_of j e v (r.views j v at) is).1.front

    -- and it has read no more than that
    pub below_here : e.place ≤ length e.known
    below_here = (known_of j e v (r.views j v at) is).1.below

    pub listens_here : IsListening A r.state r.ear j e
    listens_here =
        let k = known_of j e v (r.views j v at) is in
        its_own A r.state r.ear j k.0 e k.1
        (let same = ap (λ (z : TableLayout). z.passers) k.1.table_layout in omega arith)

    pub stores_apart : (number : ℕ) → StoresApart x s.words e.me number
    stores_apart = stores_beside e.me listens_here.below

-- a receiver that shows in a view, or that the maker of seats has yet to seat
has_seat : {C : Type 0} (me : ℕ) (v : View C) → SeatsReceiver me v → HasSeat me v
has_seat me (Maker y made) is = inr (y, made, refl, is)
has_seat me (Sender c t notes) none = absurd none
has_seat me (Tap y e) is = inl (e, is, refl)
has_seat me (Meeting y e z f) (inl is) = inl (e, is, inl refl)
has_seat me (Meeting y e z f) (inr is) = inl (f, is, inr refl)
has_seat me (Telling c t notes y e) is = inl (e, is, refl)
has_seat me Spent none = absurd none

-- of a ring each has a seat
pub all_have_seats : {C : Type 0} (P : Process C) (A : Automaton C)
    (s : State (Option Page) (View C)) → TableInvariant P A s → (me : ℕ)
    → me < A.table_layout.passers
    → (j : ℕ) × (v : View C) × (get_elem? s.views j ≡ some v) × HasSeat me v
all_have_seats P A s r me below =
    let h = r.all_heard me below in (h.0, h.1, h.2, has_seat me h.1 h.3)

pub rule_refuses : {C : Type 0} (P : Process C) (A : Automaton C) (L : AutomatonLaws P A)
    (s : State (Option Page) (View C)) → 0 < A.table_layout.passers → RuleRefuses P A s
rule_refuses P A L s any = record {
  overwritten = λ j v e place at is stays past below wrong r.
      let keeps = (all_served P A L s r j v e at is any).stays stays in
      let front = knows_here P A L s r j v e at is any in
      let same : slice_index (log_in A r.state) place ≡ slice_index e.known place =
      ap (λ log. slice_index log place) (sym front.together)
      ∙ get_or_append_left e.known front.rest 0 place below in
      let all = ap length (sym front.together) ∙ length-append e.known front.rest in
      wrong (keeps.stands place past (omega arith) ∙ same);
  overrun = λ j v e at is stays over r.
      let keeps = (all_served P A L s r j v e at is any).stays stays in
      let room = keeps.room in
      let long = (L.log r.state r.reached).long in
      let same : slice_index s.words 0 ≡ slice_index (A.words r.state) 0 =
      ap (λ ws. slice_index ws 0) r.words in absurd (omega arith);
  not_shown = λ j v e at is stays wrong r.
      wrong ((all_served P A L s r j v e at is any).word stays);
  past_place = λ j v e at is past r.
      let within = (all_served P A L s r j v e at is any).within in omega arith;
  within_frame = λ j v e at is stays torn r.
      torn ((all_served P A L s r j v e at is any).stays stays).whole;
  left_unshown = λ j v e at is gone alone wrong r.
      elim ((all_served P A L s r j v e at is any).left gone) [
        | inl all ↦ wrong all
        | inr taken ↦ alone taken
      ];
  one_number = λ i j v w e f apart at is stays here shown stays_too same r.
      apart (ap seat_of (sym ((listens_here P A L s r i v e at is any).here stays) ∙ ap r.ear same
      ∙ (listens_here P A L s r j w f here shown any).here stays_too));
  unattended = λ me below held none r. grind (arith, common_steps, some_or_none, slice_index);
  unseen = λ me below none r. let h = all_have_seats P A s r me below in none h.0 h.1 h.2 h.3;
}
