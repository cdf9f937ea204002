-- What the close of a table tells of the bus that it was.
use Rattle.std.proofs.Common.{◌≡◌, ◌≢◌, ℕ, zero, suc, ◌+◌, ◌-◌, ◌%◌, ◌<◌, ◌≤◌, false}
use Rattle.std.proofs.Common.{Option, Some, None, is_some, List, [], ◌∷◌, ◌++◌, length, map, drop}
use Rattle.std.proofs.Common.{slice_get, slice_index, take, inl, arith, refl, sym, ◌∙◌, ap, subst}
use mathlib.Core.Option.{some, none, some-injective, some-ne-none}
use mathlib.Core.Option as maybe
use lib.ListN.{get_elem?}
use Rattle.std.proofs.lemmas.Bool.{true≢false}
use Rattle.std.proofs.lemmas.List.{length-drop}
use Rattle.std.proofs.lemmas.Grind.{common_steps}
use Rattle.atomic_table.specs.Table.{Final, Seen}
use Rattle.bus_register.specs.declared.limits.TheConstants.{MOST_SENDERS}
use Rattle.bus_register.specs.declared.registers.SenderNo.{SenderNo}
use Rattle.bus_batch.specs.Frames.{IsLog, Order, Spells, has_gone, order_of}
use Rattle.bus_batch.specs.Frames.{tenure_and_owner}
use Rattle.bus_batch.proofs.FrameLaws.{same_log, spells_one}
use Rattle.bus_deliverylog.specs.Orders.{of_sender}
use Rattle.bus_tenure.specs.declared.pages.Page.{Page}
use Rattle.bus_machine.proofs.Frames.Paging.{some_is}
use Rattle.bus_world.specs.Headline.{IsPrefix}
use Rattle.bus_world.specs.Log.{floor_shown, words_in_ring}
use Rattle.bus_world.specs.Floors.{IsBoundary}
use Rattle.bus_pageslot.specs.ReceiverViews.{ReceiverView}
use Rattle.bus_pageslot.specs.declared.rule.View.{View}
use Rattle.bus_pageslot.specs.declared.rule.View.TheVariants.{Tap}
use Rattle.bus_automaton.specs.Processes.{TableLayout, Process, Automaton, base_in, log_in}
use Rattle.bus_automaton.specs.Lawful.{AutomatonLaws, HasLog, floor_in, log_from_floor}
use Rattle.bus_pageslot.specs.Rule.{slot_of, receiver_view_in, known_in, KnowsLog, TableInvariant}
use Rattle.bus_pageslot.specs.Endings.{IsLeft}
use Rattle.bus_pageslot.specs.Outcomes.{IsOutcome, KnowsWhole}
use Rattle.bus_pageslot.specs.Places.{AreIn}
use Rattle.bus_pageslot.specs.declared.outcomes.Places.{Places}
use Rattle.bus_pageslot.proofs.Said.LastFrames.{floor_within, first_log, last_spell, before}
use Rattle.bus_pageslot.proofs.Said.LastFrames.{counted}
use Rattle.bus_pageslot.proofs.Said.LastFrames.{item_behind, has_left, has_ended}
use Rattle.bus_pageslot.proofs.Said.Promising.{seats_promised}
use Rattle.bus_pageslot.proofs.Said.Rings.{all_served}

-- a word of a list
pub word_at : (ws : List ℕ) (i w : ℕ) → get_elem? ws i ≡ some w → slice_index ws i ≡ w
word_at [] i w e = absurd (some-ne-none w (sym e))
word_at (v ∷ ws) zero w e = some-injective v w e
word_at (v ∷ ws) (suc i) w e = word_at ws i w e

-- one word more
pub read-next : (words : ℕ → ℕ) (at capacity place k w : ℕ)
    → words (at + (place + k) % capacity) ≡ w
    → words_in_ring words at capacity place k ++ w ∷ []
    ≡ words_in_ring words at capacity place (k + 1)
read-next words at capacity place k w e = grind (arith, common_steps)

pub nothing_there : {A : Type 0} (o : Option A) → is_some o ≡ false → o ≡ None
nothing_there None e = refl
nothing_there (Some x) e = absurd (true≢false e)

-- what is in the slot
pub slot_is : (home : Option Page) (page : Page) → slot_of home ≡ slot_of (Some page)
    → home ≡ Some page
slot_is None page e = absurd (some-ne-none (Some page) (sym e))
slot_is (Some other) page e = some-injective (Some other) (Some page) e

-- the floor and the words from there on, of a table of which this is known
module _ (x : TableLayout) (p : Places) (h : AreIn x p) (ws : List ℕ) (len : ℕ)
    (long : slice_index ws 0 ≡ len) where
  pub floor_at : floor_shown (slice_index ws) p.passed p.passers len ≡ floor_in x ws
  floor_at = λ i. floor_shown (slice_index ws) (h.passed i) (h.passers i) (sym long i)

  pub read_at : (floor : ℕ) → floor ≡ floor_in x ws
      → words_in_ring (slice_index ws) p.log p.log_words floor (len - floor) ≡ log_from_floor x ws
  read_at floor is =
      λ i. words_in_ring (slice_index ws) (h.log i) (h.log_words i) (is i) (sym long i - is i)

module _ {C : Type 0} (P : Process C) (A : Automaton C) (L : AutomatonLaws P A) where
  -- ---- what the page knows
  -- of the order that all that was published spells
  page_whole : (z : A.State) (page : Page) → A.IsReached z → A.home z ≡ Some page → (order : Order)
      (owners : List (ℕ × SenderNo)) → Spells A.table_layout.senders (log_in A z) order owners
      → KnowsWhole (base_in A) page order × (page.words ≡ length (log_in A z))
      × (page.floor ≤ page.words)
  page_whole z page reached home order owners s = grind (arith, common_steps, length)

  -- the page at home knows the words that stand, where its tenures are above those of their frames,
  -- and its floor is not past the log's
  pub outcome_of : (v : View C) (log : List ℕ) (floor : ℕ) (page : Page)
      → IsLeft P A v log floor (Some page)
      → ((order : Order) (owners : List (ℕ × SenderNo))
      → Spells A.table_layout.senders log order owners
      → (place t : ℕ) (o : SenderNo) → slice_get owners place ≡ Some (t, o) → t < page.tenures)
      → page.floor ≤ floor
      → IsOutcome record {
        senders = A.table_layout.senders;
        bases = A.bases;
        floor = floor;
        log = log;
        page = page;
      }
  outcome_of v log floor page h above low =
      let z = h.shown.state in
      let n = A.table_layout.senders in
      let s = h.promised.spelled in
      let hl : HasLog A z = L.log z h.shown.reached in
      let same : hl.frames ≡ s.frames =
      same_log n 0 0 hl.frames s.frames hl.lawful s.lawful (hl.words_are ∙ sym s.words_are) in
      let at : floor_in A.table_layout (A.words z) ≡ floor =
      ap (floor_in A.table_layout) (sym h.shown.words) ∙ h.floor_is in
      let b : IsBoundary s.frames floor =
      subst (IsBoundary s.frames) at
      (subst (λ fs. IsBoundary fs (floor_in A.table_layout (A.words z))) same hl.edge) in
      let knows = h.knows page refl in
      let whole = knows.0 in
      let faithful = (h.promised.promises (λ r. []) (λ r. inl refl)).faithful in
      let spells : Spells n log (order_of b.rest) (map tenure_and_owner b.rest) =
      subst (λ ws. Spells n ws (order_of b.rest) (map tenure_and_owner b.rest))
      (ap (drop floor) s.words_are ∙ h.published) (last_spell n s.frames floor b s.lawful) in
      let next : (p : ℕ) → p < MOST_SENDERS → slice_index page.next p
      ≡ base_in A p + length (of_sender p (order_of s.frames)) =
      λ p l. whole.next p l
      ∙ ap (λ (o : Order). base_in A p + length (of_sender p o)) (sym s.order_is) in
      record {
        order = order_of b.rest;
        owners = map tenure_and_owner b.rest;
        spells = spells;
        words = grind (arith, common_steps, length-drop, length);
        floor = low;
        rest = record {
          numbered = λ p k i l here.
              let first = before n s.frames floor b p in
              let at_all : slice_get (of_sender p h.promised.order) (first + k) ≡ Some i =
              ap (λ (o : Order). slice_get (of_sender p o) (first + k))
              (sym s.order_is) ∙ item_behind n s.frames floor b p k ∙ here in
              let number = faithful.numbered p (first + k) i at_all in
              let many = counted n s.frames floor b p in
              let more = next p l in omega arith;
          counts = λ p l.
              let many = counted n s.frames floor b p in
              let more = next p l in omega arith;
          left = λ p l gone.
              whole.left p l
              ∙ ap (λ (o : Order). Some (has_gone p o)) (sym s.order_is)
              ∙ ap (λ e. Some e) (has_left n s.frames floor b p gone);
          ended = λ e.
              whole.ended ∙ ap (λ (o : Order). o.ended) (sym s.order_is)
              ∙ has_ended n s.frames floor b e;
        };
        whole = λ first.
            let all : log_in A z ≡ log = ap (λ k. drop k (log_in A z)) (sym first) ∙ h.published in
            subst (KnowsWhole (base_in A) page)
            (spells_one n log h.promised.order (order_of b.rest) h.promised.owners
            (map tenure_and_owner b.rest)
            (subst (λ ws. Spells n ws h.promised.order h.promised.owners) all s) spells).0
            whole;
        tenures = above (order_of b.rest) (map tenure_and_owner b.rest) spells;
      }

  -- ---- what the close of a table tells
  module _ (id : ℕ) (v : View C) (x : TableLayout) (e : ReceiverView) (is : v ≡ Tap x e)
      (ws : List ℕ) (xs : List (Option Page))
      (f : Final (Seen (TableInvariant P A) id v) ws xs) where
    pub shown : TableInvariant P A f.0
    shown = f.1.0

    words_are : A.words shown.state ≡ ws
    words_are = sym shown.words ∙ f.2

    pub wide : length ws ≡ A.table_layout.words
    wide = ap length (sym words_are) ∙ L.wide shown.state shown.reached

    has_log : HasLog A shown.state
    has_log = L.log shown.state shown.reached

    -- the floor is not past the length
    floor_low : floor_in A.table_layout (A.words shown.state) ≤ length (log_in A shown.state)
    floor_low = grind (arith, common_steps, shown, length, has_log, floor_within)

    pub rising : floor_in A.table_layout ws ≤ slice_index ws 0
    rising = subst (λ l. floor_in A.table_layout l ≤ slice_index l 0) words_are
        (let low = floor_low in let long = has_log.long in omega arith)

    -- and the log from there on fits its words, of a table of which that is so
    pub fits : slice_index f.0.words 0
        ≤ A.table_layout.capacity + floor_in A.table_layout f.0.words
        → slice_index ws 0 - floor_in A.table_layout ws ≤ A.table_layout.capacity
    fits few = grind (arith, common_steps, slice_index)

    stage_is : (stage : ℕ) → slice_index ws 1 ≡ stage → slice_index (A.words shown.state) 1 ≡ stage
    stage_is stage at = ap (λ l. slice_index l 1) words_are ∙ at

    at_tap : get_elem? f.0.views id ≡ some (Tap x e)
    at_tap = f.1.1 ∙ ap (λ (u : View C). some u) is

    -- the floor is not past what this receiver has passed, which has not left
    floor_passed : e.gone ≡ false → 0 < A.table_layout.passers
        → floor_in A.table_layout ws ≤ e.passed
    floor_passed stays any = subst (λ l. floor_in A.table_layout l ≤ e.passed) f.2
        ((all_served P A L f.0 shown id (Tap x e) e at_tap refl any).stays stays).floor

    -- what is left, with what is home
    left : e.gone ≡ false → (home : Option Page) → A.home shown.state ≡ home → (floor : ℕ)
        → floor ≡ floor_in A.table_layout ws → (log : List ℕ)
        → log ≡ log_from_floor A.table_layout ws
        → IsLeft P A v log floor home
    left stays home at floor floor_is log log_is =
        let z = shown.state in
        let k : KnowsLog A z shown.ear id x e = shown.views id (Tap x e) at_tap in
        let hl = has_log in
        let promised = seats_promised P A L f.0 shown in
        let floor_at : floor_in A.table_layout (A.words z) ≡ floor =
        ap (floor_in A.table_layout) words_are ∙ sym floor_is in
        let published : drop floor (log_in A z) ≡ log =
        ap (λ k. drop k (log_in A z)) (sym floor_at) ∙ sym hl.shows
        ∙ ap (log_from_floor A.table_layout) words_are ∙ sym log_is in
        record {
          table = f.0;
          shown = shown;
          here = (id, f.1.1);
          floor_is = ap (floor_in A.table_layout) f.2 ∙ sym floor_is;
          log_is = ap (log_from_floor A.table_layout) f.2 ∙ sym log_is;
          published = published;
          within = subst (λ k. k ≤ length (log_in A z)) floor_at floor_low;
          edge = subst (λ k. IsLog A.table_layout.senders (take k (log_in A z))) floor_at
              (first_log A.table_layout.senders hl.frames
              (floor_in A.table_layout (A.words z)) hl.edge (log_in A z) hl.words_are hl.lawful);
          passed = λ any. subst (λ (u : View C). floor ≤ (receiver_view_in u).passed) (sym is)
              (subst (λ k. k ≤ e.passed) (sym floor_is) (floor_passed stays any));
          flat = λ none. grind (arith, common_steps, slice_index, shown, drop);
          home_is = shown.slot ∙ ap (λ (u : Option Page). slot_of u ∷ []) at;
          promised = promised;
          front = subst (λ (u : View C). IsPrefix (known_in u) (log_in A z)) (sym is) k.front;
          knows = λ page here. page_whole z page shown.reached (at ∙ here) promised.order
              promised.owners promised.spelled;
        }

    pub left_out : e.gone ≡ false → (stage : ℕ) → slice_index ws 1 ≡ stage → stage % 2 ≡ 1
        → (log : List ℕ) × (floor : ℕ) × IsLeft P A v log floor None
    left_out stays stage at odd =
        let away =
        L.odd_away shown.state shown.reached (ap (λ n. n % 2) (stage_is stage at) ∙ odd) in (
          _,
          _,
          left stays None (nothing_there (A.home shown.state) away) (floor_in A.table_layout ws)
              refl (log_from_floor A.table_layout ws) refl,
        )

    pub left_home : e.gone ≡ false → (stage : ℕ) → slice_index ws 1 ≡ stage → stage % 2 ≢ 1
        → (slot : Option Page)
        → get_elem? xs 0 ≡ some slot → (floor : ℕ) → floor ≡ floor_in A.table_layout ws
        → (log : List ℕ) → log ≡ log_from_floor A.table_layout ws
        → (page : Page) × (slot ≡ Some page) × IsLeft P A v log floor (Some page)
    left_home stays stage at even slot in_slot floor floor_is log log_is =
        let there = L.even_at_home shown.state shown.reached
        (λ odd. even (ap (λ n. n % 2) (sym (stage_is stage at)) ∙ odd)) in
        let h = some_is (A.home shown.state) there in
        let there : get_elem? f.0.homes 0 ≡ some (some (Some h.0)) = ap
        (λ (hs : List (maybe.Option (Option Page))). get_elem? hs 0)
        (shown.slot ∙ ap (λ (u : Option Page). slot_of u ∷ []) h.1) in
        grind (arith, some-injective, left)
