-- What was published stays published.
use Rattle.std.proofs.Common.{◌≡◌, ◌≢◌, ◌⊎◌, ℕ, ◌<◌, Option, List, [], ◌∷◌, ◌++◌, false, length}
use Rattle.std.proofs.Common.{set, slice_index, arith, refl, sym, ◌∙◌, ap, subst, inl, inr}
use mathlib.Core.Option.{some}
use lib.ListN.{get_elem?}
use Rattle.std.proofs.lemmas.List.{append-nil, length-append}
use Rattle.std.proofs.lemmas.Grind.{common_steps}
use Rattle.atomic_table.specs.Table.{State}
use Rattle.atomic_table.proofs.Lists.{at_set, set_else}
use Rattle.bus_tenure.specs.declared.pages.Page.{Page}
use Rattle.bus_world.specs.Headline.{IsPrefix}
use Rattle.bus_world.proofs.Growing.{nothing_more, prefix_after, same_prefix}
use Rattle.bus_automaton.specs.Lawful.{AutomatonLaws}
use Rattle.bus_automaton.specs.Processes.{TableLayout, Process, Automaton, log_cell, log_in}
use Rattle.bus_automaton.specs.Processes.{passed_word}
use Rattle.bus_pageslot.specs.Lasting.{LeavesViews, LeavesOthers, RuledTable, StepsOn, StepsTo}
use Rattle.bus_pageslot.specs.Lasting.{IsByOthers, published}
use Rattle.bus_pageslot.specs.Lasting.StepsOn.{NoneYet, OneMore}
use Rattle.bus_pageslot.specs.Lasting.StepsTo.{Sends, Looks, Stores, Loads, LoadsJoined, Joins}
use Rattle.bus_pageslot.specs.Lasting.StepsTo.{Parts, CutsSender, CutsTap, Forks, TriesToFork}
use Rattle.bus_pageslot.specs.Lasting.StepsTo.{Copies}
use Rattle.bus_pageslot.specs.Listening.{FindsLength, FindsWord}
use Rattle.bus_pageslot.specs.Notes.{Look}
use Rattle.bus_pageslot.specs.ReceiverViews.{ReceiverView, heard_length, length_turn}
use Rattle.bus_pageslot.specs.ReceiverViews.{receiver_tried, receiver_view_after_load}
use Rattle.bus_pageslot.specs.ReceiverViews.{receiver_view_knowing}
use Rattle.bus_pageslot.specs.Rings.{ShowsReceiver}
use Rattle.bus_pageslot.specs.Rule.{IsFirst, IsTrueOf, KnowsLog, MayRead, Sat, Seats, SeatsReceiver}
use Rattle.bus_pageslot.specs.Rule.{SeatsStaying}
use Rattle.bus_pageslot.specs.Rule.{TableInvariant, all_knowing, first_of, known_in, second_of}
use Rattle.bus_pageslot.specs.Rule.{views_joined, with_look}
use Rattle.bus_pageslot.specs.Steps.{Learns, Meets, Reads}
use Rattle.bus_pageslot.specs.declared.rule.View.{View}
use Rattle.bus_pageslot.specs.declared.rule.View.TheVariants.{Maker, Sender, Tap, Meeting, Telling}
use Rattle.bus_pageslot.specs.declared.rule.View.TheVariants.{Spent}
use Rattle.bus_pageslot.proofs.Ruled.AllSeats.{SeatsAny, still_seen}
use Rattle.bus_pageslot.proofs.Hears.Forking.{tried}
use Rattle.bus_pageslot.proofs.Hears.Hearing.{heard_loaded, heard_quiet}
use Rattle.bus_pageslot.proofs.Hears.Joining.{both_agree, join_leaves, knows_sent, part_leaves}
use Rattle.bus_pageslot.proofs.Hears.Joining.{pairs}
use Rattle.bus_pageslot.proofs.Hears.Loads.{fits, knows_all, known_word, listens_on, size, whole}
use Rattle.bus_pageslot.proofs.Hears.Loads.{look_seen, look_true, word_found}

-- ---- a load: one view is replaced
module _ {C : Type 0} (P : Process C) (A : Automaton C) (s : State (Option Page) (View C))
    (r : TableInvariant P A s) (id : ℕ) where
  replaced : (v w : View C) → get_elem? s.views id ≡ some v
      → ((who : ℕ ⊎ ℕ ⊎ ℕ) → SeatsAny P who v → SeatsAny P who w)
      → IsTrueOf P A r.state r.seat r.ear id w → LeavesOthers P A s r id w
  replaced v w at still true_of = record {
    rule = record {
      state = r.state;
      reached = r.reached;
      words = r.words;
      slot = r.slot;
      seat = r.seat;
      ear = r.ear;
      views = λ j u e. grind (arith, common_steps, some, at_set);
      all = λ p below. still_seen (Seats P p) s.views id v w at (still (inl p)) (r.all p below);
      all_heard = λ q below. still_seen (SeatsReceiver q) s.views id v w at
          (still (inr (inl q))) (r.all_heard q below);
      all_staying = λ q p is. still_seen (SeatsStaying q) s.views id v w at
          (still (inr (inr q))) (r.all_staying q p is);
    };
    log = refl;
  }

  pub look_leaves : (look : Look) (v : View C) → get_elem? s.views id ≡ some v
      → LeavesOthers P A s r id (with_look v look)
  look_leaves look v at =
      replaced v (with_look v look) at (λ who h. look_seen P look v who h)
      (look_true P A r.state r.seat r.ear id look v (r.views id v at))

module _ {C : Type 0} (P : Process C) (A : Automaton C) (L : AutomatonLaws P A)
    (s : State (Option Page) (View C)) (r : TableInvariant P A s) (id : ℕ) where
  abbrev all : List ℕ
  all = log_in A r.state

  abbrev got : ℕ
  got = slice_index s.words 0

  module _ (x : TableLayout) (e : ReceiverView) (at : get_elem? s.views id ≡ some (Tap x e)) where
    h : KnowsLog A r.state r.ear id x e
    h = r.views id (Tap x e) at

    pub length_leaves : LeavesOthers P A s r id (Tap x (receiver_view_knowing e all))
        × Learns {C = C} (Tap x e, []) got (Tap x (receiver_view_knowing e all), [])
    length_leaves = (
      replaced P A s r id (Tap x e) (Tap x (receiver_view_knowing e all)) at (λ p is. is)
          (whole A r.state r.ear id x e h),
      record {
        known = all;
        now = refl;
        grows = h.front;
        length_is = size P A L s r;
        within = fits P A L s r x h.table_layout;
      },
    )

    pub turn_leaves : e.ended ≡ false
        → LeavesOthers P A s r id (Tap x (heard_length e all (length_turn e.place got)))
        × FindsLength {C = C} (Tap x e, []) got
        (Tap x (heard_length e all (length_turn e.place got)), [])
    turn_leaves going =
        let e' : ReceiverView = heard_length e all (length_turn e.place got) in (
          replaced P A s r id (Tap x e) (Tap x e') at (λ p is. is)
              (knows_all A r.state r.ear id x e e' h refl refl
              (heard_quiet h.frames e h.heard all got going) refl refl refl),
          record {
            known = all;
            grows = h.front;
            length_is = size P A L s r;
            within = fits P A L s r x h.table_layout;
            now = refl;
          },
        )

    pub try_leaves : (number : ℕ) → LeavesOthers P A s r id
        (Tap x (receiver_tried e (passed_word x number)
        (slice_index s.words (passed_word x number))))
    try_leaves number =
        let found = slice_index s.words (passed_word x number) in
        replaced P A s r id (Tap x e) (Tap x (receiver_tried e (passed_word x number) found)) at
        (λ p is. is) (tried P A L s r id x e at number found)

    pub word_leaves : (place : ℕ) → MayRead x e place → place < length e.known
        → LeavesOthers P A s r id (Tap x (receiver_view_after_load e (log_cell x place)))
        × Reads {C = C} (Tap x e, []) (log_cell x place) (slice_index s.words (log_cell x place))
        (Tap x (receiver_view_after_load e (log_cell x place)), [])
    word_leaves place may below =
        let e' : ReceiverView = receiver_view_after_load e (log_cell x place) in (
          replaced P A s r id (Tap x e) (Tap x e') at (λ p is. is) (record {
            table_layout = h.table_layout;
            front = h.front;
            below = h.below;
            frames = h.frames;
            lawful = h.lawful;
            words_are = h.words_are;
            heard = heard_loaded h.frames e h.heard (log_cell x place);
            listens = listens_on A r.state r.ear id e e' refl refl refl (omega arith) h.listens;
          }),
          record {
            now = refl;
            got_is = λ q may_q low same.
                ap (slice_index s.words) same ∙ known_word P A L s r id x e h q may_q low;
          },
        )

    pub turn_word_leaves : e.ended ≡ false → MayRead x e e.place → e.place < length e.known
        → (now : View C) × LeavesOthers P A s r id now
        × FindsWord (Tap x e, []) (slice_index s.words (log_cell x e.place)) (now, [])
    turn_word_leaves going may below =
        let w = word_found P A L id (Tap x e, []) x e refl going may below s r at in
        (w.view, replaced P A s r id (Tap x e) w.view at w.still w.true_of, w.finds)

  -- ---- joined seats
  pub joined_leaves : (v : View C) → IsFirst v → (y : TableLayout) (l : ReceiverView)
      (carried : List (ℕ × Option Page)) → get_elem? s.views id ≡ some (views_joined v (Tap y l))
      → LeavesOthers P A s r id (all_knowing (views_joined v (Tap y l)) all)
      × Meets P (views_joined v (Tap y l), carried) got
      (all_knowing (views_joined v (Tap y l)) all, carried)
  joined_leaves (Maker x made) is y l carried = absurd is
  joined_leaves (Sender c t notes) is y l carried = λ at.
      let h = r.views id (Telling c t notes y l) at in (
        replaced P A s r id (Telling c t notes y l)
            (Telling c t notes y (receiver_view_knowing l all)) at (λ p is. is)
            (h.0, whole A r.state r.ear id y l h.1),
        record {
          known = all;
          now = refl;
          length_is = size P A L s r;
          grows = (
            h.1.front,
            fits P A L s r y h.1.table_layout,
            knows_sent P A L s r id c t notes.stored h.0,
          );
        },
      )
  joined_leaves (Tap x k) is y l carried = λ at.
      let h = r.views id (Meeting x k y l) at in (
        replaced P A s r id (Meeting x k y l)
            (Meeting x (receiver_view_knowing k all) y (receiver_view_knowing l all)) at
            (λ p is. is)
            (whole A r.state r.ear id x k h.0, whole A r.state r.ear id y l h.1, h.2),
        record {
          known = all;
          now = refl;
          length_is = size P A L s r;
          grows = (
            h.0.front,
            h.1.front,
            fits P A L s r x h.0.table_layout,
            fits P A L s r y h.1.table_layout,
            both_agree A r.state r.ear id x y k l h.0 h.1,
          );
        },
      )
  joined_leaves (Meeting x k z m) is y l carried = absurd is
  joined_leaves (Telling c t stored z m) is y l carried = absurd is
  joined_leaves Spent is y l carried = absurd is

  pub seats_join : (other : ℕ) (v : View C) (y : TableLayout) (l : ReceiverView)
      → get_elem? s.views id ≡ some v → IsFirst v → get_elem? s.views other ≡ some (Tap y l)
      → id ≢ other
      → LeavesViews P A s r (set (set s.views id (views_joined v (Tap y l))) other Spent)
  seats_join other v y l at is there apart =
      let other_is : other ≢ id = λ e. apart (sym e) in
      join_leaves P A v is y l id other s r at other_is
      (set_else s.views id other (views_joined v (Tap y l)) other_is ∙ there)

  pub seats_part : (v : View C) (y : TableLayout) (l : ReceiverView) → IsFirst v
      → get_elem? s.views id ≡ some (views_joined v (Tap y l))
      → LeavesViews P A s r (set s.views id (first_of (views_joined v (Tap y l)))
      ++ second_of (views_joined v (Tap y l)) ∷ [])
  seats_part v y l is at =
      part_leaves P A (views_joined v (Tap y l)) (pairs P A v is y l) id s r at

  -- ---- who knows as many words as the length says
  nothing_left : (rest : List ℕ) → length rest ≡ 0 → rest ≡ []
  nothing_left [] e = refl
  nothing_left (x ∷ more) e = absurd (omega arith)

  all_of_it : (known : List ℕ) → IsPrefix known all → length known ≡ got → known ≡ all
  all_of_it known front long =
      grind (arith, common_steps, size, length-append, length, nothing_left, append-nil)

  front_of : (v : View C) (e : ReceiverView) → ShowsReceiver e v
      → IsTrueOf P A r.state r.seat r.ear id v → IsPrefix e.known all
  front_of (Maker x made) e is h = absurd is
  front_of (Sender c t stored) e is h = absurd is
  front_of (Tap x f) e is h = subst (λ (g : ReceiverView). IsPrefix g.known all) is h.front
  front_of (Meeting x f y g) e is h = grind (arith, common_steps)
  front_of (Telling c t stored x f) e is h =
      subst (λ (g : ReceiverView). IsPrefix g.known all) is h.1.front
  front_of Spent e is h = absurd is

  pub knows_whole : (v : View C) (e : ReceiverView) → get_elem? s.views id ≡ some v
      → ShowsReceiver e v → length e.known ≡ got → e.known ≡ all
  knows_whole v e at is long = all_of_it e.known (front_of v e is (r.views id v at)) long

  pub learns_whole : (x : TableLayout) (e : ReceiverView) (m : Sat C)
      → get_elem? s.views id ≡ some m.0 → Learns (Tap x e, []) got m → known_in m.0 ≡ all
  learns_whole x e m at learns =
      let f = receiver_view_knowing e learns.known in
      ap (λ (y : Sat C). known_in y.0) learns.now
      ∙ knows_whole (Tap x f) f (at ∙ ap (λ (y : Sat C). some y.0) learns.now) refl
      learns.length_is

  pub hears_whole : (x : TableLayout) (e : ReceiverView) (m : Sat C)
      → get_elem? s.views id ≡ some m.0 → FindsLength (Tap x e, []) got m → known_in m.0 ≡ all
  hears_whole x e m at finds =
      let f = heard_length e finds.known (length_turn e.place got) in
      ap (λ (y : Sat C). known_in y.0) finds.now
      ∙ knows_whole (Tap x f) f (at ∙ ap (λ (y : Sat C). some y.0) finds.now) refl
      finds.length_is

-- ---- any number of steps
module _ {C : Type 0} (P : Process C) (A : Automaton C) where
  pub step_begins : (s t : RuledTable P A) → StepsTo P A s t → IsPrefix (published s) (published t)
  step_begins s _ (Sends seat m d word many o at due w) = w.so
  step_begins s _ (Looks seat v at here w) = same_prefix (published s) _ w.log
  step_begins s _ (Stores seat x e number view at stores w) = same_prefix (published s) _ w.log
  step_begins s _ (Loads seat m view at loads w) = same_prefix (published s) _ w.log
  step_begins s _ (LoadsJoined seat m view at meets w) = same_prefix (published s) _ w.log
  step_begins s _ (Joins seat other v w at there apart k) = same_prefix (published s) _ k.log
  step_begins s _ (Parts seat v at k) = same_prefix (published s) _ k.log
  step_begins s _ (CutsSender seat v p at k) = same_prefix (published s) _ k.log
  step_begins s _ (CutsTap seat v at k) = same_prefix (published s) _ k.log
  step_begins s _ (Forks seat x e number at free w) = same_prefix (published s) _ w.log
  step_begins s _ (TriesToFork seat x e number at taken w) = same_prefix (published s) _ w.log
  step_begins s _ (Copies seat v at k) = same_prefix (published s) _ k.log

  pub step_same : (s t : RuledTable P A) (step : StepsTo P A s t) → IsByOthers P A s t step
      → published t ≡ published s
  step_same s _ (Sends seat m d word many o at due w) other = absurd other
  step_same s _ (Looks seat v at here w) other = w.log
  step_same s _ (Stores seat x e number view at stores w) other = w.log
  step_same s _ (Loads seat m view at loads w) other = w.log
  step_same s _ (LoadsJoined seat m view at meets w) other = w.log
  step_same s _ (Joins seat other v w at there apart k) it = k.log
  step_same s _ (Parts seat v at k) other = k.log
  step_same s _ (CutsSender seat v p at k) other = k.log
  step_same s _ (CutsTap seat v at k) other = k.log
  step_same s _ (Forks seat x e number at free w) other = w.log
  step_same s _ (TriesToFork seat x e number at taken w) other = w.log
  step_same s _ (Copies seat v at k) other = k.log

  pub steps_begin : (s t : RuledTable P A) → StepsOn P A s t → IsPrefix (published s) (published t)
  steps_begin s _ NoneYet = nothing_more (published s)
  steps_begin s t (OneMore u _ before step) =
      prefix_after (published s) (published u) (published t) (steps_begin s u before)
      (step_begins u t step)
