-- A receiver's loads are allowed.
use Rattle.std.proofs.Common.{◌≡◌, ◌⊎◌, ℕ, ◌<◌, ◌≤◌, Option, Some, List, length, false, set}
use Rattle.std.proofs.Common.{slice_get, slice_index, slice_set, arith, refl, sym, ◌∙◌, ap, subst}
use Rattle.std.proofs.Common.{inl, inr}
use mathlib.Core.Option.{some}
use lib.ListN.{get_elem?}
use Rattle.std.proofs.lemmas.List.{append-nil, length-append, get_or_append_left, set-get_or}
use Rattle.std.proofs.lemmas.Grind.{common_steps}
use Rattle.atomic_table.specs.Table.{State, keeps, Allows}
use Rattle.atomic_table.proofs.Lists.{at_set}
use Rattle.bus_register.specs.Private.TableLaws.{some_or_none, here_not}
use Rattle.bus_batch.specs.Frames.{log_pieces}
use Rattle.bus_deliverylog.specs.Receiving.{turn_of}
use Rattle.bus_tenure.specs.Core.{length_at}
use Rattle.bus_tenure.specs.declared.pages.Page.{Page}
use Rattle.bus_world.specs.Headline.{IsPrefix}
use Rattle.bus_world.proofs.ReceivingLaws.{length-log_pieces}
use Rattle.bus_pageslot.specs.ReceiverViews.{ReceiverView, receiver_view_after_load}
use Rattle.bus_pageslot.specs.ReceiverViews.{receiver_view_knowing, heard_length, heard_word}
use Rattle.bus_pageslot.specs.ReceiverViews.{length_turn, HasHeard}
use Rattle.bus_pageslot.specs.declared.rule.View.{View}
use Rattle.bus_pageslot.specs.declared.rule.View.TheVariants.{Maker, Sender, Tap, Meeting, Telling}
use Rattle.bus_pageslot.specs.declared.rule.View.TheVariants.{Spent}
use Rattle.bus_automaton.specs.Processes.{TableLayout, Process, Automaton, log_cell, log_in}
use Rattle.bus_automaton.specs.Lawful.{AutomatonLaws, MayAsk}
use Rattle.bus_pageslot.specs.Rule.{Sat, Seats, SeatsReceiver, SeatsStaying, IsListening, Ear}
use Rattle.bus_pageslot.specs.Rule.{KnowsLog, IsTrueOf, receiver_view_in, known_in}
use Rattle.bus_pageslot.specs.Rule.{with_receiver_view, table_layout_in, log_word_in, FitsLog}
use Rattle.bus_pageslot.specs.Rule.{MayRead, with_look, TableInvariant}
use Rattle.bus_pageslot.specs.Steps.{Learns, Reads}
use Rattle.bus_automaton.specs.declared.plans.Plan.{Plan}
use Rattle.bus_pageslot.specs.Listening.{FindsLength, FindsWord}
use Rattle.bus_pageslot.specs.Looks.{IsFoundBy}
use Rattle.bus_pageslot.specs.Notes.{Look}
use Rattle.bus_pageslot.proofs.Ruled.AllSeats.{SeatsAny, still_seen}
use Rattle.bus_pageslot.proofs.Hears.Hearing.{heard_loaded, heard_learnt, heard_quiet, heard_good}

-- one view replaced, after a load
pub reloaded : {C : Type 0} (P : Process C) (A : Automaton C) (s : State (Option Page) (View C))
    (r : TableInvariant P A s) (i id : ℕ) (v w : View C) → get_elem? s.views id ≡ some v
    → ((who : ℕ ⊎ ℕ ⊎ ℕ) → SeatsAny P who v → SeatsAny P who w)
    → IsTrueOf P A r.state r.seat r.ear id w
    → TableInvariant P A record {
      words = slice_set s.words i (slice_index s.words i);
      homes = s.homes;
      views = set s.views id w;
    }
reloaded {C} P A s r i id v w at still fits = record {
  state = r.state;
  reached = r.reached;
  words = set-get_or s.words i 0 ∙ r.words;
  slot = r.slot;
  seat = r.seat;
  ear = r.ear;
  views = λ j v e. grind (arith, common_steps, some, at_set);
  all = λ p below. still_seen (Seats P p) s.views id v w at (still (inl p)) (r.all p below);
  all_heard = λ q below. still_seen (SeatsReceiver q) s.views id v w at (still (inr (inl q)))
      (r.all_heard q below);
  all_staying = λ q p is. still_seen (SeatsStaying q) s.views id v w at (still (inr (inr q)))
      (r.all_staying q p is);
}

-- what a seat shows stays true where it shows a look more, and who shows in it
pub look_true : {C : Type 0} (P : Process C) (A : Automaton C) (z : A.State) (seat : ℕ → ℕ)
    (ear : ℕ → Ear) (j : ℕ) (look : Look) (v : View C) → IsTrueOf P A z seat ear j v
    → IsTrueOf P A z seat ear j (with_look v look)
look_true P A z seat ear j look (Maker x made) h = h
look_true P A z seat ear j look (Sender c t notes) h = h
look_true P A z seat ear j look (Tap x e) h = h
look_true P A z seat ear j look (Meeting x e y f) h = h
look_true P A z seat ear j look (Telling c t notes x e) h = h
look_true P A z seat ear j look Spent h = h

pub look_seen : {C : Type 0} (P : Process C) (look : Look) (v : View C) (who : ℕ ⊎ ℕ ⊎ ℕ)
    → SeatsAny P who v → SeatsAny P who (with_look v look)
look_seen P look (Maker x made) who h = h
look_seen P look (Sender c t notes) (inl p) h = h
look_seen P look (Sender c t notes) (inr (inl r)) h = h
look_seen P look (Sender c t notes) (inr (inr r)) h = h
look_seen P look (Tap x e) who h = h
look_seen P look (Meeting x e y f) who h = h
look_seen P look (Telling c t notes x e) who h = h
look_seen P look Spent who h = h

-- a look, which the seat shows
pub look_allowed : {C : Type 0} (P : Process C) (A : Plan → Automaton C) (k : Option Plan)
    (plan : Plan) → k ≡ Some plan → (slots id : ℕ) (me : Sat C) (at : ℕ)
    → Allows (TableInvariant P (A plan)) slots id me at (λ n. n)
    (λ got m'. (m' ≡ (with_look me.0 (record { word = at; found = got }), me.1))
    × IsFoundBy P A k me.0 at got)
look_allowed P A k plan is slots id me at s r many here few =
    let look : Look = record { word = at; found = slice_index s.words at } in (
      with_look me.0 look,
      keeps,
      tt,
      reloaded P (A plan) s r at id me.0 (with_look me.0 look) here
          (λ who h. look_seen P look me.0 who h)
          (look_true P (A plan) r.state r.seat r.ear id look me.0 (r.views id me.0 here)),
      (
        refl,
        subst (λ q. IsFoundBy P A q me.0 at (slice_index s.words at)) (sym is)
            record { table = s; rule = r; here = (id, here); stood = refl },
      ),
    )

-- a receiver that has gone on, and has passed what it had passed
abbrev pub Listens : {C : Type 0} → (A : Automaton C) → A.State → (ℕ → Ear) → ℕ → ReceiverView
    → Type 0
Listens A z ear j e = (A.table_layout.passers ≡ 0) ⊎ IsListening A z ear j e

pub listens_on : {C : Type 0} (A : Automaton C) (z : A.State) (ear : ℕ → Ear) (j : ℕ)
    (e e' : ReceiverView) → e'.me ≡ e.me → e'.passed ≡ e.passed → e'.gone ≡ e.gone
    → e.place ≤ e'.place → Listens A z ear j e → Listens A z ear j e'
listens_on A z ear j e e' me passed gone on (inl flat) = inl flat
listens_on A z ear j e e' me passed gone on (inr l) = grind (arith, common_steps)

-- a receiver that knows the whole log, and has read what it had read
pub knows_all : {C : Type 0} (A : Automaton C) (z : A.State) (ear : ℕ → Ear) (j : ℕ)
    (x : TableLayout)
    (e e' : ReceiverView)
    → (h : KnowsLog A z ear j x e) → e'.known ≡ log_in A z → e'.place ≡ e.place
    → HasHeard h.frames e' → e'.me ≡ e.me → e'.passed ≡ e.passed → e'.gone ≡ e.gone
    → KnowsLog A z ear j x e'
knows_all A z ear j x e e' h all place heard me passed gone =
    grind (arith, common_steps, append-nil, length-append, length, listens_on)

pub whole : {C : Type 0} (A : Automaton C) (z : A.State) (ear : ℕ → Ear) (j : ℕ) (x : TableLayout)
    (e : ReceiverView) → KnowsLog A z ear j x e
    → KnowsLog A z ear j x (receiver_view_knowing e (log_in A z))
whole A z ear j x e h = knows_all A z ear j x e (receiver_view_knowing e (log_in A z)) h refl refl
    (heard_learnt h.frames e h.heard (log_in A z)) refl refl refl

module _ {C : Type 0} (P : Process C) (A : Automaton C) (L : AutomatonLaws P A) where
  -- the log is as long as the length that is found
  pub size : (s : State (Option Page) (View C)) (r : TableInvariant P A s)
      → length (log_in A r.state) ≡ slice_index s.words 0
  size s r = (L.log r.state r.reached).long ∙ ap (λ w. slice_index w 0) (sym r.words)

  -- and fits the log's words, where none of them is used again
  pub fits : (s : State (Option Page) (View C)) (r : TableInvariant P A s) (x : TableLayout)
      → x ≡ A.table_layout → FitsLog x (log_in A r.state)
  fits s r x is flat = grind (arith, common_steps, size, slice_index)

  pub length_allowed : (slots id : ℕ) (m : Sat C) (x : TableLayout) (e : ReceiverView)
      → m.0 ≡ Tap x e
      → Allows (TableInvariant P A) slots id m 0 (λ n. n) (λ n m'. (0 ≡ length_at) × Learns m n m')
  length_allowed slots id m x e is s r count at range =
      let here : get_elem? s.views id ≡ some (Tap x e) = at ∙ ap (λ (v : View C). some v) is in
      let h : KnowsLog A r.state r.ear id x e = r.views id (Tap x e) here in
      let all : List ℕ = log_in A r.state in (
        Tap x (receiver_view_knowing e all),
        keeps,
        tt,
        reloaded P A s r 0 id (Tap x e) (Tap x (receiver_view_knowing e all)) here (λ p is. is)
            (whole A r.state r.ear id x e h),
        (
          refl,
          record {
            known = all;
            now = λ i. (
              with_receiver_view (sym is i)
                  (receiver_view_knowing (receiver_view_in (sym is i)) all),
              m.1,
            );
            grows = subst (λ (v : View C). IsPrefix (known_in v) all) (sym is) h.front;
            length_is = size s r;
            within = subst (λ (v : View C). FitsLog (table_layout_in v) all) (sym is)
                (fits s r x h.table_layout);
          },
        ),
      )

  -- by a turn
  pub length_heard_allowed : (slots id : ℕ) (m : Sat C) (x : TableLayout) (e : ReceiverView)
      → m.0 ≡ Tap x e → e.ended ≡ false
      → Allows (TableInvariant P A) slots id m 0 (λ n. n)
      (λ n m'. (0 ≡ length_at) × FindsLength m n m')
  length_heard_allowed slots id m x e is going s r count at range =
      let here : get_elem? s.views id ≡ some (Tap x e) = at ∙ ap (λ (v : View C). some v) is in
      let h : KnowsLog A r.state r.ear id x e = r.views id (Tap x e) here in
      let all : List ℕ = log_in A r.state in
      let got : ℕ = slice_index s.words 0 in
      let e' : ReceiverView = heard_length e all (length_turn e.place got) in (
        Tap x e',
        keeps,
        tt,
        reloaded P A s r 0 id (Tap x e) (Tap x e') here (λ p is. is)
            (knows_all A r.state r.ear id x e e' h refl refl
            (heard_quiet h.frames e h.heard all got going) refl refl refl),
        (
          refl,
          record {
            known = all;
            now = λ i. (
              with_receiver_view (sym is i) (heard_length (receiver_view_in (sym is i)) all
                  (length_turn (receiver_view_in (sym is i)).place got)),
              m.1,
            );
            grows = subst (λ (v : View C). IsPrefix (known_in v) all) (sym is) h.front;
            length_is = size s r;
            within = subst (λ (v : View C). FitsLog (table_layout_in v) all) (sym is)
                (fits s r x h.table_layout);
          },
        ),
      )

-- what a receiver may ask for
may_ask : {C : Type 0} (A : Automaton C) (z : A.State) (ear : ℕ → Ear) (j : ℕ) (x : TableLayout)
    (e : ReceiverView) → KnowsLog A z ear j x e → (place : ℕ) → MayRead x e place
    → MayAsk A z e.me place
may_ask A z ear j x e h place (inl flat) =
    inl (sym (ap (λ (y : TableLayout). y.passers) h.table_layout) ∙ flat)
may_ask A z ear j x e h place (inr has) = grind (arith, common_steps)

-- the word that it knows at a place stands in its cell
pub known_word : {C : Type 0} (P : Process C) (A : Automaton C) (L : AutomatonLaws P A)
    (s : State (Option Page) (View C)) (r : TableInvariant P A s) (id : ℕ) (x : TableLayout)
    (e : ReceiverView) → KnowsLog A r.state r.ear id x e → (place : ℕ) → MayRead x e place
    → place < length e.known
    → slice_index s.words (log_cell x place) ≡ slice_index e.known place
known_word {C} P A L s r id x e h place may below =
    let more = ap length h.front.together in let parts = length-append e.known h.front.rest in
    let low : place < length (log_in A r.state) = omega arith in
    ap (λ w. slice_index w (log_cell x place)) r.words
    ∙ ap (λ y. slice_index (A.words r.state) (log_cell y place)) h.table_layout
    ∙ L.finds r.state e.me place r.reached (may_ask A r.state r.ear id x e h place may) low
    ∙ ap (λ z. slice_index z place) (sym h.front.together)
    ∙ get_or_append_left e.known h.front.rest 0 place below

pub word_allowed : {C : Type 0} (P : Process C) (A : Automaton C) (L : AutomatonLaws P A)
    (slots id : ℕ) (m : Sat C) (x : TableLayout) (e : ReceiverView) (place : ℕ) → m.0 ≡ Tap x e
    → MayRead x e place → place < length e.known
    → Allows (TableInvariant P A) slots id m (log_cell x place) (λ n. n)
    (λ n. Reads m (log_cell x place) n)
word_allowed {C} P A L slots id m x e place is may below s r count at range =
    let at_view : get_elem? s.views id ≡ some (Tap x e) = at ∙ ap (λ (v : View C). some v) is in
    let h : KnowsLog A r.state r.ear id x e = r.views id (Tap x e) at_view in
    let e' : ReceiverView = receiver_view_after_load e (log_cell x place) in (
      Tap x e',
      keeps,
      tt,
      reloaded P A s r (log_cell x place) id (Tap x e) (Tap x e') at_view (λ p is. is) (record {
        table_layout = h.table_layout;
        front = h.front;
        below = h.below;
        frames = h.frames;
        lawful = h.lawful;
        words_are = h.words_are;
        heard = heard_loaded h.frames e h.heard (log_cell x place);
        listens = listens_on A r.state r.ear id e e' refl refl refl (omega arith) h.listens;
      }),
      record {
        now = λ i. (
          with_receiver_view (sym is i)
              (receiver_view_after_load (receiver_view_in (sym is i)) (log_cell x place)),
          m.1,
        );
        got_is = subst (λ (v : View C). (q : ℕ) → MayRead (table_layout_in v) (receiver_view_in v) q
            → q < length (known_in v) → log_cell x place ≡ log_word_in v q
            → slice_index s.words (log_cell x place) ≡ slice_index (known_in v) q) (sym is)
            (λ q may_q low same.
            ap (slice_index s.words) same ∙ known_word P A L s r id x e h q may_q low);
      },
    )

-- by a turn: the word gives what it gives in the log, and the seat shows that
pub record WordFound {C : Type 0} (P : Process C) (A : Automaton C)
    (s : State (Option Page) (View C)) (r : TableInvariant P A s) (id : ℕ) (m : Sat C)
    (x : TableLayout) (e : ReceiverView) : Type 0 where
  pub view : View C
  pub still : (who : ℕ ⊎ ℕ ⊎ ℕ) → SeatsAny P who (Tap x e) → SeatsAny P who view
  pub true_of : IsTrueOf P A r.state r.seat r.ear id view
  pub finds : FindsWord m (slice_index s.words (log_cell x e.place)) (view, m.1)

pub word_found : {C : Type 0} (P : Process C) (A : Automaton C) (L : AutomatonLaws P A) (id : ℕ)
    (m : Sat C) (x : TableLayout) (e : ReceiverView) → m.0 ≡ Tap x e → e.ended ≡ false
    → MayRead x e e.place → e.place < length e.known → (s : State (Option Page) (View C))
    (r : TableInvariant P A s) → get_elem? s.views id ≡ some (Tap x e)
    → WordFound P A s r id m x e
word_found {C} P A L id m x e is going may below s r here =
    let h : KnowsLog A r.state r.ear id x e = r.views id (Tap x e) here in
    let more = ap length h.front.together in
    let parts = length-append e.known h.front.rest in
    let words = ap length h.words_are in let pieces = length-log_pieces h.frames in
    let there : e.place < length (log_pieces h.frames) = omega arith in
    elim (some_or_none (slice_get (log_pieces h.frames) e.place)) [
      | inl nobody ↦ absurd (here_not (log_pieces h.frames) e.place there nobody)
      | inr found ↦
          let e' : ReceiverView = heard_word e (log_cell x e.place) found.0 (turn_of found.0) in
          record {
            view = Tap x e';
            still = λ p is. is;
            true_of = record {
              table_layout = h.table_layout;
              front = h.front;
              below = (omega arith);
              frames = h.frames;
              lawful = h.lawful;
              words_are = h.words_are;
              heard = heard_good h.frames e h.heard (log_cell x e.place) found.0 going found.1;
              listens = listens_on A r.state r.ear id e e' refl refl refl (omega arith) h.listens;
            };
            finds = record {
              got_is =
                  known_word P A L s r id x e h e.place may below
                  ∙ ap (λ (v : View C). slice_index (known_in v) (receiver_view_in v).place)
                  (sym is);
              found = found.0;
              frames = h.frames;
              rest = h.front.rest;
              lawful = grind (arith, common_steps);
              words_are = cc;
              at = cc;
              now = λ i. (
                with_receiver_view (sym is i) (heard_word (receiver_view_in (sym is i))
                    (log_word_in (sym is i) (receiver_view_in (sym is i)).place) found.0
                    (turn_of found.0)),
                m.1,
              );
            };
          }
    ]

-- it is allowed
pub word_heard_allowed : {C : Type 0} (P : Process C) (A : Automaton C) (L : AutomatonLaws P A)
    (slots id : ℕ) (m : Sat C) (x : TableLayout) (e : ReceiverView) → m.0 ≡ Tap x e
    → e.ended ≡ false → MayRead x e e.place → e.place < length e.known
    → Allows (TableInvariant P A) slots id m (log_cell x e.place) (λ n. n)
    (λ n m'.
    (log_cell x e.place ≡ log_word_in m.0 (receiver_view_in m.0).place) × FindsWord m n m')
word_heard_allowed {C} P A L slots id m x e is going may below s r count at range =
    let here : get_elem? s.views id ≡ some (Tap x e) = at ∙ ap (λ (v : View C). some v) is in
    let w = word_found P A L id m x e is going may below s r here in (
      w.view,
      keeps,
      tt,
      reloaded P A s r (log_cell x e.place) id (Tap x e) w.view here w.still w.true_of,
      (ap (λ (v : View C). log_word_in v (receiver_view_in v).place) (sym is), w.finds),
    )
