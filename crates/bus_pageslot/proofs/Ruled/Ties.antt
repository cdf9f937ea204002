-- How what leads to a state becomes the rule of the table: each step of a sender is allowed.
use Rattle.std.proofs.Common.{◌≡◌, ◌≢◌, ℕ, ◌<◌, ◌≤◌, ◌==◌, cond, eq-eqb, ne_eqb, is_some, Option}
use Rattle.std.proofs.Common.{Some, List, [], ◌∷◌, length, set, slice_index, slice_set, arith}
use Rattle.std.proofs.Common.{refl, sym, ◌∙◌, ap, subst, ⊎_elim, inl, inr}
use mathlib.Core.Option.{some, none}
use mathlib.Core.Option as maybe
use lib.ListN.{get_elem?}
use Rattle.std.proofs.lemmas.Bool.{cases_eq}
use Rattle.std.proofs.lemmas.Grind.{flat_map-append, common_steps}
use Rattle.std.proofs.lemmas.List.{length-append, get_or-set_same}
use Rattle.std.proofs.lemmas.Option.{same_Some}
use Rattle.atomic_table.specs.Table.{State, Act, Allows, Valid, homes_after, carried_after}
use Rattle.atomic_table.proofs.Lists.{at_set}
use Rattle.bus_register.specs.declared.registers.Op.{Op}
use Rattle.bus_register.specs.declared.registers.Op.TheVariants.{Load, Store, Add, Cas}
use Rattle.bus_register.specs.declared.registers.Reg.{Reg}
use Rattle.bus_register.specs.Words.{register, after, SumFits}
use Rattle.bus_batch.specs.Frames.{log_words}
use Rattle.bus_batch.proofs.FrameLaws.{same_log}
use Rattle.bus_machine.proofs.Frames.Paging.{some_is}
use Rattle.bus_tenure.specs.Situations.{Comes}
use Rattle.bus_tenure.specs.declared.pages.Page.{Page}
use Rattle.bus_world.specs.Headline.{IsPrefix}
use Rattle.bus_world.specs.Turning.{words_after, home_moved}
use Rattle.bus_world.proofs.Growing.{prefix_after}
use Rattle.bus_pageslot.specs.Notes.{Notes}
use Rattle.bus_pageslot.specs.ReceiverViews.{ReceiverView}
use Rattle.bus_pageslot.specs.declared.rule.View.{View}
use Rattle.bus_pageslot.specs.declared.rule.View.TheVariants.{Maker, Sender, Tap, Meeting, Telling}
use Rattle.bus_pageslot.specs.declared.rule.View.TheVariants.{Spent}
use Rattle.bus_automaton.specs.Processes.{TableLayout, Process, Automaton, log_in}
use Rattle.bus_automaton.specs.Lawful.{ProcessLaws, AutomatonLaws, ChangesTo, AcceptsIn, StepsIn}
use Rattle.bus_automaton.specs.Lawful.{LogGrows, IsSender}
use Rattle.bus_pageslot.specs.Rule.{slot_of, Sat, sender_trail_in, notes_in, IsSeated, IsUnseated}
use Rattle.bus_pageslot.specs.Rule.{Ear, KnowsLog, IsTrueOf, Seats, SeatsReceiver, SeatsStaying}
use Rattle.bus_pageslot.specs.Rule.{TableInvariant}
use Rattle.bus_pageslot.proofs.Hears.Loads.{Listens}
use Rattle.bus_pageslot.specs.Steps.{all_in, since_in, stored_by, noted_by, Told, Gone, IsDue}
use Rattle.bus_automaton.specs.SenderTrails.{SenderTrail, with_sender_trail}
use Rattle.bus_pageslot.proofs.SeatSteps.Accepting.{since_is}
use Rattle.bus_pageslot.proofs.Ruled.AllSeats.{still_seen}
use Rattle.bus_pageslot.proofs.Hears.Hearing.{heard_later}
use Rattle.bus_pageslot.proofs.Ruled.Numbering.{numbers_next}
use Rattle.bus_pageslot.proofs.Ruled.Reaching.{accepted}
use Rattle.bus_pageslot.proofs.Ruled.Slots.{Moved, moves}

pub no_shorter : (xs ys : List ℕ) → IsPrefix xs ys → length xs ≤ length ys
no_shorter xs ys p = let a = length-append xs p.rest in let b = ap length p.together in omega arith

-- ---- a log that grows
module _ {C : Type 0} (A : Automaton C) (z z' : A.State) (g : LogGrows A z z') where
  pub front : IsPrefix (log_in A z) (log_in A z')
  front = grind (arith, common_steps, flat_map-append)

  pub longer : slice_index (A.words z) 0 ≤ slice_index (A.words z') 0
  longer = grind (arith, common_steps, no_shorter, front)

-- the views of the others stay true where the sender p, whose seat is id, is replaced
module _ {C : Type 0} (P : Process C) (A : Automaton C) (z z' : A.State) (seat : ℕ → ℕ)
    (ear : ℕ → Ear)
    (p id : ℕ)
    (d : C) (all : SenderTrail) (on : ChangesTo A z p d all z') (g : LogGrows A z z')
    (mine : seat p ≡ id) (j : ℕ) (other : j ≢ id) where
  apart : (q : ℕ) → seat q ≡ j → q ≢ p
  apart q at e = other (sym at ∙ ap seat e ∙ mine)

  seated_still : (c : C) (t : SenderTrail) (stored : ℕ) → IsSeated P A z seat j c t stored
      → IsSeated P A z' seat j c t stored
  seated_still c t stored h = grind (arith, common_steps, apart, longer)

  unseated_still : (q : ℕ) → IsUnseated A z seat j q → IsUnseated A z' seat j q
  unseated_still q h = grind (arith, common_steps, apart)

  listens_still : (e : ReceiverView) → Listens A z ear j e → Listens A z' ear j e
  listens_still e (inl flat) = inl flat
  listens_still e (inr l) = grind (arith, common_steps)

  log_still : (x : TableLayout) (e : ReceiverView) → KnowsLog A z ear j x e
      → KnowsLog A z' ear j x e
  log_still x e h =
      let same : h.frames ≡ g.frames = same_log A.table_layout.senders 0 0 h.frames g.frames
      h.lawful g.lawful (h.words_are ∙ sym g.words_are) in
      let read : e.place ≤ length (log_words g.frames) =
      (let a = h.below in
      let l = no_shorter e.known (log_in A z) h.front in
      let w = ap length g.words_are in omega arith) in
      grind (arith, common_steps, prefix_after, front, heard_later, listens_still)

  pub others_know : (v : View C) → IsTrueOf P A z seat ear j v → IsTrueOf P A z' seat ear j v
  others_know (Maker x made) h = grind (arith, common_steps, unseated_still)
  others_know (Sender c t notes) h = seated_still c t notes.stored h
  others_know (Tap x e) h = log_still x e h
  others_know (Meeting x e y f) h = (log_still x e h.0, log_still y f h.1, h.2)
  others_know (Telling c t notes x e) h = (seated_still c t notes.stored h.0, log_still x e h.1)
  others_know Spent h = tt

-- the rule holds of a table, and what was published is that of this state
record Tied {C : Type 0} (P : Process C) (A : Automaton C) (s : State (Option Page) (View C))
    (z : A.State) : Type 0 where
  rule : TableInvariant P A s
  log : log_in A rule.state ≡ log_in A z

-- The tie: where a state with the new words, page and sender goes on from the old one, the rule
-- holds of the new table
tie : {C : Type 0} (P : Process C) (A : Automaton C) (s : State (Option Page) (View C))
    (r : TableInvariant P A s) (id : ℕ) (c d : C) (t t' : SenderTrail) (notes notes' : Notes)
    (words : List ℕ) (homes : List (maybe.Option (Option Page))) (z' : A.State)
    → ChangesTo A r.state (P.me c) d t' z' → LogGrows A r.state z'
    → notes'.stored ≤ slice_index (A.words z') 0
    → get_elem? s.views id ≡ some (Sender c t notes) → P.me d ≡ P.me c → words ≡ A.words z'
    → homes ≡ slot_of (A.home z') ∷ []
    → Tied P A (record {
      words = words;
      homes = homes;
      views = set s.views id (Sender d t' notes');
    }) z'
tie {C} P A s r id c d t t' notes notes' words homes z' on grows long at same words_are slot =
    let k = r.views id (Sender c t notes) at in record {
      rule = record {
        state = z';
        reached = on.reached;
        words = words_are;
        slot = slot;
        seat = r.seat;
        ear = r.ear;
        views = λ j v e. ⊎_elim
            (λ (u : (j ≡ id) × (Sender d t' notes' ≡ v)).
            subst (λ (y : ℕ × View C). IsTrueOf P A z' r.seat r.ear y.0 y.1)
            (λ i. (sym u.0 i, u.1 i))
            (record {
              here = ap r.seat same ∙ k.here;
              core = ap (A.sender z') same ∙ on.here;
              sender_trail_is = ap (A.sender_trail z') same ∙ on.sender_trail;
              reached = long;
            }))
            (λ (u : (j ≢ id) × (get_elem? s.views j ≡ some v)).
            others_know P A r.state z' r.seat r.ear
            (P.me c) id d t' on grows k.here j u.0 v (r.views j v u.1))
            (at_set s.views id j (Sender d t' notes') v e);
        all = λ p below. still_seen (Seats P p) s.views id (Sender c t notes)
            (Sender d t' notes') at (λ is. same ∙ is) (r.all p below);
        all_heard = λ q below. still_seen (SeatsReceiver q) s.views id (Sender c t notes)
            (Sender d t' notes') at (λ is. is) (r.all_heard q below);
        all_staying = λ q n is. still_seen (SeatsStaying q) s.views id (Sender c t notes)
            (Sender d t' notes') at (λ none. none) (r.all_staying q n (sym (on.passed q) ∙ is));
      };
      log = refl;
    }

-- ---- a step
-- the length that it stores is that of the log after it
store_long : (at : Reg) (value : ℕ) (words : List ℕ) (before now : ℕ) → at.0 < length words
    → now ≡ slice_index (slice_set words at.0 value) 0 → before ≤ now
    → cond (at.0 == 0) value before ≤ now
store_long at value words before now within is l =
    grind (arith, cases_eq, length, slice_index, slice_set, get_or-set_same, eq-eqb, ne_eqb)

stored_long : (o : Op) (words : List ℕ) (before now : ℕ) → register o < length words
    → now ≡ slice_index (words_after words (Some o)) 0 → before ≤ now
    → stored_by (Some o) before ≤ now
stored_long (Load at) words before now within is l = l
stored_long (Store at value) words before now within is l =
    store_long at value words before now within is l
stored_long (Add at value) words before now within is l = l
stored_long (Cas at expected value) words before now within is l = l

module _ {C : Type 0} (P : Process C) (A : Automaton C) (K : ProcessLaws P)
    (L : AutomatonLaws P A) where
  -- of a sender d, which its seat shows as it was before it accepted more
  module _ (id : ℕ) (m : Sat C) (d : C) (word : ℕ) (o : Op) (many : ℕ)
      (due : IsDue P d word m many o)
      (f g : ℕ → ℕ) (writes : (n : ℕ) → SumFits o n → f n ≡ after o n)
      (says : (n : ℕ) → Told o n (g n))
      (blind : (n : ℕ) (home : Option Page) → P.after d home (g n) word ≡ P.after d home n word)
      (mute : (n : ℕ) → P.answer d (g n) word ≡ P.answer d n word)
      (s : State (Option Page) (View C)) (r : TableInvariant P A s)
      (at : get_elem? s.views id ≡ some m.0) where
    abbrev c : C
    c = due.shown

    abbrev p : ℕ
    p = P.me c

    abbrev before : Notes
    before = notes_in m.0

    at_view : get_elem? s.views id ≡ some (Sender c (sender_trail_in m.0) before)
    at_view = at ∙ ap (λ (y : Sat C). some y.0) due.me

    seated : IsSeated P A r.state r.seat id c (sender_trail_in m.0) before.stored
    seated = r.views id (Sender c (sender_trail_in m.0) before) at_view

    -- with what it accepted
    grown : AcceptsIn A r.state p d due.actions
    grown = accepted P A L r.state r.reached c seated.core d due.actions due.accepts

    abbrev z : A.State
    z = grown.state

    same_words : s.words ≡ A.words z
    same_words = r.words ∙ sym grown.words

    within : register o < A.table_layout.words
    within = grind (arith, grown, register)

    -- with its step
    done : StepsIn P A z p d word o
    done = L.step z p d word o grown.changes.reached grown.changes.here due.due within

    abbrev n : ℕ
    n = slice_index s.words (register o)

    n_is : n ≡ slice_index (A.words z) (register o)
    n_is = ap (λ w. slice_index w (register o)) same_words

    abbrev d_now : C
    d_now = P.after d (A.home r.state) (g n) word

    d_is : d_now ≡ P.after d (A.home z) (slice_index (A.words z) (register o)) word
    d_is = grind (arith, common_steps, grown, n_is)

    words_now : slice_set s.words (register o) (f n) ≡ A.words done.state
    words_now = grind (arith, common_steps, slice_set, register, n_is, grown, same_words, done)

    placed : A.sender done.state p ≡ Some d_now
    placed = done.changes.here ∙ ap Some (sym d_is)

    is_now : IsSender P A p d_now
    is_now = L.senders done.state p d_now done.changes.reached placed

    -- all that it did by then
    abbrev sender_trail : SenderTrail
    sender_trail = with_sender_trail (all_in P m.0 d) (P.adds d n word)

    since : since_in P m.0 d ≡ due.actions
    since = ap (λ (y : Sat C). since_in P y.0 d) due.me ∙ since_is P K c d due.actions due.accepts

    did : A.sender_trail done.state p ≡ sender_trail
    did = grind (arith, common_steps, done, slice_index, register, grown, seated, since, n_is)

    changes : ChangesTo A r.state p d_now sender_trail done.state
    changes = grind (arith, common_steps, done, placed, grown, did)

    grows : LogGrows A r.state done.state
    grows = grind (arith, common_steps, done, grown, length, slice_index)

    -- the page is at home where it is taken
    taken : (t : ℕ) → P.move d ≡ Comes t → (page : Page) × (A.home r.state ≡ Some page)
    taken t is = some_is (A.home r.state) (ap is_some (sym grown.home)
        ∙ L.finds_home z p d word o t grown.changes.reached grown.changes.here due.due is)

    moved : Moved (P.move d) (A.home r.state) s.homes m.1
    moved = moves (A.home r.state) s.homes m.1 _ r.slot (P.move d) (ap (λ (y : Sat C). y.1) due.me)
        taken

    abbrev notes : Notes
    notes = noted_by (P.op d word) before

    stored_now : notes.stored ≤ slice_index (A.words done.state) 0
    stored_now =
        let wide = L.wide z grown.changes.reached in
        grind (arith, common_steps, slice_index, done, seated, longer, grows, stored_long, within)

    tied : Tied P A (record {
      words = slice_set s.words (register o) (f n);
      homes = homes_after s.homes m.1 moved.act;
      views = set s.views id (Sender d_now sender_trail notes);
    }) done.state
    tied = tie P A s r id c d_now (sender_trail_in m.0) sender_trail before notes
        (slice_set s.words (register o) (f n)) (homes_after s.homes m.1 moved.act) done.state
        changes grows stored_now at_view is_now.me words_now
        (moved.homes_now
        ∙ ap (λ (h : Option Page). slot_of h ∷ [])
        (ap (home_moved (P.move d)) (sym grown.home) ∙ sym done.home))

    -- the rule holds after it, the seat shows it, and what was published goes on
    pub goes_on : (w : View C) × (a : Act (Option Page)) × Valid s.homes m.1 a
        × (k : TableInvariant P A record {
          words = slice_set s.words (register o) (f n);
          homes = homes_after s.homes m.1 a;
          views = set s.views id w;
        }) × Gone P d word m (g n) (w, carried_after m.1 a)
        × IsPrefix (log_in A r.state) (log_in A k.state)
    goes_on = (
      Sender d_now sender_trail notes,
      moved.act,
      moved.valid,
      tied.rule,
      record {
        home = A.home r.state;
        taken = taken;
        found = n;
        told = λ u w. subst (λ (q : Op). Told q n (g n)) (same_Some _ _ (sym due.due ∙ w)) (says n);
        core = blind n (A.home r.state);
        answer = mute n;
        counted = is_now.counted;
        laid = is_now.laid;
        numbered = numbers_next P A L done.state done.changes.reached p d_now is_now.me placed
            sender_trail did;
        ends = L.ends z p d word o grown.changes.reached grown.changes.here due.due (A.home r.state)
            (g n);
        now = λ i. (Sender d_now sender_trail notes, moved.carried_now i);
      },
      subst (IsPrefix (log_in A r.state)) (sym tied.log) (front A r.state done.state grows),
    )

  pub goes_allowed : (slots id : ℕ) (m : Sat C) (d : C) (word : ℕ) (o : Op) (many : ℕ)
      → IsDue P d word m many o → (f g : ℕ → ℕ) → ((n : ℕ) → SumFits o n → f n ≡ after o n)
      → ((n : ℕ) → Told o n (g n))
      → ((n : ℕ) (home : Option Page) → P.after d home (g n) word ≡ P.after d home n word)
      → ((n : ℕ) → P.answer d (g n) word ≡ P.answer d n word)
      → Allows (TableInvariant P A) slots id m (register o) f (λ n. Gone P d word m (g n))
  goes_allowed slots id m d word o many due f g writes says blind mute s r size at range =
      let on = goes_on id m d word o many due f g writes says blind mute s r at in
      (on.0, on.1, on.2, on.3, on.4)
