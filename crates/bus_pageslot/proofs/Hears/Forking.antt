-- A receiver forks: its compare_exchange on the passed place of a higher number is allowed, and so
-- is a copy of its seat where no receiver has a passed place.
use Rattle.std.proofs.Common.{◌≡◌, ◌≢◌, inl, inr, ℕ, ◌<◌, ◌==◌, true, false, Option, Some, []}
use Rattle.std.proofs.Common.{◌∷◌, ◌++◌, ◌+◌, length, set, slice_index, slice_set, arith, refl}
use Rattle.std.proofs.Common.{sym, ◌∙◌, ap, subst}
use mathlib.Core.Option.{some}
use lib.ListN.{get_elem?}
use prog.Atomic.{either}
use Rattle.std.proofs.lemmas.Bool.Decides.{eqb_tells}
use Rattle.std.proofs.lemmas.List.{length-append}
use Rattle.std.proofs.lemmas.Grind.{common_steps}
use Rattle.atomic_table.specs.Table.{State, keeps, Allows, Splits}
use Rattle.bus_register.specs.Tables.{put}
use Rattle.bus_register.specs.Private.TableLaws.{put_here}
use Rattle.bus_register.specs.declared.limits.TheConstants.{PASSED_ALL}
use Rattle.bus_tenure.specs.declared.pages.Page.{Page}
use Rattle.bus_world.proofs.Bounds.{words_low}
use Rattle.bus_automaton.specs.Lawful.{AutomatonLaws, PassesIn}
use Rattle.bus_automaton.specs.Processes.{TableLayout, Process, Automaton, passed_word}
use Rattle.bus_automaton.specs.declared.plans.Plan.{Plan}
use Rattle.bus_pageslot.specs.Lasting.{LeavesViews}
use Rattle.bus_pageslot.specs.Looks.{IsFoundBy}
use Rattle.bus_pageslot.specs.ReceiverViews.{ReceiverView, HasHeard, forked_as}
use Rattle.bus_pageslot.specs.ReceiverViews.{receiver_tried}
use Rattle.bus_pageslot.specs.Rings.{LeavesAll}
use Rattle.bus_pageslot.specs.Rule.{Sat, Ear, Made, IsListening, IsTrueOf, KnowsLog, first_of}
use Rattle.bus_pageslot.specs.Rule.{receiver_view_in, second_of, table_layout_in, TableInvariant}
use Rattle.bus_pageslot.specs.Rule.{with_receiver_view}
use Rattle.bus_pageslot.specs.Steps.{Forks, HasTried, HasTriedAt, copy_of, fork_of, view_forked}
use Rattle.bus_pageslot.specs.StepsShown.{steps_shown}
use Rattle.bus_pageslot.specs.declared.rule.View.{View}
use Rattle.bus_pageslot.specs.declared.rule.View.TheVariants.{Tap}
use Rattle.bus_pageslot.proofs.Hears.Ears.{goes_to, views_still}
use Rattle.bus_pageslot.proofs.Hears.Hearing.{heard_tried}
use Rattle.bus_pageslot.proofs.Hears.Joining.{parted}
use Rattle.bus_pageslot.proofs.Hears.Loads.{listens_on, reloaded}
use Rattle.bus_pageslot.proofs.Hears.PassSteps.{its_own, knows_with, stored}

module _ {C : Type 0} (P : Process C) (A : Automaton C) (L : AutomatonLaws P A)
    (s : State (Option Page) (View C)) (r : TableInvariant P A s) (id : ℕ) (x : TableLayout)
    (e : ReceiverView) (here : get_elem? s.views id ≡ some (Tap x e)) (number : ℕ) where
  abbrev h : KnowsLog A r.state r.ear id x e
  h = r.views id (Tap x e) here

  abbrev word : ℕ
  word = passed_word x number

  -- ---- where somebody has the number nothing changes but what the seat shows
  pub tried : (found : ℕ) → KnowsLog A r.state r.ear id x (receiver_tried e word found)
  tried found = record {
    table_layout = h.table_layout;
    front = h.front;
    below = h.below;
    frames = h.frames;
    lawful = h.lawful;
    words_are = h.words_are;
    heard = heard_tried h.frames e h.heard word found;
    listens = listens_on A r.state r.ear id e (receiver_tried e word found) refl refl refl
        (omega arith) h.listens;
  }

  -- ---- where nobody has it
  module _ (stays : e.gone ≡ false) (up : e.me < number) (low : number < x.passers)
      (free : slice_index s.words word ≡ PASSED_ALL) where
    l : IsListening A r.state r.ear id e
    l = its_own A r.state r.ear id x e h (omega arith)

    is_word : word ≡ passed_word A.table_layout number
    is_word = ap (λ (y : TableLayout). passed_word y number) h.table_layout

    below : number < A.table_layout.passers
    below = let same = ap (λ (y : TableLayout). y.passers) h.table_layout in omega arith

    shown : slice_index (A.words r.state) (passed_word A.table_layout number) ≡ PASSED_ALL
    shown = grind (arith, common_steps, slice_index, is_word)

    -- a passed place that somebody has is a place of the log
    nobody : (p : ℕ) → A.passed r.state number ≡ Some p → ⊥
    nobody p is = grind (arith, shown, words_low, length)

    -- so the number is free to be that of this seat
    abbrev ear_now : ℕ → Ear
    ear_now = put number (Made id) r.ear

    mine : ear_now number ≡ Made id
    mine = put_here number (Made id) r.ear

    all_true : (j : ℕ) (v : View C) → IsTrueOf P A r.state r.seat r.ear j v
        → IsTrueOf P A r.state r.seat ear_now j v
    all_true j = grind (arith, common_steps, views_still, nobody)

    abbrev given : TableInvariant P A s
    given = record {
      state = r.state;
      reached = r.reached;
      words = r.words;
      slot = r.slot;
      seat = r.seat;
      ear = ear_now;
      views = λ j v at. all_true j v (r.views j v at);
      all = r.all;
      all_heard = r.all_heard;
      all_staying = r.all_staying;
    }

    p : PassesIn A r.state number e.passed (Some e.passed)
    p = L.forks r.state e.me e.passed number r.reached (l.shown stays) up below shown

    h_now : KnowsLog A r.state ear_now id x e
    h_now = all_true id (Tap x e) h

    l_now : IsListening A r.state ear_now id e
    l_now = its_own A r.state ear_now id x e h_now (omega arith)

    apart : e.me ≢ number
    apart same = omega arith

    -- the one that forks, and the one that is forked off
    maker : KnowsLog A p.state ear_now id x (receiver_tried e word PASSED_ALL)
    maker = grind (arith, common_steps, knows_with, mine, p, h_now, heard_tried, l_now, apart)

    fork_heard : HasHeard h_now.frames (forked_as e number)
    fork_heard = grind (arith, common_steps, h_now)

    fork : KnowsLog A p.state ear_now id x (forked_as e number)
    fork = grind (arith, common_steps, knows_with, mine, p, h_now, fork_heard, below, l_now)

    pub fork_leaves : LeavesAll P A s r id word e.passed (view_forked (Tap x e) word number)
    fork_leaves =
        let k : LeavesAll P A s given id word e.passed (view_forked (Tap x e) word number) =
        stored P A L s given id e.passed (Some e.passed) number mine p (Tap x e)
        (view_forked (Tap x e) word number) here (λ q none. none) (λ q is. inl is)
        (λ q ne is. inl is) (λ n is. inr (refl, stays)) word is_word
        (maker, fork, inr (inl apart)) in
        record { rule = k.rule; log = k.log }

-- ---- it is allowed
pub fork_allowed : {C : Type 0} (P : Process C) (B : Plan → Automaton C) (k : Option Plan)
    (plan : Plan) → k ≡ Some plan → AutomatonLaws P (B plan) → (slots id : ℕ) (m : Sat C)
    (x : TableLayout) (e : ReceiverView) (number : ℕ) → m.0 ≡ Tap x e → e.gone ≡ false
    → e.me < number → number < x.passers
    → Allows (TableInvariant P (B plan)) slots id m (passed_word x number)
    (λ n. either (n == PASSED_ALL) e.passed n)
    (λ got m'. (PASSED_ALL ≡ PASSED_ALL) × (e.passed ≡ (receiver_view_in m.0).passed)
    × Forks m (passed_word x number) got m'
    × IsFoundBy P B k m.0 (passed_word x number) got)
fork_allowed {C} P B k plan picks L slots id m x e number is stays up low s r count at range =
    let here : get_elem? s.views id ≡ some (Tap x e) = at ∙ ap (λ (v : View C). some v) is in
    let word : ℕ = passed_word x number in
    let got : ℕ = slice_index s.words word in
    let passed : e.passed ≡ (receiver_view_in m.0).passed =
    ap (λ (v : View C). (receiver_view_in v).passed) (sym is) in
    let found : IsFoundBy P B k m.0 word got = subst (λ q. IsFoundBy P B q m.0 word got) (sym picks)
    (record { table = s; rule = r; here = (id, at); stood = refl }) in
    elim (eqb_tells got PASSED_ALL) [
      | inl free ↦
          let w : View C = view_forked (Tap x e) word number in (
            w,
            keeps,
            tt,
            subst (λ b. TableInvariant P (B plan) (record {
              words = slice_set s.words word (either b e.passed got);
              homes = s.homes;
              views = slice_set s.views id w;
            })) (sym free.0)
                (fork_leaves P (B plan) L s r id x e here number stays up low free.1).rule,
            (
              refl,
              passed,
              record {
                free = λ all n same. grind (arith, common_steps);
                taken = λ other. absurd (other free.1);
              },
              found,
            ),
          )
      | inr taken ↦
          let w : View C = Tap x (receiver_tried e word got) in (
            w,
            keeps,
            tt,
            subst (λ b. TableInvariant P (B plan) (record {
              words = slice_set s.words word (either b e.passed got);
              homes = s.homes;
              views = slice_set s.views id w;
            })) (sym taken.0)
                (reloaded P (B plan) s r word id (Tap x e) w here (λ who k. k)
                (tried P (B plan) L s r id x e here number got)),
            (
              refl,
              passed,
              record {
                free = λ all. absurd (taken.1 all);
                taken = λ other i. (
                  with_receiver_view (sym is i)
                      (receiver_tried (receiver_view_in (sym is i)) word got),
                  m.1,
                );
              },
              found,
            ),
          )
    ]

-- ---- what its seat, and the one that is cut off it, show then
module _ {C : Type 0} (m m' : Sat C) (word got : ℕ) (x : TableLayout) (e : ReceiverView)
    (number : ℕ) (me : m ≡ (Tap x e, [])) (own : word ≡ passed_word x number)
    (forks : Forks m word got m') (free : got ≡ PASSED_ALL) where
  is_forked : m' ≡ (view_forked (Tap x e) word number, [])
  is_forked =
      forks.free free number
      (own ∙ ap (λ (y : Sat C). passed_word (table_layout_in y.0) number) (sym me))
      ∙ ap (λ (y : Sat C). (view_forked y.0 word number, y.1)) me

  pub forked_view : m'.0 ≡ view_forked (Tap x e) word number
  forked_view = ap (λ (y : Sat C). y.0) is_forked

  pub forked_tries : (n : Sat C) → n ≡ (first_of m'.0, m'.1) → HasTriedAt m word true n
  forked_tries n is = (
    PASSED_ALL,
    (λ made. refl, λ found. refl),
    is ∙ ap (λ (y : Sat C). (first_of y.0, y.1)) is_forked
        ∙ ap
        (λ (y : Sat C). (
          with_receiver_view y.0 (receiver_tried (receiver_view_in y.0) word PASSED_ALL),
          y.1,
        )) (sym me),
  )

  pub forked_made : (n : Sat C) → n ≡ (second_of m'.0, []) → n ≡ (fork_of m.0 number, [])
  forked_made n is = grind (arith, common_steps, is_forked)

pub tries_shown : {C : Type 0} (m : Sat C) (word found : ℕ) (n : Sat C) (x : TableLayout)
    (e : ReceiverView) → m ≡ (Tap x e, []) → HasTried m word found n
    → steps_shown n.0 ≡ steps_shown m.0 + 1
tries_shown {C} m word found n x e me tries = grind (arith, common_steps, length-append)

-- ---- a copy, where no receiver has a passed place
module _ {C : Type 0} (P : Process C) (A : Automaton C) (id : ℕ) (x : TableLayout)
    (e : ReceiverView) (flat : x.passers ≡ 0) where
  pub copy_leaves : (s : State (Option Page) (View C)) (r : TableInvariant P A s)
      → get_elem? s.views id ≡ some (Tap x e)
      → LeavesViews P A s r (set s.views id (Tap x e) ++ Tap x e ∷ [])
  copy_leaves s r at =
      let h : KnowsLog A r.state r.ear id x e = r.views id (Tap x e) at in
      let none : A.table_layout.passers ≡ 0 =
      sym (ap (λ (y : TableLayout). y.passers) h.table_layout) ∙ flat in
      let g = goes_to P A r.state r.seat r.ear id (length s.views) x e h in
      parted P A s r id (Tap x e) (Tap x e) at (λ p k. k) x e (λ q k. inl k) (λ q k. inl k) g
      (g.beside x e h (inl none))

  pub copy_allowed : (v : View C) → v ≡ Tap x e
      → Splits (TableInvariant P A) id v v (copy_of v)
  copy_allowed v is s r at =
      subst (λ (y : View C).
      TableInvariant P A record {
        words = s.words;
        homes = s.homes;
        views = slice_set s.views id y ++ copy_of y ∷ [];
      }) (sym is)
      (copy_leaves s r (at ∙ ap (λ (y : View C). some y) is)).rule
