-- Joined seats: how seats are joined, what they learn, and how they are cut apart again.
use Rattle.std.proofs.Common.{◌≡◌, ◌≢◌, ◌⊎◌, inl, inr, ℕ, Option, List, [], ◌∷◌, ◌++◌, length}
use Rattle.std.proofs.Common.{false, length-set, map, set, slice_index, arith, refl, sym, ◌∙◌}
use Rattle.std.proofs.Common.{subst, ⊎_elim}
use Rattle.std.proofs.lemmas.Grind.{common_steps}
use mathlib.Core.Option.{some}
use lib.ListN.{get_elem?}
use Rattle.atomic_table.specs.Table.{State, keeps, Allows, Splits, Joins}
use Rattle.atomic_table.proofs.Lists.{at_set, set_else}
use Rattle.bus_pageslot.specs.Notes.{Notes}
use Rattle.bus_pageslot.proofs.Ruled.Openings.{at_end}
use Rattle.bus_batch.proofs.FrameLaws.{same_log}
use Rattle.bus_tenure.specs.Core.{length_at}
use Rattle.bus_tenure.specs.declared.pages.Page.{Page}
use Rattle.bus_world.specs.Headline.{Action}
use Rattle.bus_pageslot.specs.ReceiverViews.{ReceiverView, receiver_view_knowing, Agree}
use Rattle.bus_pageslot.specs.declared.rule.View.{View}
use Rattle.bus_pageslot.specs.declared.rule.View.TheVariants.{Maker, Sender, Tap, Meeting, Telling}
use Rattle.bus_pageslot.specs.declared.rule.View.TheVariants.{Spent}
use Rattle.bus_automaton.specs.Processes.{TableLayout, Process, Automaton, log_in}
use Rattle.bus_automaton.specs.Lawful.{AutomatonLaws}
use Rattle.bus_pageslot.specs.Rule.{Sat, Seats, SeatsReceiver, SeatsStaying, Ear, IsSeated}
use Rattle.bus_pageslot.specs.Rule.{KnowsLog, IsTrueOf}
use Rattle.bus_pageslot.specs.Rule.{views_joined, first_of, second_of, all_knowing}
use Rattle.bus_pageslot.specs.Rule.{receiver_view_in, known_in}
use Rattle.bus_pageslot.specs.Rule.{IsFirst, TableInvariant}
use Rattle.bus_pageslot.specs.Lasting.{LeavesViews}
use Rattle.bus_pageslot.specs.Steps.{Accepts, Meets, Met, Learns, KnowsSent}
use Rattle.bus_automaton.specs.SenderTrails.{SenderTrail}
use Rattle.bus_pageslot.proofs.Ruled.AllSeats.{seen_joined, seen_parted}
use Rattle.bus_pageslot.proofs.Hears.Hearing.{agree}
use Rattle.bus_pageslot.proofs.Hears.Ears.{GoesTo, goes_to, two_of}
use Rattle.bus_pageslot.proofs.Hears.Loads.{reloaded, whole, size, fits}
use Rattle.bus_pageslot.proofs.Ruled.Reaching.{accepted}

-- two seats that were joined
abbrev pub IsPair : {C : Type 0} → View C → Type 0
IsPair (Maker x made) = ⊥
IsPair (Sender c sender_trail notes) = ⊥
IsPair (Tap x e) = ⊥
IsPair (Meeting x e y f) = Unit {0}
IsPair (Telling c sender_trail notes x e) = Unit {0}
IsPair Spent = ⊥

module _ {C : Type 0} (P : Process C) (A : Automaton C) where
  -- a receiver's seat is spent, and goes into another, which shows this from then on
  joined : (s : State (Option Page) (View C)) (r : TableInvariant P A s) (id other : ℕ)
      (v w : View C)
      → get_elem? s.views id ≡ some v → id ≢ other → (y : TableLayout) (l : ReceiverView)
      → get_elem? (set s.views id w) other ≡ some (Tap y l)
      → ((p : ℕ) → Seats P p v → Seats P p w)
      → ((q : ℕ) → SeatsReceiver q v ⊎ (l.me ≡ q) → SeatsReceiver q w)
      → ((q : ℕ) → SeatsStaying q v ⊎ ((l.me ≡ q) × (l.gone ≡ false)) → SeatsStaying q w)
      → (ear' : ℕ → Ear)
      → ((j : ℕ) → j ≢ other → (u : View C) → IsTrueOf P A r.state r.seat r.ear j u
      → IsTrueOf P A r.state r.seat ear' j u)
      → IsTrueOf P A r.state r.seat ear' id w
      → LeavesViews P A s r (set (set s.views id w) other Spent)
  joined s r id other v w at apart y l there still heard staying ear' others fits = record {
    rule = record {
      state = r.state;
      reached = r.reached;
      words = r.words;
      slot = r.slot;
      seat = r.seat;
      ear = ear';
      views = λ j u e. ⊎_elim
          (λ (k : (j ≡ other) × (Spent ≡ u)).
          subst (IsTrueOf P A r.state r.seat ear' j) k.1 tt)
          (λ (k : (j ≢ other) × (get_elem? (set s.views id w) j ≡ some u)). ⊎_elim
          (λ (n : (j ≡ id) × (w ≡ u)).
          subst (λ (y : ℕ × View C). IsTrueOf P A r.state r.seat ear' y.0 y.1)
          (λ i. (sym n.0 i, n.1 i)) fits)
          (λ (n : (j ≢ id) × (get_elem? s.views j ≡ some u)).
          others j k.0 u (r.views j u n.1))
          (at_set s.views id j w u k.1))
          (at_set (set s.views id w) other j Spent u e);
      all = λ p below. seen_joined (Seats P p) s.views id other v w (Tap y l) Spent at apart there
          (λ is. ⊎_elim (still p) (λ (none : ⊥). absurd none) is) (r.all p below);
      all_heard = λ q below. seen_joined (SeatsReceiver q) s.views id other v w (Tap y l) Spent at
          apart there (heard q) (r.all_heard q below);
      all_staying = λ q n is. seen_joined (SeatsStaying q) s.views id other v w (Tap y l) Spent at
          apart there (staying q) (r.all_staying q n is);
    };
    log = refl;
  }

  -- a receiver's seat goes into another
  pub join_leaves : (v : View C) → IsFirst v → (y : TableLayout) (l : ReceiverView) (id other : ℕ)
      (s : State (Option Page) (View C)) (r : TableInvariant P A s)
      → get_elem? s.views id ≡ some v → other ≢ id
      → get_elem? (set s.views id (views_joined v (Tap y l))) other ≡ some (Tap y l)
      → LeavesViews P A s r (set (set s.views id (views_joined v (Tap y l))) other Spent)
  join_leaves (Maker x made) is y l id other = absurd is
  join_leaves (Sender c t notes) is y l id other = λ s r at apart there.
      let w : View C = Telling c t notes y l in
      let h = r.views id (Sender c t notes) at in
      let k : KnowsLog A r.state r.ear other y l =
      r.views other (Tap y l) (sym (set_else s.views id other w apart) ∙ there) in
      let g = goes_to P A r.state r.seat r.ear other id y l k in
      joined s r id other (Sender c t notes) w at (λ e. apart (sym e)) y l there (λ p is. is)
      (λ q is. ⊎_elim (λ (none : ⊥). absurd none) (λ (k : l.me ≡ q). k) is)
      (λ q is. ⊎_elim (λ (none : ⊥). absurd none)
      (λ (k : (l.me ≡ q) × (l.gone ≡ false)). k) is)
      g.ear' g.others (h, g.here)
  join_leaves (Tap x e) is y l id other = λ s r at apart there.
      let w : View C = Meeting x e y l in
      let h : KnowsLog A r.state r.ear id x e = r.views id (Tap x e) at in
      let k : KnowsLog A r.state r.ear other y l =
      r.views other (Tap y l) (sym (set_else s.views id other w apart) ∙ there) in
      let g = goes_to P A r.state r.seat r.ear other id y l k in
      joined s r id other (Tap x e) w at (λ e. apart (sym e)) y l there (λ p is. is) (λ q is. is)
      (λ q is. is) g.ear' g.others (
        g.others id (λ e. apart (sym e)) (Tap x e) h,
        g.here,
        two_of A r.state r.ear id other (λ e. apart (sym e)) x e y l h k,
      )
  join_leaves (Meeting x k z m) is y l id other = absurd is
  join_leaves (Telling c t stored z m) is y l id other = absurd is
  join_leaves Spent is y l id other = absurd is

  pub joins_allowed : (v : View C) → IsFirst v → (y : TableLayout) (l : ReceiverView) (id other : ℕ)
      → Joins (TableInvariant P A) id v other (Tap y l) (views_joined v (Tap y l)) Spent
  joins_allowed v is y l id other s r at apart there =
      (join_leaves v is y l id other s r at apart there).rule

  -- one view replaced, and a receiver's added
  pub parted : (s : State (Option Page) (View C)) (r : TableInvariant P A s) (id : ℕ) (v w : View C)
      → get_elem? s.views id ≡ some v → ((p : ℕ) → Seats P p v → Seats P p w)
      → (y : TableLayout) (l : ReceiverView)
      → ((q : ℕ) → SeatsReceiver q v → SeatsReceiver q w ⊎ (l.me ≡ q))
      → ((q : ℕ) → SeatsStaying q v → SeatsStaying q w ⊎ ((l.me ≡ q) × (l.gone ≡ false)))
      → (g : GoesTo P A r.state r.seat r.ear id (length s.views) y l)
      → IsTrueOf P A r.state r.seat g.ear' id w
      → LeavesViews P A s r (set s.views id w ++ Tap y l ∷ [])
  parted s r id v w at still y l heard staying g fits =
      record {
        rule = record {
          state = r.state;
          reached = r.reached;
          words = r.words;
          slot = r.slot;
          seat = r.seat;
          ear = g.ear';
          views = λ j u e. elim (at_end (set s.views id w) (Tap y l) u j e) [
            | inl k ↦ grind (arith, common_steps, some, at_set)
            | inr k ↦ subst (λ (y : ℕ × View C). IsTrueOf P A r.state r.seat g.ear' y.0 y.1)
                (λ i. (sym (k.0 ∙ length-set s.views id w) i, k.1 i)) g.here
          ];
          all = λ p below. seen_parted (Seats P p) s.views id v w (Tap y l) at
              (λ is. inl (still p is)) (r.all p below);
          all_heard = λ q below. seen_parted (SeatsReceiver q) s.views id v w (Tap y l) at (heard q)
              (r.all_heard q below);
          all_staying = λ q n is. seen_parted (SeatsStaying q) s.views id v w (Tap y l) at
              (staying q) (r.all_staying q n is);
        };
        log = refl;
      }

  -- joined seats are cut apart
  pub part_leaves : (v : View C) → IsPair v → (id : ℕ) (s : State (Option Page) (View C))
      (r : TableInvariant P A s) → get_elem? s.views id ≡ some v
      → LeavesViews P A s r (set s.views id (first_of v) ++ second_of v ∷ [])
  part_leaves (Maker x made) is id = absurd is
  part_leaves (Sender c t stored) is id = absurd is
  part_leaves (Tap x k) is id = absurd is
  part_leaves (Meeting x k y l) is id = λ s r at.
      let h = r.views id (Meeting x k y l) at in
      let g = goes_to P A r.state r.seat r.ear id (length s.views) y l h.1 in
      parted s r id (Meeting x k y l) (Tap x k) at (λ p is. is) y l (λ q is. is) (λ q is. is) g
      (g.beside x k h.0 h.2)
  part_leaves (Telling c t notes y l) is id = λ s r at.
      let h = r.views id (Telling c t notes y l) at in
      let g = goes_to P A r.state r.seat r.ear id (length s.views) y l h.1 in
      parted s r id (Telling c t notes y l) (Sender c t notes) at (λ p is. is) y l
      (λ q is. inr is) (λ q is. inr is) g h.0
  part_leaves Spent is id = absurd is

  pub parts_allowed : (v : View C) → IsPair v → (id : ℕ)
      → Splits (TableInvariant P A) id v (first_of v) (second_of v)
  parts_allowed v is id s r at = (part_leaves v is id s r at).rule

  pub pairs : (v : View C) → IsFirst v → (y : TableLayout) (l : ReceiverView)
      → IsPair (views_joined v (Tap y l))
  pairs (Maker x made) is y l = absurd is
  pairs (Sender c t notes) is y l = tt
  pairs (Tap x k) is y l = tt
  pairs (Meeting x k z m) is y l = absurd is
  pairs (Telling c t notes z m) is y l = absurd is
  pairs Spent is y l = absurd is

  pub still_pair : (v : View C) (known : List ℕ) → IsPair v → IsPair (all_knowing v known)
  still_pair (Maker x made) known is = absurd is
  still_pair (Sender c t notes) known is = absurd is
  still_pair (Tap x k) known is = absurd is
  still_pair (Meeting x k y l) known is = tt
  still_pair (Telling c t notes y l) known is = tt
  still_pair Spent known is = absurd is

-- two receivers of one bus agree
pub both_agree : {C : Type 0} (A : Automaton C) (z : A.State) (ear : ℕ → Ear) (j : ℕ)
    (x y : TableLayout) (e f : ReceiverView)
    → KnowsLog A z ear j x e → KnowsLog A z ear j y f → Agree e f
both_agree A z ear j x y e f h k = grind (arith, common_steps, same_log, agree)

module _ {C : Type 0} (P : Process C) (A : Automaton C) (L : AutomatonLaws P A) where
  -- what the log holds of a sender, with all that it has accepted
  pub knows_sent : (s : State (Option Page) (View C)) (r : TableInvariant P A s) (id : ℕ) (c : C)
      (sender_trail : SenderTrail) (stored : ℕ)
      → IsSeated P A r.state r.seat id c sender_trail stored
      → (e : C) (actions : List Action) → Accepts P c e actions
      → KnowsSent P e (sender_trail.actions ++ actions) stored (log_in A r.state)
  knows_sent s r id c sender_trail stored h e actions more =
      let m = accepted P A L r.state r.reached c h.core e actions more in
      let z = m.state in
      let log = L.log z m.changes.reached in
      let is = L.senders z (P.me c) e m.changes.reached m.changes.here in
      grind (arith, common_steps, map, size, slice_index)

  -- joined seats load the length
  pub meets_allowed : (v : View C) (carried : List (ℕ × Option Page)) → IsPair v → (slots id : ℕ)
      → Allows (TableInvariant P A) slots id (v, carried) 0 (λ n. n)
      (λ n m'. (0 ≡ length_at) × Meets P (v, carried) n m')
  meets_allowed (Maker x made) carried is slots id = absurd is
  meets_allowed (Sender c t notes) carried is slots id = absurd is
  meets_allowed (Tap x k) carried is slots id = absurd is
  meets_allowed (Meeting x k y l) carried is slots id = λ s r count at range.
      let h = r.views id (Meeting x k y l) at in
      let all : List ℕ = log_in A r.state in (
        Meeting x (receiver_view_knowing k all) y (receiver_view_knowing l all),
        keeps,
        tt,
        reloaded P A s r 0 id (Meeting x k y l)
            (Meeting x (receiver_view_knowing k all) y (receiver_view_knowing l all)) at
            (λ p is. is)
            (whole A r.state r.ear id x k h.0, whole A r.state r.ear id y l h.1, h.2),
        (
          refl,
          record {
            known = all;
            now = refl;
            length_is = size P A L s r;
            grows = (
              h.0.front,
              h.1.front,
              fits P A L s r x h.0.table_layout,
              fits P A L s r y h.1.table_layout,
              both_agree A r.state r.ear id x y k l h.0 h.1,
            );
          },
        ),
      )
  meets_allowed (Telling c t notes y l) carried is slots id = λ s r count at range.
      let h = r.views id (Telling c t notes y l) at in
      let all : List ℕ = log_in A r.state in (
        Telling c t notes y (receiver_view_knowing l all),
        keeps,
        tt,
        reloaded P A s r 0 id (Telling c t notes y l)
            (Telling c t notes y (receiver_view_knowing l all)) at (λ p is. is)
            (h.0, whole A r.state r.ear id y l h.1),
        (
          refl,
          record {
            known = all;
            now = refl;
            length_is = size P A L s r;
            grows = (
              h.1.front,
              fits P A L s r y h.1.table_layout,
              knows_sent s r id c t notes.stored h.0,
            );
          },
        ),
      )
  meets_allowed Spent carried is slots id = absurd is

-- what a receiver is told, and what two that meet learn
module _ {C : Type 0} (P : Process C) where
  told_at : (c : C) (t : SenderTrail) (notes : Notes) (carried : List (ℕ × Option Page))
      (y : TableLayout) (l : ReceiverView) (got : ℕ) (m' n' : Sat C)
      → Met P (Sender c t notes, carried) (Tap y l, []) got m' n'
      → (m' ≡ (Sender c t notes, carried)) × Learns (Tap y l, []) got n'
      × ((e : C) (actions : List Action) → Accepts P c e actions
      → KnowsSent P e (t.actions ++ actions) notes.stored (known_in n'.0))
  told_at c t notes carried y l got m' n' h = grind (arith, common_steps)

  pub told_of : (c : C) (t : SenderTrail) (notes : Notes) (carried : List (ℕ × Option Page))
      (y : TableLayout) (l : ReceiverView) (m n : Sat C) (got : ℕ) (m' n' : Sat C)
      → m ≡ (Sender c t notes, carried) → n ≡ (Tap y l, []) → Met P m n got m' n'
      → (m' ≡ m) × Learns n got n'
      × ((e : C) (actions : List Action) → Accepts P c e actions
      → KnowsSent P e (t.actions ++ actions) notes.stored (known_in n'.0))
  told_of c t notes carried y l m n got m' n' em en h = grind (arith, common_steps, told_at)

  met_at : (x : TableLayout) (k : ReceiverView) (y : TableLayout) (l : ReceiverView) (got : ℕ)
      (m' n' : Sat C) → Met P (Tap x k, []) (Tap y l, []) got m' n'
      → Learns (Tap x k, []) got m' × Learns (Tap y l, []) got n' × (known_in n'.0 ≡ known_in m'.0)
      × Agree k l
  met_at x k y l got m' n' h = grind (arith, common_steps)

  pub met_of : (x : TableLayout) (k : ReceiverView) (y : TableLayout) (l : ReceiverView)
      (m n : Sat C) (got : ℕ) (m' n' : Sat C) → m ≡ (Tap x k, []) → n ≡ (Tap y l, [])
      → Met P m n got m' n'
      → Learns m got m' × Learns n got n' × (known_in n'.0 ≡ known_in m'.0)
      × Agree (receiver_view_in m.0) (receiver_view_in n.0)
  met_of x k y l m n got m' n' em en h = grind (arith, common_steps, met_at)
