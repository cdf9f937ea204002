-- The page of promises holds of what the seats show, since events lead to the bus that the table
-- is.
use Rattle.std.proofs.Common.{◌≡◌, ℕ, ◌<◌, ◌≤◌, Option, List, [], map, drop, refl, slice_index}
use Rattle.std.proofs.Common.{sym, ◌∙◌, ap, subst, ⊎_elim, arith}
use mathlib.Core.Option.{some}
use lib.ListN.{get_elem?}
use Rattle.std.proofs.lemmas.Bool.{cases_lt}
use Rattle.std.proofs.lemmas.Grind.{common_steps}
use Rattle.atomic_table.specs.Table.{State}
use Rattle.bus_register.specs.declared.registers.SenderNo.{SenderNo}
use Rattle.bus_batch.specs.Frames.{Order, Spells, order_of, tenure_and_owner}
use Rattle.bus_batch.proofs.FrameLaws.{spells_one}
use Rattle.bus_deliverylog.specs.Orders.{IsPrefixOfOrder}
use Rattle.bus_deliverylog.specs.declared.receiving.RecvTurn.{RecvTurn}
use Rattle.bus_tenure.specs.declared.pages.Page.{Page}
use Rattle.bus_world.specs.Headline.{IsPrefix, order_given, heads}
use Rattle.bus_pageslot.specs.ReceiverViews.{ReceiverView, IsSilent}
use Rattle.bus_pageslot.specs.declared.rule.View.{View}
use Rattle.bus_pageslot.specs.declared.rule.View.TheVariants.{Maker, Sender, Tap, Meeting, Telling}
use Rattle.bus_pageslot.specs.declared.rule.View.TheVariants.{Spent}
use Rattle.bus_automaton.specs.Processes.{TableLayout, Process, Automaton, base_in, log_below}
use Rattle.bus_automaton.specs.Processes.{log_in, actions_at}
use Rattle.bus_automaton.specs.Lawful.{AutomatonLaws}
use Rattle.bus_pageslot.specs.Rule.{Ear, KnowsLog, IsTrueOf, Seats, TableInvariant}
use Rattle.bus_pageslot.specs.Promised.{Fits, ShowsActions, ShowsTrail, IsShownTrail, IsPromised}
use Rattle.bus_pageslot.proofs.Hears.Hearing.{begins_order, begins_owners}

-- ---- actions
module _ {C : Type 0} (P : Process C) (A : Automaton C) (z : A.State) (seat : ℕ → ℕ) (ear : ℕ → Ear)
    (j : ℕ)
  where
    view_fits : ((p : ℕ) → A.table_layout.senders ≤ p → actions_at A z p ≡ []) → (v : View C)
        → IsTrueOf P A z seat ear j v → Fits P (actions_at A z) (log_in A z) v
    view_fits nobody (Maker x made) h = grind (arith, common_steps, cases_lt)
    view_fits nobody (Sender c t notes) h = ap (λ t. t.actions) h.sender_trail_is
    view_fits nobody (Tap x e) h = h.front
    view_fits nobody (Meeting x e y f) h = (h.0.front, h.1.front)
    view_fits nobody (Telling c t notes x e) h =
        (ap (λ t. t.actions) h.0.sender_trail_is, h.1.front)
    view_fits nobody Spent h = tt

    view_shows : (v : View C) → IsTrueOf P A z seat ear j v → (p : ℕ) → p < A.table_layout.senders
        → Seats P p v → ShowsActions P p (actions_at A z p) v
    view_shows (Maker x made) h p below is =
        (is, ap (λ t. t.actions) (h.1 p is below).sender_trail_is)
    view_shows (Sender c t notes) h p below is = grind (arith, common_steps)
    view_shows (Tap x e) h p below is = is
    view_shows (Meeting x e y f) h p below is = is
    view_shows (Telling c t notes x e) h p below is = grind (arith, common_steps)
    view_shows Spent h p below is = is

-- ---- answers

-- a trail that the page has room for
record IsGood (order : Order) (owners : List (ℕ × SenderNo)) (trail : List RecvTurn) : Type 0 where
  order_is : IsPrefixOfOrder (order_given trail) order
  owners_are : IsPrefix (heads trail) owners
  silent : IsSilent trail

module _ {C : Type 0} (P : Process C) (A : Automaton C) (z : A.State) (order : Order)
    (owners : List (ℕ × SenderNo))
    (s : Spells A.table_layout.senders (log_in A z) order owners) where
  receiver_view_good : (ear : ℕ → Ear) (j : ℕ) (x : TableLayout) (e : ReceiverView)
      → KnowsLog A z ear j x e
      → IsGood order owners e.answers
  receiver_view_good ear j x e h =
      let mine : Spells A.table_layout.senders (log_in A z) (order_of h.frames)
      (map tenure_and_owner h.frames) = record {
        frames = h.frames;
        lawful = h.lawful;
        words_are = h.words_are;
        order_is = refl;
        owners_are = refl;
      } in
      let same = spells_one A.table_layout.senders (log_in A z) (order_of h.frames) order
      (map tenure_and_owner h.frames) owners mine s in
      grind (arith, common_steps, begins_order, begins_owners)

  same_good : (ear : ℕ → Ear) (j : ℕ) (x : TableLayout) (e : ReceiverView) → KnowsLog A z ear j x e
      → (trail : List RecvTurn)
      → trail ≡ e.answers → IsGood order owners trail
  same_good ear j x e h trail is =
      subst (IsGood order owners) (sym is) (receiver_view_good ear j x e h)

  view_good : (seat : ℕ → ℕ) (ear : ℕ → Ear) (j : ℕ) (v : View C) → IsTrueOf P A z seat ear j v
      → (trail : List RecvTurn) → ShowsTrail trail v → IsGood order owners trail
  view_good seat ear j (Maker x made) h trail is = absurd is
  view_good seat ear j (Sender c t notes) h trail is = absurd is
  view_good seat ear j (Tap x e) h trail is = same_good ear j x e h trail is
  view_good seat ear j (Meeting x e y f) h trail is = ⊎_elim
      (λ (i : trail ≡ e.answers). same_good ear j x e h.0 trail i)
      (λ (i : trail ≡ f.answers). same_good ear j y f h.1 trail i) is
  view_good seat ear j (Telling c t notes x e) h trail is = same_good ear j x e h.1 trail is
  view_good seat ear j Spent h trail is = absurd is

  -- a receiver that was answered nothing
  none_good : IsGood order owners []
  none_good = grind (arith, common_steps)

pub seats_promised : {C : Type 0} (P : Process C) (A : Automaton C) → AutomatonLaws P A
    → (s : State (Option Page) (View C)) (r : TableInvariant P A s)
    → IsPromised P A.table_layout (base_in A) (log_in A r.state) s
seats_promised {C} P A L s r =
    let p = L.promised r.state r.reached in
    let good : (trail : List RecvTurn) → IsShownTrail s trail → IsGood p.order p.owners trail =
    λ trail is. ⊎_elim
    (λ (e : trail ≡ []).
    subst (IsGood p.order p.owners) (sym e) (none_good P A r.state p.order p.owners p.spelled))
    (λ (z : (j : ℕ) × (v : View C) × (get_elem? s.views j ≡ some v) × ShowsTrail trail v).
    view_good P A r.state p.order p.owners p.spelled r.seat r.ear z.0 z.1
    (r.views z.0 z.1 z.2) trail z.3)
    is in
    let q = p.promises in
    let nobody : (p : ℕ) → A.table_layout.senders ≤ p → actions_at A r.state p ≡ [] =
    λ p past. L.nobody r.state p r.reached past in
    record {
      actions = actions_at A r.state;
      shown = λ p below.
          let h = r.all p below in (
            h.0,
            h.1,
            h.2,
            view_shows P A r.state r.seat r.ear h.0 h.1
                (r.views h.0 h.1 h.2) p below h.3,
          );
      nobody = nobody;
      long = (L.log r.state r.reached).long ∙ ap (λ ws. slice_index ws 0) (sym r.words);
      shows = grind (arith, common_steps, drop);
      stands = λ flat.
          ap (log_below A.table_layout) r.words ∙ (L.log r.state r.reached).stands flat;
      order = p.order;
      owners = p.owners;
      spelled = p.spelled;
      few = p.few;
      promises = λ heard shown. record {
        one_owner = q.one_owner;
        announced = q.announced;
        took_own = q.took_own;
        took_once = q.took_once;
        owned = q.owned;
        rising = q.rising;
        delivered = λ n. (good (heard n) (shown n)).order_is;
        told = λ n. (good (heard n) (shown n)).owners_are;
        faithful = q.faithful;
        numbered = q.numbered;
        silent = λ n. (good (heard n) (shown n)).silent;
        closed = q.closed;
        gone = q.gone;
        asked = q.asked;
        whole = q.whole;
        framed = q.framed;
      };
      views = λ j v e. view_fits P A r.state r.seat r.ear j nobody v (r.views j v e);
    }
