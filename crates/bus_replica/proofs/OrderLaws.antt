-- What replicas have to do with the one order of their bus.
use Rattle.std.proofs.Common.{◌≡◌, ℕ, true, false, inl, inr, List, [], ◌∷◌, ◌++◌, flat_map, Option}
use Rattle.std.proofs.Common.{refl, sym, ◌∙◌, ap, arith}
use Rattle.std.proofs.lemmas.Grind.{flat_map-append, common_steps}
use mathlib.Core.Option.{some}
use lib.ListN.{get_elem?}
use Rattle.atomic_table.specs.Table.{State}
use Rattle.bus_batch.specs.Frames.{Order, items_in}
use Rattle.bus_batch.specs.Frames.{item_in as item_of_entry}
use Rattle.bus_deliverylog.specs.Orders.{IsPrefixOfOrder}
use Rattle.bus_deliverylog.specs.declared.receiving.RecvTurn.{RecvTurn}
use Rattle.bus_deliverylog.specs.declared.receiving.RecvTurn.TheVariants as turn
use Rattle.bus_tenure.specs.declared.pages.Page.{Page}
use Rattle.bus_world.specs.Headline.{IsPrefix, entry_heard, order_given}
use Rattle.bus_automaton.specs.Processes.{Process, TableLayout}
use Rattle.bus_pageslot.specs.Promised.{IsPromised, ShowsTrail}
use Rattle.bus_pageslot.specs.Rule.{receiver_view_in}
use Rattle.bus_pageslot.specs.declared.rule.View.{View}
use Rattle.bus_pageslot.specs.declared.rule.View.TheVariants.{Maker, Sender, Tap, Meeting, Telling}
use Rattle.bus_pageslot.specs.declared.rule.View.TheVariants.{Spent}
use Rattle.bus_receiver.specs.HearingRuns.{item_in}
use Rattle.bus_replica.specs.Replicas.{Operations, IsFold, items_heard, has_view}
use Rattle.bus_replica.specs.OneOrder.{FollowsOrder}

-- the items of the order that answers gave
entry_items : (t : RecvTurn) → item_in t ≡ flat_map item_of_entry (entry_heard t)
entry_items turn.Going = refl
entry_items turn.Empty = refl
entry_items (turn.Head t o) = refl
entry_items (turn.Item i) = refl
entry_items (turn.Leave s) = refl
entry_items turn.End = refl

pub items_given : (turns : List RecvTurn)
    → flat_map item_in turns ≡ items_in (flat_map entry_heard turns)
items_given [] = refl
items_given (t ∷ turns) =
    ap (λ z. z ++ flat_map item_in turns) (entry_items t)
    ∙ ap (λ z. flat_map item_of_entry (entry_heard t) ++ z) (items_given turns)
    ∙ sym (flat_map-append item_of_entry (entry_heard t) (flat_map entry_heard turns))

-- the items of an order that begins another begin the other's
pub items_begin : (old new : List RecvTurn) (order : Order)
    → IsPrefixOfOrder (order_given old) order
    → IsPrefix (flat_map item_in old) (items_in order.entries)
items_begin old new order h = grind (arith, common_steps, items_given, flat_map-append, flat_map)

pub shows_own : {C : Type 0} (v : View C) → has_view v ≡ true
    → ShowsTrail (receiver_view_in v).answers v
shows_own (Maker x made) has = absurd (let no : false ≡ true = has in cc)
shows_own (Sender c t notes) has = absurd (let no : false ≡ true = has in cc)
shows_own (Tap x e) has = refl
shows_own (Meeting x e y f) has = inl refl
shows_own (Telling c t notes x e) has = refl
shows_own Spent has = absurd (let no : false ≡ true = has in cc)

pub follows : {C S A : Type 0} (IsFirst : S → Type 0) (Applies : Operations S A) (P : Process C)
    (x : TableLayout) (base : ℕ → ℕ) (log : List ℕ) (s : State (Option Page) (View C))
    (h : IsPromised P x base log s) (j : ℕ) (v : View C) (state : S)
    → get_elem? s.views j ≡ some v → IsFold IsFirst Applies v state
    → FollowsOrder IsFirst Applies h.order state
follows IsFirst Applies P x base log s h j v state at f =
    let answers = (receiver_view_in v).answers in
    let page = h.promises (λ r. answers) (λ r. inr (j, v, at, shows_own v f.heard)) in
    record {
      first = f.first;
      begins = f.begins;
      items = items_heard v;
      folds = f.folds;
      of_order = items_begin answers answers h.order (page.delivered 0);
    }
