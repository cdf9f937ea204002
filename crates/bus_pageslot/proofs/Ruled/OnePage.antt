-- What the seats show and all that was published fix the page of promises; and without a seat of
-- each sender there is none.
use Rattle.std.proofs.Common.{
  ◌≡◌,
  ◌⊎◌,
  ℕ,
  zero,
  suc,
  ◌<◌,
  ◌≤◌,
  Option,
  List,
  [],
  ◌∷◌,
  inl,
  inr,
  arith,
  sym,
}
use Rattle.std.proofs.Common.{◌∙◌, ◌++◌, ap, drop, length, slice_index, subst, take, arith}
use mathlib.Core.Option.{some, some-injective, some-ne-none}
use lib.ListN.{get_elem?}
use Rattle.std.proofs.lemmas.Bool.{cases_lt}
use Rattle.std.proofs.lemmas.List.{take-append-drop, take-append-le}
use Rattle.std.proofs.lemmas.Grind.{common_steps}
use Rattle.atomic_table.specs.Table.{State}
use Rattle.bus_batch.proofs.FrameLaws.{spells_one}
use Rattle.bus_batch.specs.Frames.{Spells}
use Rattle.bus_tenure.specs.declared.pages.Page.{Page}
use Rattle.bus_world.specs.Headline.{Action, IsPrefix}
use Rattle.bus_automaton.specs.SenderTrails.{SenderTrail}
use Rattle.bus_pageslot.specs.Notes.{Notes}
use Rattle.bus_pageslot.specs.declared.rule.View.{View}
use Rattle.bus_pageslot.specs.declared.rule.View.TheVariants.{Maker, Sender, Tap, Meeting, Telling}
use Rattle.bus_pageslot.specs.declared.rule.View.TheVariants.{Spent}
use Rattle.bus_pageslot.specs.ReceiverViews.{ReceiverView}
use Rattle.bus_pageslot.specs.Rings.{ShowsReceiver}
use Rattle.bus_pageslot.specs.Rule.{TableInvariant}
use Rattle.bus_automaton.specs.Lawful.{floor_in}
use Rattle.bus_automaton.specs.Processes.{TableLayout, Process, Automaton}
use Rattle.bus_pageslot.specs.Promised.{Fits, ShowsActions, IsPromised}

-- what a view shows of a sender is what it is true of
same_at : {C : Type 0} (P : Process C) (actions actions' : ℕ → List Action) (log : List ℕ) (p : ℕ)
    (v : View C) → ShowsActions P p (actions p) v → Fits P actions' log v → actions p ≡ actions' p
same_at P actions actions' log p (Maker x made) h f = h.1 ∙ sym (f p h.0)
same_at P actions actions' log p (Sender c t notes) h f = h.1 ∙ sym f ∙ ap actions' h.0
same_at P actions actions' log p (Tap x e) h f = absurd h
same_at P actions actions' log p (Meeting x e y k) h f = absurd h
same_at P actions actions' log p (Telling c t notes x e) h f = h.1 ∙ sym f.0 ∙ ap actions' h.0
same_at P actions actions' log p Spent h f = absurd h

-- what a receiver knows that a view shows is a beginning of the log that the view is true of
known_front : {C : Type 0} (P : Process C) (actions : ℕ → List Action) (log : List ℕ)
    (e : ReceiverView) (v : View C) → ShowsReceiver e v → Fits P actions log v
    → IsPrefix e.known log
known_front P actions log e (Maker x made) none f = absurd none
known_front P actions log e (Sender c t notes) none f = absurd none
known_front P actions log e (Tap x g) same f =
    subst (λ (u : ReceiverView). IsPrefix u.known log) same f
known_front P actions log e (Meeting x g y k) (inl same) f =
    subst (λ (u : ReceiverView). IsPrefix u.known log) same f.0
known_front P actions log e (Meeting x g y k) (inr same) f =
    subst (λ (u : ReceiverView). IsPrefix u.known log) same f.1
known_front P actions log e (Telling c t notes x g) same f =
    subst (λ (u : ReceiverView). IsPrefix u.known log) same f.1
known_front P actions log e Spent none f = absurd none

-- two lists begin with what is known, and from a place in it on they are the same
one_behind : (known xs ys : List ℕ) (n : ℕ) → n ≤ length known → IsPrefix known xs
    → IsPrefix known ys → drop n xs ≡ drop n ys → xs ≡ ys
one_behind known xs ys n low a b same =
    let front : take n xs ≡ take n ys =
    ap (take n) (sym a.together) ∙ take-append-le n known a.rest low
    ∙ sym (take-append-le n known b.rest low) ∙ ap (take n) b.together in
    sym (take-append-drop n xs) ∙ ap (λ l. l ++ drop n xs) front
    ∙ ap (λ l. take n ys ++ l) same ∙ take-append-drop n ys

the_one : {A : Type 0} (a b : A) (j : ℕ) → get_elem? (a ∷ []) j ≡ some b → a ≡ b
the_one a b zero e = some-injective a b e
the_one a b (suc j) e = absurd (some-ne-none b (sym e))

module _ {C : Type 0} (P : Process C) (x : TableLayout) (base : ℕ → ℕ) (log : List ℕ)
    (s : State (Option Page) (View C)) where
  -- two pages of one table: they have the same actions, and logs of one length that show the same
  -- from the floor on
  module _ (log' : List ℕ) (h : IsPromised P x base log s) (k : IsPromised P x base log' s) where
    pub actions_same : (p : ℕ) → h.actions p ≡ k.actions p
    actions_same p = elim (cases_lt p x.senders) [
      | inl below ↦
          let w = h.shown p below in
          same_at P h.actions k.actions log' p w.1 w.3 (k.views w.0 w.1 w.2)
      | inr past ↦ h.nobody p past ∙ sym (k.nobody p past)
    ]

    pub logs_alike : (length log ≡ length log')
        × (drop (floor_in x s.words) log ≡ drop (floor_in x s.words) log')
    logs_alike = (h.long ∙ sym k.long, sym h.shows ∙ k.shows)

    -- a view shows a receiver that knows the log as far as the floor
    abbrev KnowsBelow : Type 0
    KnowsBelow =
        (j : ℕ) × (v : View C) × (e : ReceiverView) × (get_elem? s.views j ≡ some v)
        × ShowsReceiver e v × (floor_in x s.words ≤ length e.known)

    -- they have one log, where no word of it is used again, or where that is so
    pub one_log : (x.passers ≡ 0) ⊎ ((log ≡ log') ⊎ KnowsBelow) → log ≡ log'
    one_log (inl flat) = sym (h.stands flat) ∙ k.stands flat
    one_log (inr (inl is)) = is
    one_log (inr (inr (j, v, e, at, is, low))) = one_behind e.known log log'
        (floor_in x s.words) low
        (known_front P h.actions log e v is (h.views j v at))
        (known_front P k.actions log' e v is (k.views j v at))
        logs_alike.1

    -- and then the same order
    pub orders_same : (x.passers ≡ 0) ⊎ ((log ≡ log') ⊎ KnowsBelow)
        → (h.order ≡ k.order) × (h.owners ≡ k.owners)
    orders_same one =
        let same = one_log one in
        spells_one x.senders log h.order k.order h.owners k.owners h.spelled
        (subst (λ (l : List ℕ). Spells x.senders l k.order k.owners) (sym same) k.spelled)

  -- no page has an empty log where something was published
  pub no_empty : 0 < slice_index s.words 0 → log ≡ [] → ¬ IsPromised P x base log s
  no_empty any none h = let long = h.long in let size = ap length none in omega arith

  -- the seat of sender 0 alone, of two or more
  module _ (many : 1 < x.senders) (c : C) (sender_trail : SenderTrail) (notes : Notes)
      (me : P.me c ≡ 0) (is : s.views ≡ Sender c sender_trail notes ∷ []) where
    only : (j : ℕ) (v : View C) → get_elem? s.views j ≡ some v → Sender c sender_trail notes ≡ v
    only j v at = the_one (Sender c sender_trail notes) v j
        (subst (λ (vs : List (View C)). get_elem? vs j ≡ some v) is at)

    pub no_page : ¬ IsPromised P x base log s
    no_page r = grind (arith, only)

pub no_bus : {C : Type 0} (P : Process C) (A : Automaton C) (s : State (Option Page) (View C))
    → 1 < A.table_layout.senders → (c : C) (sender_trail : SenderTrail) (notes : Notes) → P.me c ≡ 0
    → s.views ≡ Sender c sender_trail notes ∷ [] → ¬ TableInvariant P A s
no_bus {C} P A s many c sender_trail notes me is r =
    grind (arith, common_steps, the_one, get_elem?, some)
