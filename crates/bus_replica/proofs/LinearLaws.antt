-- What a call executed stands behind all that was in the order when it began.
use Rattle.std.proofs.Common.{◌≡◌, ℕ, ◌+◌, ◌≤◌, true, inl, inr, Option, Some, List, [], ◌∷◌}
use Rattle.std.proofs.Common.{◌++◌, length, map, slice_get, refl, sym, ◌∙◌, ap, subst, append_assoc}
use Rattle.std.proofs.Common.{arith}
use Rattle.std.proofs.lemmas.Grind.{flat_map-append, common_steps}
use Rattle.std.proofs.lemmas.List.{length-append}
use mathlib.Core.Option.{some}
use lib.ListN.{get_elem?}
use Rattle.atomic_table.specs.Table.{State}
use Rattle.bus_batch.specs.declared.messages.Item.{Item}
use Rattle.bus_batch.specs.Frames.{Order, items_in}
use Rattle.bus_deliverylog.specs.Orders.{of_sender}
use Rattle.bus_tenure.specs.declared.pages.Page.{Page}
use Rattle.bus_world.specs.Headline.{Action, IsPrefix, puts}
use Rattle.bus_automaton.specs.Lawful.{ProcessLaws, AutomatonLaws}
use Rattle.bus_automaton.specs.Processes.{Process, Automaton, TableLayout, base_in}
use Rattle.bus_automaton.specs.SenderTrails.{SenderTrail}
use Rattle.bus_pageslot.specs.Lasting.{RuledTable, published}
use Rattle.bus_pageslot.specs.Notes.{Notes}
use Rattle.bus_pageslot.specs.Promised.{IsPromised, Fits}
use Rattle.bus_pageslot.specs.Rule.{Sat, TableInvariant, IsTrueOf, receiver_view_in}
use Rattle.bus_pageslot.specs.Rule.{sender_trail_in, notes_in, IsSeated as IsSeatedIn}
use Rattle.bus_pageslot.specs.Seats.{SenderSeat, first_number_of, actions_of}
use Rattle.bus_pageslot.specs.Steps.{Accepts, Nothing, Message, Marks}
use Rattle.bus_pageslot.specs.Turns.{Tellings}
use Rattle.bus_pageslot.specs.declared.rule.View.{View}
use Rattle.bus_pageslot.specs.declared.rule.View.TheVariants.{Maker, Sender, Tap, Meeting, Telling}
use Rattle.bus_pageslot.specs.declared.rule.View.TheVariants.{Spent}
use Rattle.bus_replica.specs.Replicas.{Operations, StandsLast, PutsAll, Replicated, has_view}
use Rattle.bus_replica.specs.Replicas.{items_heard}
use Rattle.bus_replica.specs.Linearized.{PageOf, SitsAt, IsLinearized}
use Rattle.bus_replica.specs.Moments.{EndsWith}
use Rattle.bus_replica.proofs.LaterLaws.{orders_on, puts_cover, stands_after}
use Rattle.bus_replica.proofs.OrderLaws.{items_begin, shows_own}
use Rattle.bus_replica.proofs.OwnLaws.{at_place, own_bytes, puts_on}

-- A seat of the table shows this sender: the worker of this number, whose first message has the
-- number with which the sitting begins for it.
pub record IsSeated {C : Type 0} (P : Process C) (base : ℕ → ℕ) (s : State (Option Page) (View C))
    (seat : SenderSeat C) (worker : ℕ) : Type 0 where
  pub place : ℕ
  pub at : get_elem? s.views place ≡ some seat.seat.me.0
  pub core : C
  pub trail : SenderTrail
  pub notes : Notes
  pub shows : seat.seat.me.0 ≡ Sender core trail notes
  pub me : P.me core ≡ worker
  pub first : first_number_of P seat ≡ base worker

-- of two beginnings of one list the shorter one begins the other
pub begins_front : {A : Type 0} (xs ys us vs : List A) → xs ++ ys ≡ us ++ vs → length xs ≤ length us
    → IsPrefix xs us
begins_front [] ys us vs e l = record { rest = us; together = refl }
begins_front (x ∷ xs) ys [] vs e l = absurd (omega (arith, l))
begins_front (x ∷ xs) ys (u ∷ us) vs e l =
    let rest = begins_front xs ys us vs (cc) (omega (arith, l)) in
    grind (arith, common_steps)

-- the items of an order begin those of a later one
pub items_on : {C : Type 0} (P : Process C) (x : TableLayout) (base : ℕ → ℕ) (log later : List ℕ)
    (s t : State (Option Page) (View C)) (h : IsPromised P x base log s)
    (k : IsPromised P x base later t) → IsPrefix log later
    → IsPrefix (items_in h.order.entries) (items_in k.order.entries)
items_on P x base log later s t h k on =
    orders_on x.senders log later h.order k.order h.owners k.owners h.spelled k.spelled on

-- at a moment a sender has put at least what the page of promises has of it
has_put_all : {C : Type 0} (P : Process C) (x : TableLayout) (base : ℕ → ℕ) (log : List ℕ)
    (s : State (Option Page) (View C)) (h : IsPromised P x base log s) (seat : SenderSeat C)
    (worker : ℕ) → IsSeated P base s seat worker
    → length (puts (h.actions worker)) ≤ length (puts (actions_of P seat))
has_put_all {C} P x base log s h seat worker sits =
    let shown : h.actions (P.me sits.core) ≡ sits.trail.actions =
    subst (Fits P h.actions log) sits.shows (h.views sits.place seat.seat.me.0 sits.at) in
    grind (arith, common_steps, length, flat_map-append, length-append)

-- ---- of two orders, the one of which begins the other
-- Of one sender the items of the later order are numbered, and their messages are the first of its
-- puts. It puts bytes behind as many as it has in the earlier order, or more. Where the last
-- operation of a beginning of the later order has the number of that put, it is executed between
-- the two.
pub performed : {S A : Type 0} (IsFirst : S → Type 0) (Applies : Operations S A)
    (order later : Order) → IsPrefix (items_in order.entries) (items_in later.entries)
    → (worker first : ℕ)
    → ((k : ℕ) (i : Item) → slice_get (of_sender worker later) k ≡ Some i → i.number ≡ first + k)
    → (all pre post : List (List ℕ)) (number : ℕ) (bytes : List ℕ)
    → IsPrefix (map (λ (i : Item). i.message) (of_sender worker later)) all
    → all ≡ pre ++ bytes ∷ post → number ≡ first + length pre
    → length (of_sender worker order) ≤ length pre
    → (items : List Item) (state : S) (answer : A) → IsPrefix items (items_in later.entries)
    → EndsWith IsFirst Applies items state worker number answer
    → IsLinearized IsFirst Applies order later worker number bytes answer state
performed IsFirst Applies order later on worker first numbers all pre post number bytes messages
    puts_are counted few items state answer front last =
    let numbered = last.number_is in
    let stands : items_in later.entries ≡ last.before ++ last.item ∷ front.rest =
    sym front.together ∙ ap (λ z. z ++ front.rest) last.items_are
    ∙ append_assoc last.before (last.item ∷ []) front.rest in
    let bytes_are : last.item.message ≡ bytes =
    own_bytes first later all worker numbers messages last.before front.rest last.item stands
    last.worker_is pre post bytes puts_are (omega (arith, numbered, counted)) in
    let place = stands_after order later on worker first (length last.before) last.item numbers
    (ap (λ z. slice_get z (length last.before)) stands ∙ at_place last.before front.rest last.item)
    last.worker_is (omega (arith, few, counted, numbered)) in
    grind (arith, common_steps, begins_front)

-- ---- of two tables
pub linearized : {C S A : Type 0} (IsFirst : S → Type 0) (Applies : Operations S A) (P : Process C)
    (T : Tellings C) (x : TableLayout) (base : ℕ → ℕ) (log later : List ℕ)
    (s t : State (Option Page) (View C))
    (h : IsPromised P x base log s) (k : IsPromised P x base later t) → IsPrefix log later
    → (old new : SenderSeat C) (worker number : ℕ) (front : List (List ℕ)) (bytes : List ℕ)
    → IsSeated P base s old worker → IsSeated P base t new worker
    → PutsAll P T old new number (front ++ bytes ∷ [])
    → (j : ℕ) (w : View C) (state : S) (answer : A)
    → get_elem? t.views j ≡ some w → has_view w ≡ true
    → StandsLast IsFirst Applies w state worker number answer
    → IsLinearized IsFirst Applies h.order k.order worker number bytes answer state
linearized IsFirst Applies P T x base log later s t h k on old new worker number front bytes sits
    sits' put j w state answer at has last =
    let answers = (receiver_view_in w).answers in
    let page = h.promises (λ r. []) (λ r. inl refl) in
    let page' = k.promises (λ r. answers) (λ r. inr (j, w, at, shows_own w has)) in
    let few = puts_cover (of_sender worker h.order) (puts (h.actions worker))
    (page.faithful.messages worker) in
    let more = has_put_all P x base log s h old worker sits in
    let counted = put.number_is in
    let first = sits.first in
    let before = puts (actions_of P old) in
    let many = length-append front (bytes ∷ []) in
    let long = length-append before front in
    performed IsFirst Applies h.order k.order (items_on P x base log later s t h k on) worker
    (base worker) (page'.faithful.numbered worker) (puts (actions_of P new))
    (before ++ front) [] number bytes
    (subst (λ p. IsPrefix (map (λ (i : Item). i.message) (of_sender p k.order))
    (puts (actions_of P new))) sits'.me
    (puts_on P x base later t k sits'.place new sits'.core sits'.trail sits'.notes sits'.at
    sits'.shows))
    (put.puts_are ∙ sym (append_assoc before front (bytes ∷ [])))
    (omega (arith, counted, first, many, long)) (omega (arith, few, more, long)) (items_heard w)
    state answer (items_begin answers answers k.order (page'.delivered 0))
    (record {
      first = last.first;
      begins = last.begins;
      before = last.before;
      item = last.item;
      items_are = last.items_are;
      worker_is = last.worker_is;
      number_is = last.number_is;
      at = last.at;
      folds = last.folds;
      applied = last.applied;
    })

-- ---- of two moments
-- what a sender accepts leaves its number
accepts_me : {C : Type 0} (P : Process C) → ProcessLaws P → (c d : C) (actions : List Action)
    → Accepts P c d actions → P.me d ≡ P.me c
accepts_me P laws c _ _ Nothing = refl
accepts_me P laws c _ _ (Message d actions bytes before can small) =
    (laws.message d bytes).me ∙ accepts_me P laws c d actions before
accepts_me P laws c _ _ (Marks d actions mark before can) =
    (laws.marked d mark).me ∙ accepts_me P laws c d actions before

-- whoever sits at a table of which the rule holds begins with the number of the sitting
pub seated : {C : Type 0} (P : Process C) (A : Automaton C) → ProcessLaws P → AutomatonLaws P A
    → (s : State (Option Page) (View C)) → TableInvariant P A s → (seat : SenderSeat C)
    → SitsAt P s seat → IsSeated P (base_in A) s seat (P.me seat.core)
seated {C} P A laws lawful s r seat sits =
    let c = sits.shows.shown in
    let trail = sender_trail_in seat.seat.me.0 in
    let notes = notes_in seat.seat.me.0 in
    let shows : seat.seat.me.0 ≡ Sender c trail notes =
    ap (λ (m : Sat C). m.0) sits.shows.me in
    let me : P.me seat.core ≡ P.me c =
    accepts_me P laws c seat.core sits.shows.actions sits.shows.accepts in
    let here : IsSeatedIn P A r.state r.seat sits.place c trail notes.stored =
    subst (IsTrueOf P A r.state r.seat r.ear sits.place) shows
    (r.views sits.place seat.seat.me.0 sits.at) in
    grind (arith, common_steps)

-- who was given an item is a receiver
none_given : (before : List Item) (item : Item) → ◌≡◌ {A = List Item} [] (before ++ item ∷ []) → ⊥
none_given [] item e = let no : ◌≡◌ {A = List Item} [] (item ∷ []) = e in cc
none_given (x ∷ before) item e =
    let no : ◌≡◌ {A = List Item} [] (x ∷ (before ++ item ∷ [])) = e in cc

given_some : {C : Type 0} (v : View C) (before : List Item) (item : Item)
    → items_heard v ≡ before ++ item ∷ [] → has_view v ≡ true
given_some (Maker x made) before item e = absurd (none_given before item e)
given_some (Sender c trail notes) before item e = absurd (none_given before item e)
given_some (Tap x e) before item h = refl
given_some (Meeting x e y f) before item h = refl
given_some (Telling c trail notes x e) before item h = refl
given_some Spent before item e = absurd (none_given before item e)

pub executed : {C S A : Type 0} (IsFirst : S → Type 0) (Applies : Operations S A) (P : Process C)
    (T : Tellings C) (Bus : Automaton C) → ProcessLaws P → AutomatonLaws P Bus
    → (s t : RuledTable P Bus) (h : PageOf s) (k : PageOf t) → IsPrefix (published s) (published t)
    → (old new : Replicated C S) (number : ℕ) (front : List (List ℕ)) (bytes : List ℕ)
    (answer : A) (j : ℕ) → SitsAt P s.table old.sender → SitsAt P t.table new.sender
    → get_elem? t.table.views j ≡ some new.me.0
    → PutsAll P T old.sender new.sender number (front ++ bytes ∷ [])
    → StandsLast IsFirst Applies new.me.0 new.state (P.me old.sender.core) number answer
    → IsLinearized IsFirst Applies h.order k.order (P.me old.sender.core) number bytes answer
    new.state
executed {C} IsFirst Applies P T Bus laws lawful s t h k on old new number front bytes answer j sits
    sits' at put last =
    linearized IsFirst Applies P T Bus.table_layout (base_in Bus) (published s) (published t)
    s.table t.table h k on old.sender new.sender (P.me old.sender.core) number front bytes
    (seated P Bus laws lawful s.table s.rule old.sender sits)
    (subst (λ w. IsSeated P (base_in Bus) t.table new.sender w) put.me_is
    (seated P Bus laws lawful t.table t.rule new.sender sits'))
    put j new.me.0 new.state answer at
    (given_some new.me.0 last.before last.item last.items_are) last
