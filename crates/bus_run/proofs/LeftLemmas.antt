-- What a seat has learnt, and what a bus of a run leaves behind.
use Rattle.std.proofs.Common.{◌≡◌, ℕ, List, [], ◌∷◌, ◌++◌, ◌+◌, refl, sym, ap, subst, ◌∙◌}
use Rattle.std.proofs.Common.{append_assoc, append-nil, replicate, ◌⊎◌, inl, inr, Option, Some}
use Rattle.std.proofs.Common.{None, Bool, true, false, map}
use Rattle.std.proofs.lemmas.List.{replicate_more}
use Rattle.std.specs.Prelude.{slice_get, get_or, IfSome, All}
use Rattle.bus_batch.specs.Frames.{Order, Spells}
use Rattle.bus_tenure.specs.Core.{length_at}
use Rattle.bus_tenure.specs.declared.pages.Page.{Page}
use Rattle.bus_world.specs.Headline.{IsPrefix}
use Rattle.bus_automaton.specs.Buses.{automaton_with, passers_in, plan_passers}
use Rattle.bus_automaton.specs.declared.plans.Plan.{Plan}
use Rattle.bus_world.specs.declared.shapes.Shape.{Shape}
use Rattle.bus_pageslot.specs.declared.rule.View.TheVariants.{Maker, Sender, Tap, Meeting, Telling}
use Rattle.bus_pageslot.specs.declared.rule.View.TheVariants.{Spent}
use Rattle.bus_pageslot.specs.Endings.{IsLeft}
use Rattle.bus_pageslot.specs.Outcomes.{Outcome}
use Rattle.bus_pageslot.specs.Rule.{Sat, receiver_view_in, known_in, with_receiver_view}
use Rattle.bus_pageslot.specs.Seats.{SenderSeat}
use Rattle.bus_pageslot.specs.Steps.{Learns}
use Rattle.bus_run.specs.Audit.{IsSpelled, OfOrder}
use Rattle.bus_automaton.specs.ThreeWordBuses.{Held, process, automaton}
use Rattle.bus_run.specs.Left.{Shown, IsLeftBy, IsLeftBehind, HasLearnt, number_of, senders_of}
use Rattle.bus_run.specs.Stops.{LeavesNoPage, LeavesOrder, IsOpen}
use Rattle.bus_run.specs.Told.{HasTold}
use Rattle.bus_run.proofs.ToldLemmas.{told_of}

-- ---- what a seat has learnt

same_view : (v : Shown)
    → v
    ≡ with_receiver_view v
    (record (receiver_view_in v) { known = known_in v; loads = (receiver_view_in v).loads ++ [] })
same_view (Maker x made) = refl
same_view (Sender c trail stored) = refl
same_view (Tap c e) = ap (λ l. Tap c (record e { loads = l })) (sym (append-nil e.loads))
same_view (Meeting c e d f) =
    ap (λ l. Meeting c (record e { loads = l }) d f) (sym (append-nil e.loads))
same_view (Telling c trail stored d e) =
    ap (λ l. Telling c trail stored d (record e { loads = l })) (sym (append-nil e.loads))
same_view Spent = refl

-- so many loads of the length more
abbrev loads_more : List ℕ → ℕ → List ℕ
loads_more before n = before ++ replicate n length_at

one_later : (before : List ℕ) (n : ℕ)
    → loads_more before n ++ length_at ∷ [] ≡ loads_more before (n + 1)
one_later before n =
    append_assoc before (replicate n length_at) (length_at ∷ [])
    ∙ ap (λ z. before ++ z) (replicate_more n length_at)

one_more : (v : Shown) (k k' : List ℕ) (n : ℕ)
    → (let w = with_receiver_view v
    (record (receiver_view_in v) { known = k; loads = loads_more (receiver_view_in v).loads n }) in
    with_receiver_view w
    (record (receiver_view_in w) { known = k'; loads = loads_more (receiver_view_in w).loads 1 }))
    ≡ with_receiver_view v (record (receiver_view_in v) {
      known = k';
      loads = loads_more (receiver_view_in v).loads (n + 1);
    })
one_more (Maker x made) k k' n = refl
one_more (Sender c trail stored) k k' n = refl
one_more (Tap c e) k k' n =
    ap (λ l. Tap c (record e { known = k'; loads = l })) (one_later e.loads n)
one_more (Meeting c e d f) k k' n =
    ap (λ l. Meeting c (record e { known = k'; loads = l }) d f) (one_later e.loads n)
one_more (Telling c trail stored d e) k k' n =
    ap (λ l. Telling c trail stored d (record e { known = k'; loads = l })) (one_later e.loads n)
one_more Spent k k' n = refl

nothing_before : (k : List ℕ) → IsPrefix [] k
nothing_before k = record { rest = k; together = refl }

knows_more : (v : Shown) (k : List ℕ) (l : List ℕ) → IsPrefix (known_in v) k
    → IsPrefix (known_in v)
    (known_in (with_receiver_view v (record (receiver_view_in v) { known = k; loads = l })))
knows_more (Maker x made) k l h = nothing_before []
knows_more (Sender c trail stored) k l h = nothing_before []
knows_more (Tap c e) k l h = h
knows_more (Meeting c e d f) k l h = h
knows_more (Telling c trail stored d e) k l h = h
knows_more Spent k l h = nothing_before []

longer : (a b c : List ℕ) → IsPrefix a b → IsPrefix b c → IsPrefix a c
longer a b c g h = record {
  rest = g.rest ++ h.rest;
  together = sym (append_assoc a g.rest h.rest) ∙ ap (λ z. z ++ h.rest) g.together ∙ h.together;
}

-- what it knows has grown
pub grown : (times : ℕ) (old new : Shown) → HasLearnt times old new
    → IsPrefix (known_in old) (known_in new)
grown times old new h = subst (λ v. IsPrefix (known_in old) (known_in v)) (sym h.now)
    (knows_more old h.known (loads_more (receiver_view_in old).loads times) h.grows)

pub none_learnt : (v : Shown) → HasLearnt 0 v v
none_learnt v = record {
  known = known_in v;
  now = same_view v;
  grows = record { rest = []; together = append-nil (known_in v) };
}

-- its loads are those of both
pub more_learnt : (times : ℕ) (a b c : Shown) → HasLearnt times a b → HasLearnt 1 b c
    → HasLearnt (times + 1) a c
more_learnt times a b c g h = record {
  known = h.known;
  now =
      h.now
      ∙ ap (λ v. with_receiver_view v (record (receiver_view_in v) {
        known = h.known;
        loads = loads_more (receiver_view_in v).loads 1;
      })) g.now ∙ one_more a g.known h.known times;
  grows = longer (known_in a) (known_in b) h.known (grown times a b g) h.grows;
}

-- by one load of the length
pub one_learnt : (m : Sat Held) (got : ℕ) (m' : Sat Held) → Learns m got m' → HasLearnt 1 m.0 m'.0
one_learnt m got m' h = record {
  known = h.known;
  now = ap (λ (z : Sat Held). z.0) h.now;
  grows = h.grows;
}

-- ---- what is left
-- how many senders the bus of a plan has
senders_planned : (s : Shape) (reuse : Option ℕ) (b : List ℕ) (ring : Bool)
    → (automaton (record { shape = s; reuse = reuse; bases = b; ring = ring })).table_layout.senders
    ≡ s.senders
unfolding automaton_with
senders_planned s None b ring = refl
senders_planned s (Some rows) b ring = refl

-- and how many passed places
passers_planned : (s : Shape) (reuse : Option ℕ) (b : List ℕ) (ring : Bool)
    → (automaton (record { shape = s; reuse = reuse; bases = b; ring = ring })).table_layout.passers
    ≡ passers_in reuse ring s.receivers
unfolding automaton_with
passers_planned s None b ring = refl
passers_planned s (Some rows) b false = refl
passers_planned s (Some rows) b true = refl

-- where a plan has none, the log was left whole
pub stands_whole : (plan : Plan) (seen : Shown) (log : List ℕ) (floor : ℕ) (home : Option Page)
    → plan_passers plan ≡ 0 → IsLeft process (automaton plan) seen log floor home
    → IsLeftBy plan seen log home
stands_whole plan seen log floor home none left =
    let flat = left.flat (passers_planned plan.shape plan.reuse plan.bases plan.ring ∙ none) in
    subst (λ n. IsLeft process (automaton plan) seen log n home) flat.first left

-- what the seat knew is a beginning of it
pub front_left : (plan : Plan) (seen : Shown) (log : List ℕ) (home : Option Page)
    → IsLeftBy plan seen log home → IsPrefix (known_in seen) log
front_left plan seen log home left = subst (IsPrefix (known_in seen)) left.published left.front

-- the words that were left spell an order
pub spelled_behind : (plan : Plan) (left : Outcome) → IsLeftBehind plan left
    → left.senders ≡ plan.shape.senders → IsSpelled left
spelled_behind plan left h of =
    let promised = h.left.promised in (
      promised.order,
      promised.owners,
      subst (λ n. Spells n left.log promised.order promised.owners) (sym of)
          (subst (λ (z : ℕ × List ℕ). Spells z.0 z.1 promised.order promised.owners)
          (λ k. (senders_planned plan.shape plan.reuse plan.bases plan.ring k, h.left.published k))
          promised.spelled),
    )

-- what senders have told a seat that ended a bus is a log of the senders of that bus
pub told_of_bus : {D : Type 0} (sender : D → SenderSeat Held) (a b : Plan) → a ≡ b
    → (seen : Shown) (log : List ℕ) (home : Option Page) (messages : ℕ) (xs : List D)
    → IsLeftBy a seen log home
    → All (λ d. HasTold (senders_of (sender d)) (number_of (sender d)) messages (known_in seen)) xs
    → All (λ d. HasTold b.shape.senders (number_of (sender d)) messages (known_in seen)) xs
told_of_bus sender a b same seen log home messages xs left told k d l =
    let s = sender (get_or xs k d) in
    let promised = left.promised in
    let spelled = subst (λ (z : ℕ × List ℕ). Spells z.0 z.1 promised.order promised.owners)
    (λ j. (senders_planned a.shape a.reuse a.bases a.ring j, left.published j)) promised.spelled in
    subst (λ (x : Plan). HasTold x.shape.senders (number_of s) messages (known_in seen)) same
    (told_of (senders_of s) a.shape.senders (number_of s) messages (known_in seen) log
    promised.order promised.owners (told k d l) (front_left a seen log home left) spelled)

-- a bus that a seat has ended with its page at home leaves an order
pub leaves : (a b : Plan) → a ≡ b
    → (Ends : Shown → Type 0) (last : Shown) (left : Outcome) (P : Order → Type 0) → Ends last
    → left.senders ≡ a.shape.senders → IsLeftBy a last left.log (Some left.page) → OfOrder left P
    → LeavesOrder b Ends P
leaves a b same Ends last left P ends of by holds =
    let behind : IsLeftBehind b left = record {
      seen = last;
      left = subst (λ x. IsLeftBy x last left.log (Some left.page)) same by;
    } in
    let senders : left.senders ≡ b.shape.senders = of ∙ ap (λ (x : Plan). x.shape.senders) same in
    record {
      left = left;
      senders = senders;
      behind = behind;
      ends = ends;
      spelled = spelled_behind b left behind senders;
      holds = holds;
    }

-- what is true of the seat that ended a bus which was left open, whatever that left
pub left_open : (a b : Plan) → a ≡ b → (Ends : Shown → Type 0) (last : Shown)
    → ((log : List ℕ) (home : Option Page) → IsLeftBy a last log home → Ends last)
    → LeavesNoPage a (λ seen. seen ≡ last) ⊎ LeavesOrder a (λ seen. seen ≡ last) IsOpen
    → LeavesNoPage b Ends ⊎ LeavesOrder b Ends IsOpen
left_open a b same Ends last ends (inl h) =
    inl (record {
      seen = h.seen;
      ends = subst Ends (sym h.ends)
          (ends h.log None (subst (λ v. IsLeftBy a v h.log None) h.ends h.left));
      log = h.log;
      left = subst (λ x. IsLeftBy x h.seen h.log None) same h.left;
    })
left_open a b same Ends last ends (inr h) =
    let there = subst (λ v. IsLeftBy a v h.left.log (Some h.left.page)) h.ends h.behind.left in
    inr (leaves a b same Ends h.behind.seen h.left IsOpen
    (subst Ends (sym h.ends) (ends h.left.log (Some h.left.page) there)) h.senders h.behind.left
    h.holds)

-- ---- the first of a list that grows
stays_first : {A B : Type 0} (f : A → B) (xs : List A) (y : A) (b : B)
    → slice_get (map f xs) 0 ≡ Some b → slice_get (map f (xs ++ y ∷ [])) 0 ≡ Some b
stays_first f [] y b h = absurd (let no = h in cc)
stays_first f (x ∷ xs) y b h = h

pub still_first : {A B R : Type 0} (f : A → B) (g : R → B) (o : Option R) (xs : List A) (y : A)
    → IfSome o (λ r. slice_get (map f xs) 0 ≡ Some (g r))
    → IfSome o (λ r. slice_get (map f (xs ++ y ∷ [])) 0 ≡ Some (g r))
still_first f g None xs y h = h
still_first f g (Some r) xs y h = stays_first f xs y (g r) h
