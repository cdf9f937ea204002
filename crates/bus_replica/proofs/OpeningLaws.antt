-- The replicas of a bus that is new, paired off one by one.
use Rattle.std.proofs.Common.{◌≡◌, ℕ, zero, suc, ◌+◌, ◌≤◌, true, inl, inr, List, [], ◌∷◌, ◌++◌}
use Rattle.std.proofs.Common.{Some, Option, length, slice_get, refl, sym, ◌∙◌, ap, subst}
use Rattle.std.proofs.Common.{arith, ◌⊎◌}
use Rattle.std.specs.Prelude.{All, option_map}
use Rattle.std.proofs.lemmas.List.{length-append, length-map}
use Rattle.std.proofs.lemmas.Option.{same_Some, slice_get-map, slice_get_within}
use Rattle.std.proofs.lemmas.Option.{get_or_from_slice_get}
use Rattle.std.proofs.lemmas.Grind.{common_steps}
use Rattle.bus_register.specs.declared.limits.TheConstants.{MOST_SENDERS}
use Rattle.bus_batch.specs.declared.messages.Item.{Item}
use Rattle.bus_tenure.specs.declared.pages.Page.{Page}
use Rattle.bus_world.proofs.Places.{none_in}
use Rattle.bus_world.specs.declared.shapes.Shape.{Shape}
use Rattle.bus_automaton.specs.Buses.{ring_plan}
use Rattle.bus_automaton.specs.Processes.{TableLayout, Process, Automaton}
use Rattle.bus_automaton.specs.declared.plans.Plan.{Plan}
use Rattle.bus_pageslot.specs.Buses.{BusId, IsNewSeat}
use Rattle.bus_pageslot.specs.ReceiverViews.{new_receiver_view}
use Rattle.bus_pageslot.specs.Rule.{Sat, receiver_view_in, known_in}
use Rattle.bus_pageslot.specs.Seats.{SenderSeat}
use Rattle.bus_pageslot.specs.declared.rule.View.{View}
use Rattle.bus_pageslot.specs.declared.rule.View.TheVariants.{Tap}
use Rattle.bus_handles.specs.Handles.{SeatOfBus, IsOpened, seat_of}
use Rattle.bus_replica.specs.Replicas.{Operations, Folds, Begins, IsFold, LeadTo, Replicated}
use Rattle.bus_replica.specs.Replicas.{sitting_of}
use Rattle.bus_replica.specs.Replicas.{items_heard, has_view, HasNobodyLeft}
use Rattle.bus_replica.specs.Openings.{IsNewReplica, AreNewReplicas, IsPairing, replica_shape}

-- ---- a receiver before its first turn
-- it was given nothing yet
record HasHeardNothing {C : Type 0} (v : View C) : Type 0 where
  heard : has_view v ≡ true
  none : items_heard v ≡ []
  nobody : HasNobodyLeft v
  within : (receiver_view_in v).place ≤ length (known_in v)

new_hears : {C : Type 0} (m : Sat C) (x : TableLayout) (r : ℕ)
    → m ≡ (Tap x (new_receiver_view r), []) → HasHeardNothing m.0
new_hears {C} m x r is = subst (λ (z : Sat C). HasHeardNothing z.0) (sym is)
    (record { heard = refl; none = refl; nobody = λ worker. refl; within = omega arith })

pub nobody_left : {C : Type 0} (m : Sat C) (x : TableLayout) (r : ℕ)
    → m ≡ (Tap x (new_receiver_view r), []) → HasNobodyLeft m.0
nobody_left m x r is = (new_hears m x r is).nobody

pub fold_of_none : {C S A : Type 0} (IsFirst : S → Type 0) (Applies : Operations S A) (m : Sat C)
    (x : TableLayout) (r : ℕ) (state : S) → m ≡ (Tap x (new_receiver_view r), [])
    → IsFirst state → IsFold IsFirst Applies m.0 state
fold_of_none {S = S} IsFirst Applies m x r state is first =
    let h = new_hears m x r is in
    record {
      first = state;
      begins = first;
      folds = subst (λ z. Folds Applies state z state) (sym h.none) Begins;
      heard = h.heard;
      within = h.within;
    }

-- ---- one more behind a list
push_at : {A : Type 0} (xs : List A) (x y : A) (k : ℕ) → slice_get (xs ++ x ∷ []) k ≡ Some y
    → (slice_get xs k ≡ Some y) ⊎ ((k ≡ length xs) × (x ≡ y))
push_at [] x y zero e = inr (refl, same_Some x y e)
push_at [] x y (suc k) e = absurd (none_in k y e)
push_at (z ∷ xs) x y zero e = inl e
push_at (z ∷ xs) x y (suc k) e = elim (push_at xs x y k e) [
  | inl l ↦ inl l
  | inr r ↦ inr (ap suc r.0, r.1)
]

all_at : {X : Type 0} (So : X → Type 0) (xs : List X) → All So xs → (k : ℕ) (x : X)
    → slice_get xs k ≡ Some x → So x
all_at So xs all k x at = subst (λ z. So z) (get_or_from_slice_get xs k x x at)
    (all k x (slice_get_within xs k x at))

module _ {C S Answer : Type 0} (P : Process C) (A : Plan → Automaton C) (IsFirst : S → Type 0)
    (Applies : Operations S Answer) (shape : Shape) (page : Option Page)
    (replayed : List Item) where
  -- the handles of a bus that was opened
  pub none_made : (senders : List (SenderSeat C)) (receivers : List (SeatOfBus C))
      → IsOpened P (A (ring_plan shape page)) (ring_plan shape page) senders receivers
      → shape ≡ replica_shape shape.senders shape.log_words → shape.senders ≤ MOST_SENDERS
      → IsPairing P A IsFirst Applies shape page replayed [] senders receivers
  none_made senders receivers h is few =
      let plan = ring_plan shape page in
      let same : h.bus.plan ≡ plan = h.plan_is in
      let as_many : shape.receivers ≡ shape.senders = ap (λ (x : Shape). x.receivers) is in
      record {
        bus = sitting_of h.bus replayed;
        shape_is = is;
        plan_is = same;
        replayed_is = refl;
        few = few;
        each = λ k r at. absurd (none_in k r at);
        senders_are = λ k number s at is.
            let k_is : k ≡ number = omega (arith, is) in
            subst (λ (p : Plan). IsNewSeat P (A p) h.bus.table number s) (sym same)
            (subst (λ n. IsNewSeat P (A plan) h.bus.table n s) k_is (h.senders_are.each k s at));
        receivers_are = λ k number r at is. (
          ap (λ (b : BusId). sitting_of b replayed)
              (all_at (λ (z : SeatOfBus C). z.bus ≡ h.bus) receivers h.to_bus k r at),
          subst (λ (p : Plan). r.me ≡ (Tap (A p).table_layout (new_receiver_view number), []))
              (sym same) (subst (λ n. r.me ≡ (Tap (A plan).table_layout (new_receiver_view n), []))
              (let k_is : k ≡ number = omega (arith, is) in k_is)
              (h.receivers_are.each k (seat_of r)
              (slice_get-map (λ (z : SeatOfBus C). seat_of z) receivers k
              ∙ ap (option_map (λ (z : SeatOfBus C). seat_of z)) at)).me),
        );
        many = (let l = h.senders_are.many_are in omega (arith, l));
        as_many = grind (arith, common_steps, length-map);
      }

  -- the next two
  module _ (made : List (Replicated C S)) (s : SenderSeat C) (r : SeatOfBus C)
      (senders senders' : List (SenderSeat C)) (receivers receivers' : List (SeatOfBus C))
      (e : senders ≡ s ∷ senders') (f : receivers ≡ r ∷ receivers')
      (h : IsPairing P A IsFirst Applies shape page replayed made senders receivers) where
    here : length made ≡ length made + 0
    here = omega arith

    pub next_sender : IsNewSeat P (A h.bus.plan) h.bus.table (length made) s
    next_sender = h.senders_are 0 (length made) s (ap (λ z. slice_get z 0) e) here

    pub next_receiver : (sitting_of r.bus replayed ≡ h.bus)
        × (r.me ≡ (Tap (A h.bus.plan).table_layout (new_receiver_view (length made)), []))
    next_receiver = h.receivers_are 0 (length made) r (ap (λ z. slice_get z 0) f) here

    pub one_more : (new : Replicated C S) (made' : List (Replicated C S))
        → made' ≡ made ++ new ∷ [] → new.sender ≡ s → new.bus ≡ sitting_of r.bus replayed
        → new.me ≡ r.me → LeadTo IsFirst Applies replayed new.state
        → ((plan : Plan) (p : ℕ) → P.me ((A plan).started p) ≡ p)
        → IsPairing P A IsFirst Applies shape page replayed made' senders' receivers'
    one_more new made' g sender bus me leads started =
        let seat = subst (λ z. IsNewSeat P (A h.bus.plan) h.bus.table (length made) z) (sym sender)
        next_sender in
        let fresh : IsNewReplica P (A h.bus.plan) IsFirst Applies h.bus (length made) new = record {
          bus_is = bus ∙ next_receiver.0;
          number = ap P.me seat.core ∙ started h.bus.plan (length made);
          sender = seat;
          receiver = me ∙ next_receiver.1;
          leads = subst (λ z. LeadTo IsFirst Applies z new.state) (sym h.replayed_is) leads;
        } in
        let size = ap length g ∙ length-append made (new ∷ []) in
        let one : length (new ∷ []) ≡ 1 = refl in
        let left : length senders ≡ suc (length senders') = ap length e in
        let left' : length receivers ≡ suc (length receivers') = ap length f in
        let many = h.many in
        let as_many = h.as_many in
        record {
          bus = h.bus;
          shape_is = h.shape_is;
          plan_is = h.plan_is;
          replayed_is = h.replayed_is;
          few = h.few;
          each = λ k x at. elim (push_at made new x k (ap (λ z. slice_get z k) (sym g) ∙ at)) [
            | inl l ↦ h.each k x l
            | inr i ↦ grind (arith, common_steps, length)
          ];
          senders_are = λ k number x at is.
              h.senders_are (suc k) number x (ap (λ z. slice_get z (suc k)) e ∙ at)
              (omega (arith, is, size, one));
          receivers_are = λ k number x at is.
              h.receivers_are (suc k) number x (ap (λ z. slice_get z (suc k)) f ∙ at)
              (omega (arith, is, size, one));
          many = omega (arith, many, size, one, left);
          as_many = omega (arith, as_many, left, left');
        }

  pub all_made : (made : List (Replicated C S)) (senders : List (SenderSeat C))
      (receivers : List (SeatOfBus C))
      → IsPairing P A IsFirst Applies shape page replayed made senders receivers
      → length receivers ≡ 0
      → AreNewReplicas P A IsFirst Applies shape.senders shape.log_words page replayed made
  all_made made senders receivers h none = grind (arith, common_steps)
