-- The seats that handles show, as handles are made one by one.
use Rattle.std.proofs.Common.{◌≡◌, List, [], ◌∷◌, ◌++◌, All, length, slice_index_or, refl, sym}
use Rattle.std.proofs.Common.{subst, ap, ◌∙◌, append_assoc, append-nil, arith}
use Rattle.std.proofs.lemmas.List.{map-append, length-append, nil_from_length}
use Rattle.std.proofs.lemmas.List.Elements.{All-push}
use Rattle.atomic_table.specs.Seated.{TableId}
use Rattle.bus_pageslot.specs.Buses.{BusId}
use Rattle.bus_pageslot.specs.Seats.{ReceiverSeat}
use Rattle.bus_handles.specs.Handles.{SeatOfBus, seat_of, seats_of}

-- a receiver of this bus shows its seat
pub same_seat : {C : Type 0} (r : ReceiverSeat C) (bus : BusId) → r.table_id ≡ bus.table
    → seat_of {C = C} (record { bus = bus; me = r.me }) ≡ r
same_seat {C} r bus is =
    let at : TableId → ReceiverSeat C = λ t. record { table_id = t; me = r.me } in
    let P : TableId → Type 0 = λ t. at t ≡ r in subst P is refl

-- one handle more shows one seat more
pub one_more : {C : Type 0} (old new : List (SeatOfBus C)) (r : SeatOfBus C)
    (seats : List (ReceiverSeat C)) (seat : ReceiverSeat C) → new ≡ old ++ r ∷ []
    → seats_of old ≡ seats → seat_of r ≡ seat → seats_of new ≡ seats ++ seat ∷ []
one_more {C} old new r seats seat new_is seats_are seat_is =
    ap seats_of new_is
    ∙ (map-append (λ (s : SeatOfBus C). seat_of s) old (r ∷ [])
    ∙ (ap (λ (z : List (ReceiverSeat C)). z ++ seat_of r ∷ []) seats_are
    ∙ ap (λ (z : ReceiverSeat C). seats ++ z ∷ []) seat_is))

-- no handle yet
pub none_of_bus : {C : Type 0} (rs : List (SeatOfBus C)) (bus : BusId) → rs ≡ []
    → All (λ (r : SeatOfBus C). r.bus ≡ bus) rs
none_of_bus rs bus is = λ k d l. absurd (let none : length rs ≡ 0 = ap length is in omega arith)

-- one handle more of the same bus
pub all_of_bus : {C : Type 0} (old new : List (SeatOfBus C)) (r : SeatOfBus C) (bus : BusId)
    → new ≡ old ++ r ∷ [] → All (λ (s : SeatOfBus C). s.bus ≡ bus) old → r.bus ≡ bus
    → All (λ (s : SeatOfBus C). s.bus ≡ bus) new
all_of_bus {C} old new r bus new_is all last =
    let P : SeatOfBus C → Type 0 = λ s. s.bus ≡ bus in
    let Q : List (SeatOfBus C) → Type 0 = λ rs. All P rs in
    subst Q (sym new_is) (All-push P old r all last)

-- ---- what was given of a list, and what is left of it
-- nothing is left
pub nothing_left : {A : Type 0} (given rest all : List A) → length rest ≡ 0 → given ++ rest ≡ all
    → given ≡ all
nothing_left given rest all none together =
    sym (append-nil given) ∙ ap (λ z. given ++ z) (sym (nil_from_length rest none)) ∙ together

-- one more was given
pub one_given : {A : Type 0} (given given' rest rest' all : List A) (x : A)
    → given' ≡ given ++ x ∷ [] → rest ≡ x ∷ rest' → given ++ rest ≡ all → given' ++ rest' ≡ all
one_given given given' rest rest' all x more rest_is together =
    ap (λ z. z ++ rest') more ∙ append_assoc given (x ∷ []) rest'
    ∙ ap (λ z. given ++ z) (sym rest_is) ∙ together

at_next : {A : Type 0} (given rest' : List A) (x d : A)
    → slice_index_or (given ++ x ∷ rest') (length given) d ≡ x
at_next [] rest' x d = refl
at_next (y ∷ given) rest' x d = at_next given rest' x d

-- what holds of all holds of the next one
pub holds_next : {A : Type 0} (P : A → Type 0) (given rest rest' all : List A) (x : A)
    → rest ≡ x ∷ rest' → given ++ rest ≡ all → All P all → P x
holds_next P given rest rest' all x rest_is together holds =
    let whole : all ≡ given ++ x ∷ rest' = sym together ∙ ap (λ z. given ++ z) rest_is in
    let many = length-append given (x ∷ rest') in
    subst P (at_next given rest' x x)
    (subst (All P) whole holds (length given) x (omega (arith, many)))
