-- What the last answer of a sending says as a Result; and turns between which a function is asked
-- of which less is said.
use Rattle.std.proofs.Common.{◌≡◌, ◌≢◌, Bool, true, false, Result, Ok, Err, IfOk, IfErr}
use Rattle.std.proofs.Common.{OnOk, ◌↔◌}
use Rattle.std.proofs.Common.{Option, Some, None, IfSome, IfNone, refl, subst}
use Rattle.bus_tenure.specs.Classes.{is_refusal}
use Rattle.bus_tenure.specs.declared.turns.Turn.{Turn}
use Rattle.bus_automaton.specs.Processes.{Process, Automaton}
use Rattle.bus_automaton.specs.declared.plans.Plan.{Plan}
use Rattle.bus_pageslot.specs.Room.{Coming, GoesForRoom, SendsForRoom}
use Rattle.bus_pageslot.specs.Room as room
use Rattle.bus_pageslot.specs.Seats.{SenderSeat}
use Rattle.bus_pageslot.specs.Sendings.{KeptAfter}
use Rattle.bus_pageslot.specs.Turns.{Tellings, AsksOn, SendsAsking, StopsWaiting}
use Rattle.bus_pageslot.specs.Turns as turns
use Rattle.bus_handles.specs.Answers.{delivered_turn, IsWhy, DeliversNone}
use Rattle.bus_handles.specs.declared.answers.Delivered.{Delivered}
use Rattle.bus_handles.specs.declared.answers.NotDelivered.{NotDelivered}
use Rattle.bus_handles.specs.declared.answers.NotDelivered.TheVariants as why

-- where messages were delivered, and where none was
pub delivers : (Sends : Turn → Type 0) (answer : Turn) (r : Result Delivered NotDelivered)
    → Sends answer → IfOk r (λ done. answer ≡ delivered_turn done)
    → IfOk r (λ done. Sends (delivered_turn done))
delivers Sends answer (Ok done) sends is = subst Sends is sends
delivers Sends answer (Err why) sends is = is

pub delivers_none : {C : Type 0} (P : Process C) (Sends : Turn → Type 0) (old : SenderSeat C)
    (answer : Turn) (new : SenderSeat C) (r : Result Delivered NotDelivered) → Sends answer
    → (is_refusal answer ≡ true → KeptAfter P old answer new) → IfErr r (λ w. IsWhy answer w)
    → IfErr r (λ w. DeliversNone P Sends old w new)
delivers_none P Sends old answer new (Ok done) sends keeps is = is
delivers_none P Sends old answer new (Err w) sends keeps is =
    record { answer = answer; is_why = is; sends = sends; keeps = keeps }

-- what holds of each fault holds of each other than this one
pub but_one : (B : NotDelivered → Type 0) (r : Result Delivered NotDelivered) → IfErr r B
    → IfErr r (λ w. w ≢ why.NeverFits → B w)
but_one B (Ok done) h = h
but_one B (Err w) h = λ other. h

-- what is said of the answer of a call that gave one
pub of_answer : {E : Type 0} (B : Turn → Type 0) (r : Result (Option Turn) E) (o : Option Turn)
    (t : Turn) → r ≡ Ok o → o ≡ Some t → IfOk r (λ answered. IfSome answered B) → B t
of_answer B r o t is some h =
    let at : IfSome o B = subst (λ z. IfOk z (λ answered. IfSome answered B)) is h in
    subst (λ z. IfSome z B) some at

-- what is said of the bus of one plan is said of the bus of some plan
pub of_plan : {E : Type 0} (B : Plan → Turn → Type 0) (plan : Plan) (r : Result (Option Turn) E)
    → IfOk r (λ answered. IfSome answered (B plan))
    → IfOk r (λ answered. IfSome answered (λ t. (p : Plan) × B p t))
of_plan B plan (Ok (Some t)) h = (plan, h)
of_plan B plan (Ok None) h = h
of_plan B plan (Err e) h = h

pub none_of_plan : {E : Type 0} (B : Plan → Type 0) (plan : Plan) (r : Result (Option Turn) E)
    → IfOk r (λ answered. IfNone answered (B plan))
    → IfOk r (λ answered. IfNone answered ((p : Plan) × B p))
none_of_plan B plan (Ok (Some t)) h = h
none_of_plan B plan (Ok None) h = (plan, h)
none_of_plan B plan (Err e) h = h

-- what is said where a call gave something
pub gave : {A E : Type 0} (F : Type 0) (r : Result A E) (a : A) → r ≡ Ok a → OnOk r F → F
gave F r a is h = subst (λ z. OnOk z F) is h

-- what a turn answered is never that the batch is longer than the log
pub never_of : (F : Type 0) (answer : Turn) (r : Result Delivered NotDelivered) → F
    → IfErr r (λ w. IsWhy answer w) → r ≡ Err why.NeverFits ↔ (F → ⊥)
never_of F answer r fits is = (
  λ never. absurd (let no : ⊥ = subst (λ z. IfErr z (λ w. IsWhy answer w)) never is in no),
  λ no. absurd (no fits),
)

-- ---- a function that is asked says no more than these
-- turns in which each answer was one of these
module _ {C F : Type 0} (P : Process C) (T : Tellings C) (Tells : F → Bool → F → Type 0)
    (Says : Unit {0} → Bool → Unit {0} → Type 0)
    (says : (f : F) (told : Bool) (f' : F) → Tells f told f' → Says tt told tt)
    (first : SenderSeat C) (given : F) where
  asks_as : (s : SenderSeat C) (f : F) → AsksOn P T Tells first given s f
      → AsksOn P T Says first tt s tt
  asks_as _ _ turns.Begins = turns.Begins
  asks_as _ _ (turns.Goes old f word answer new before turned goes waits) =
      turns.Goes old tt word answer new (asks_as old f before) turned goes waits
  asks_as _ _ (turns.Asks old f word answer new f' before turned waits told) =
      turns.Asks old tt word answer new tt (asks_as old f before) turned waits
      (says f true f' told)

  pub sends_as : (answer : Turn) (new : SenderSeat C) → SendsAsking P T Tells first given answer new
      → SendsAsking P T Says first tt answer new
  sends_as answer new h = record {
    old = h.old;
    asked = tt;
    word = h.word;
    before = asks_as h.old h.asked h.before;
    turned = h.turned;
    last = h.last;
  }

  pub stops_as : (new : SenderSeat C) → StopsWaiting P T Tells first given new
      → StopsWaiting P T Says first tt new
  stops_as new h = record {
    old = h.old;
    asked = tt;
    word = h.word;
    answer = h.answer;
    before = asks_as h.old h.asked h.before;
    turned = h.turned;
    waits = h.waits;
    left = tt;
    told = says h.asked false h.left h.told;
  }

pub sends_asking_as : {C F : Type 0} (P : Process C) (T : Tellings C)
    (Tells : F → Bool → F → Type 0) (Says : Unit {0} → Bool → Unit {0} → Type 0)
    (first : SenderSeat C) (given : F) (new : SenderSeat C) (r : Option Turn)
    → IfSome r (λ t. SendsAsking P T Tells first given t new)
    → ((f : F) (told : Bool) (f' : F) → Tells f told f' → Says tt told tt)
    → IfSome r (λ t. SendsAsking P T Says first tt t new)
sends_asking_as P T Tells Says first given new (Some t) h says =
    sends_as P T Tells Says says first given t new h
sends_asking_as P T Tells Says first given new None h says = h

pub stops_asking_as : {C F : Type 0} (P : Process C) (T : Tellings C)
    (Tells : F → Bool → F → Type 0) (Says : Unit {0} → Bool → Unit {0} → Type 0)
    (first : SenderSeat C) (given : F) (new : SenderSeat C) (r : Option Turn)
    → IfNone r (StopsWaiting P T Tells first given new)
    → ((f : F) (told : Bool) (f' : F) → Tells f told f' → Says tt told tt)
    → IfNone r (StopsWaiting P T Says first tt new)
stops_asking_as P T Tells Says first given new (Some t) h says = h
stops_asking_as P T Tells Says first given new None h says =
    stops_as P T Tells Says says first given new h

-- turns and looks in which each answer to go on was one of these
module _ {C F : Type 0} (P : Process C) (A : Automaton C) (T : Tellings C)
    (Tells : F → Bool → F → Type 0) (Says : Unit {0} → Bool → Unit {0} → Type 0)
    (says : (f f' : F) → Tells f true f' → Says tt true tt) (first : SenderSeat C) (given : F) where
  goes_as : (next : Coming) (s : SenderSeat C) (f : F)
      → GoesForRoom P A T Tells first given next s f → GoesForRoom P A T Says first tt next s tt
  goes_as _ _ _ room.Begins = room.Begins
  goes_as _ _ _ (room.Goes old f word answer new before turned goes waits) =
      room.Goes old tt word answer new (goes_as room.Turning old f before) turned goes waits
  goes_as _ _ _ (room.Asks old f word answer new f' before turned waits told) =
      room.Asks old tt word answer new tt (goes_as room.Turning old f before) turned waits
      (says f f' told)
  goes_as _ _ _ (room.Fills old f word new before turned) =
      room.Fills old tt word new (goes_as room.Turning old f before) turned
  goes_as _ _ _ (room.FindsNone looks old f f' new before few told look) =
      room.FindsNone looks old tt tt new (goes_as (room.Looking looks) old f before) few
      (says f f' told) look
  goes_as _ _ _ (room.FindsRoom looks old f f' new before few told look) =
      room.FindsRoom looks old tt tt new (goes_as (room.Looking looks) old f before) few
      (says f f' told) look
  goes_as _ _ _ (room.Tries old f before) =
      room.Tries old tt (goes_as (room.Looking room.most_looks) old f before)

  pub sends_for_room_as : (answer : Turn) (new : SenderSeat C)
      → SendsForRoom P A T Tells first given answer new
      → SendsForRoom P A T Says first tt answer new
  sends_for_room_as answer new h = record {
    old = h.old;
    asked = tt;
    word = h.word;
    before = goes_as room.Turning h.old h.asked h.before;
    turned = h.turned;
    last = h.last;
    room = h.room;
  }
