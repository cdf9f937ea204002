-- A turn puts nothing, and turns between which a function is asked are turns.
use Rattle.std.proofs.Common.{◌≡◌, ℕ, Bool, true, false, Option, Some, None, List, [], ◌∷◌, ◌++◌}
use Rattle.std.proofs.Common.{inl, inr, refl, sym, ◌∙◌, ap, subst, append_assoc, arith}
use Rattle.std.specs.Prelude.{◌⊎◌, IfSome}
use Rattle.std.proofs.lemmas.Bool.{true≢false}
use Rattle.std.proofs.lemmas.Grind.{flat_map-append, common_steps}
use Rattle.std.proofs.lemmas.List.{append-nil}
use Rattle.std.proofs.lemmas.Option.{same_Some}
use Rattle.bus_register.specs.declared.kinds.Kind.{Kind}
use Rattle.bus_tenure.specs.declared.turns.Turn.{Turn}
use Rattle.bus_batch.specs.Batches.{next_of}
use Rattle.bus_world.specs.Headline.{Action, HasPut, put_of, puts}
use Rattle.rand_core.specs.Stream.{Stream}
use Rattle.bus_automaton.specs.Processes.{Process}
use Rattle.bus_automaton.specs.Lawful.{ProcessLaws, IsOneStep}
use Rattle.bus_pageslot.specs.Seats.{SenderSeat, Took, actions_of}
use Rattle.bus_pageslot.specs.Turns.{Tellings, Turned, TurnsOn, Here, More, Sends, AsksOn}
use Rattle.bus_pageslot.specs.Turns.{Begins as Unasked, Goes, Asks, SendsAsking, word_drawn}
use Rattle.bus_pageslot.specs.Turns.{DrawsOn, Drawn}
use Rattle.bus_tenure.specs.Classes.{class_of, is_last, is_one_of, is_waiting, Class}
use Rattle.bus_tenure.specs.Classes.{Goes as Going, Tells as Telling, Waits, Ends, Refused}
use Rattle.bus_pageslot.specs.Sendings.{FillsBatches, SentBefore, Put, SentFull}

one_puts_nothing : (due : Option Kind) (got : ℕ) (a : Turn) (ds : List Action)
    → (ds ≡ []) ⊎ IsOneStep due got a ds → puts ds ≡ []
one_puts_nothing due got a ds (inl none) = ap puts none
one_puts_nothing due got a ds (inr one) = ap puts one.is

took_puts : {C : Type 0} (P : Process C) → ProcessLaws P
    → (old : SenderSeat C) (word : ℕ) (a : Turn) (new : SenderSeat C) → Took P old word a new
    → puts (actions_of P new) ≡ puts (actions_of P old)
took_puts P K old word a new h =
    grind (arith, common_steps, flat_map-append, one_puts_nothing, append-nil)

pub turned_puts : {C : Type 0} (P : Process C) (T : Tellings C) → ProcessLaws P
    → (old : SenderSeat C) (word : ℕ) (a : Turn) (new : SenderSeat C) → Turned P T old word a new
    → puts (actions_of P new) ≡ puts (actions_of P old)
turned_puts P T K old word a new h = grind (arith, common_steps, took_puts)

turns_puts : {C : Type 0} (P : Process C) (T : Tellings C) → ProcessLaws P
    → (first new : SenderSeat C) → TurnsOn P T first new
    → puts (actions_of P new) ≡ puts (actions_of P first)
turns_puts P T K first _ Here = refl
turns_puts P T K first _ (More old word answer new before turned last) =
    turned_puts P T K old word answer new turned ∙ turns_puts P T K first old before

pub sending_puts : {C : Type 0} (P : Process C) (T : Tellings C) → ProcessLaws P
    → (first : SenderSeat C) (answer : Turn) (new : SenderSeat C) → Sends P T first answer new
    → puts (actions_of P new) ≡ puts (actions_of P first)
sending_puts P T K first answer new h =
    turned_puts P T K h.old h.word answer new h.turned ∙ turns_puts P T K first h.old h.before

-- puts and sendings put just the messages
pub fills_puts : {C : Type 0} (P : Process C) (T : Tellings C) → ProcessLaws P
    → (first : SenderSeat C) (messages : List (List ℕ)) (new : SenderSeat C)
    → FillsBatches P T first messages new
    → puts (actions_of P new) ≡ puts (actions_of P first) ++ messages
fills_puts P T K first _ _ (SentBefore new off) =
    sending_puts P T K first off.answer new off.sends ∙ sym (append-nil (puts (actions_of P first)))
fills_puts P T K first _ _ (Put messages old bytes new before takes) =
    ap puts takes.action
    ∙ flat_map-append put_of (actions_of P old) (HasPut (next_of (P.queue old.core)) bytes ∷ [])
    ∙ ap (λ l. l ++ bytes ∷ []) (fills_puts P T K first messages old before)
    ∙ append_assoc (puts (actions_of P first)) messages (bytes ∷ [])
fills_puts P T K first _ _ (SentFull messages old new before full off) =
    sending_puts P T K old off.answer new off.sends ∙ fills_puts P T K first messages old before

pub same_sender : {C : Type 0} (old new : SenderSeat C) → new.core ≡ old.core → new.seat ≡ old.seat
    → new ≡ old
same_sender old new core seat = grind (arith, common_steps)

-- turns between which a function is asked are turns
waits_goes : (k : Class) → is_one_of (Waits ∷ []) k ≡ true
    → is_one_of (Ends ∷ Refused ∷ []) k ≡ false
waits_goes Going e = refl
waits_goes Telling e = refl
waits_goes Waits e = refl
waits_goes Ends e = absurd (true≢false (sym e))
waits_goes Refused e = absurd (true≢false (sym e))

pub waiting_goes : (a : Turn) → is_waiting a ≡ true → is_last a ≡ false
waiting_goes a e = waits_goes (class_of a) e

pub goes_on : {C F : Type 0} (P : Process C) (T : Tellings C) (Tells : F → Bool → F → Type 0)
    (first : SenderSeat C) (given : F) (new : SenderSeat C) (f : F)
    → AsksOn P T Tells first given new f → TurnsOn P T first new
goes_on P T Tells first given _ _ Unasked = Here
goes_on P T Tells first given _ _ (Goes old f word answer new before turned last other) =
    More old word answer new (goes_on P T Tells first given old f before) turned last
goes_on P T Tells first given _ _ (Asks old f word answer new f' before turned waits told) =
    More old word answer new (goes_on P T Tells first given old f before) turned
    (waiting_goes answer waits)

pub sends_asking : {C F : Type 0} (P : Process C) (T : Tellings C) (Tells : F → Bool → F → Type 0)
    (first : SenderSeat C) (given : F) (answer : Turn) (new : SenderSeat C)
    → SendsAsking P T Tells first given answer new → Sends P T first answer new
sends_asking P T Tells first given answer new h = record {
  old = h.old;
  word = h.word;
  before = goes_on P T Tells first given h.old h.asked h.before;
  turned = h.turned;
  last = h.last;
}

pub sends_if : {C F : Type 0} (P : Process C) (T : Tellings C) (Tells : F → Bool → F → Type 0)
    (first : SenderSeat C) (given : F) (new : SenderSeat C) (result : Option Turn)
    → IfSome result (λ answer. SendsAsking P T Tells first given answer new) → (answer : Turn)
    → result ≡ Some answer → Sends P T first answer new
sends_if P T Tells first given new None h answer is =
    absurd (let bad : None ≡ Some answer = is in let wrong : ⊥ = cc in wrong)
sends_if P T Tells first given new (Some a) h answer is = subst (λ z. Sends P T first z new)
    (same_Some _ _ is) (sends_asking P T Tells first given a new h)

-- a turn with the word that was drawn for it
pub drawn_on : {C : Type 0} (P : Process C) (T : Tellings C) (first : SenderSeat C) (given : Stream)
    (old : SenderSeat C) (words : Stream) (word : ℕ) (answer : Turn) (new : SenderSeat C)
    (left : Stream) → (word, left) ≡ word_drawn (P.wants_word old.core) words
    → DrawsOn P T first given old words → Turned P T old word answer new
    → DrawsOn P T first given new left
drawn_on P T first given old words word answer new left is before turned =
    subst (λ z. DrawsOn P T first given new z) (sym (ap (λ (y : ℕ × Stream). y.1) is))
    (Drawn old words answer new before
    (subst (λ w. Turned P T old w answer new) (ap (λ (y : ℕ × Stream). y.0) is) turned))

-- turns that led to a sender led to one that is the same
pub asks_same : {C F : Type 0} {P : Process C} {T : Tellings C} {Tells : F → Bool → F → Type 0}
    {first : SenderSeat C} {given : F} {old new : SenderSeat C} {f : F}
    → new ≡ old → AsksOn P T Tells first given old f → AsksOn P T Tells first given new f
asks_same {P = P} {T = T} {Tells = Tells} {first = first} {given = given} {f = f} same before =
    subst (λ y. AsksOn P T Tells first given y f) (sym same) before

pub draws_same : {C : Type 0} {P : Process C} {T : Tellings C} {first : SenderSeat C}
    {given : Stream} {old new : SenderSeat C} {words : Stream}
    → new ≡ old → DrawsOn P T first given old words → DrawsOn P T first given new words
draws_same {P = P} {T = T} {first = first} {given = given} {words = words} same before =
    subst (λ y. DrawsOn P T first given y words) (sym same) before
