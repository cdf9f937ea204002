-- What holds of each sender and of what it did at its start, and after each of its own events,
-- holds of it in each machine that is reached.
use Rattle.std.proofs.Common.{◌≡◌, ◌≢◌, inl, inr, ℕ, ◌<◌, Bool, true, false, cond, ◌==◌, Option}
use Rattle.std.proofs.Common.{Some, None, List, [], ◌∷◌, ◌++◌, length, slice_get, slice_set, refl}
use Rattle.std.proofs.Common.{sym, ◌∙◌, ap, subst, arith}
use Rattle.std.proofs.lemmas.Bool.Decides.{eqb_tells}
use Rattle.std.proofs.lemmas.List.{append-nil}
use Rattle.std.proofs.lemmas.Option.{slice_get_within}
use Rattle.std.proofs.lemmas.Grind.{common_steps}
use Rattle.bus_batch.specs.declared.messages.Mark.{Mark}
use Rattle.bus_core.specs.Senders.{Sender, Situation, Does, Scans, Clears, ReadsPassed}
use Rattle.bus_core.specs.Senders.{situation}
use Rattle.bus_core.specs.Table.{Line, line_now}
use Rattle.bus_presence.specs.Reclamation.{Entry, Trails as Entries}
use Rattle.bus_register.specs.Protocol.{Protocol}
use Rattle.bus_register.specs.Private.TableLaws.{get_set_same, get_set_other}
use Rattle.bus_register.specs.declared.registers.Op.{Op}
use Rattle.bus_tenure.specs.Core.{Election}
use Rattle.bus_tenure.specs.declared.turns.Turn.{Turn as Answered}
use Rattle.bus_world.proofs.Stopping.{shown_there}
use Rattle.bus_world.specs.Headline.{Action}
use Rattle.bus_world.specs.Trails.{step_action, put_actions, mark_actions, actions_with}
use Rattle.bus_world.specs.Turning.{after_step}
use Rattle.bus_world.specs.World.{Event, Put, Ask, Turn, Recv, Stop, Gone}
use Rattle.bus_world.specs.declared.events.Answer.{Answer}
use Rattle.bus_world.specs.declared.events.Answer.TheVariants as answer
use Rattle.bus_machine.proofs.Bases.Leading.{Sits, sits_before, sits_unforked}
use Rattle.bus_machine.specs.Machine.{Machine, Trails, Reached, New as Start, Then as Next, Happens}
use Rattle.bus_machine.specs.Machine.{TakesTurn, IsNew, entered, turn_trails, turn_grown}
use Rattle.bus_machine.specs.Machine.{trails_grown, turn_answer, found, has_stopped, moved, put_in}
use Rattle.bus_machine.specs.Machine.{mark_in, Joins, Forks}

-- ---- a test of two numbers
pub cond_here : {A : Type 0} (q s : ℕ) (x y : A) → q ≡ s → cond (q == s) x y ≡ x
cond_here q s x y same = elim (eqb_tells q s) [ inl h ↦ rw h.0 | inr h ↦ absurd (h.1 same) ]

pub cond_beside : {A : Type 0} (q s : ℕ) (x y : A) → q ≢ s → cond (q == s) x y ≡ y
cond_beside q s x y ne = elim (eqb_tells q s) [ inl h ↦ absurd (ne h.1) | inr h ↦ rw h.0 ]

-- ---- what joins the trails
-- the actions of one sender
pub actions_of_it : (s : ℕ) (ds : List Action) (D : ℕ → List Action) (q : ℕ) → q ≡ s
    → actions_with s ds D q ≡ D s ++ ds
actions_of_it s ds D q same =
    ap (λ b. D q ++ b) (cond_here q s ds [] same) ∙ ap (λ n. D n ++ ds) same

pub actions_of_other : (s : ℕ) (ds : List Action) (D : ℕ → List Action) (q : ℕ) → q ≢ s
    → actions_with s ds D q ≡ D q
actions_of_other s ds D q ne = ap (λ b. D q ++ b) (cond_beside q s ds [] ne) ∙ append-nil (D q)

-- a step of its pin
pub entered_beside : (T : Entries) (s q : ℕ) (o : Option Op) (got : ℕ) → q ≢ s
    → entered T s o got q ≡ T q
entered_beside T s q None got ne = refl
entered_beside T s q (Some o) got ne =
    cond_beside q s (T q ++ record { op = o; got = got } ∷ []) (T q) ne

abbrev entries_of : Option Op → ℕ → List Entry
entries_of None got = []
entries_of (Some o) got = record { op = o; got = got } ∷ []

nothing_joins : {A : Type 0} (b : Bool) (xs : List A) → xs ≡ xs ++ cond b [] []
nothing_joins true xs = sym (append-nil xs)
nothing_joins false xs = sym (append-nil xs)

entered_with : (T : Entries) (s q : ℕ) (o : Option Op) (got : ℕ)
    → entered T s o got q ≡ T q ++ cond (q == s) (entries_of o got) []
entered_with T s q None got = nothing_joins (q == s) (T q)
entered_with T s q (Some o) got = grind (arith, common_steps, append-nil)

-- ---- what a turn adds
-- to the actions
abbrev pub added : {E : Type 0} → Situation E → Line E → ℕ → ℕ → Answered → List Action
added (Does z) l got word told = step_action l.kind l.tenure got (l.chosen got word) told
added (ReadsPassed t p) l got word told =
    step_action l.kind l.tenure got (l.chosen got word) told
added z l got word told = []

pub added_is : {E : Type 0} (z : Situation E) (l : Line E) (s got word : ℕ) (told : Answered)
    (T : Trails) → (turn_trails z l s got word told T).actions
    ≡ actions_with s (added z l got word told) T.actions
added_is (Does z) l s got word told T = refl
added_is (ReadsPassed t p) l s got word told T = refl
added_is z l s got word told T = refl

-- to the steps of the pin
abbrev pub pins_added : {E : Type 0} → Situation E → Option Op → ℕ → List Entry
pins_added (Does z) o got = []
pins_added (Scans r) o got = []
pins_added (Clears r) o got = []
pins_added (ReadsPassed t p) o got = []
pins_added z o got = entries_of o got

pins_are : {E : Type 0} (z : Situation E) (l : Line E) (s got word : ℕ) (told : Answered)
    (T : Trails) (q : ℕ) → (turn_trails z l s got word told T).pins q
    ≡ T.pins q ++ cond (q == s) (pins_added z (l.op word) got) []
pins_are (Does z) l s got word told T q = nothing_joins (q == s) (T.pins q)
pins_are (Scans r) l s got word told T q = nothing_joins (q == s) (T.pins q)
pins_are (Clears r) l s got word told T q = nothing_joins (q == s) (T.pins q)
pins_are (ReadsPassed t p) l s got word told T q = nothing_joins (q == s) (T.pins q)
pins_are z l s got word told T q = entered_with T.pins s q (l.op word) got

-- ---- one event
-- K of a machine and a number: who has it, if anyone, what it did, and the steps of its pin
module _ {E : Type 0}
    (K : Machine E → ℕ → Option (Sender E) → List Action → List Entry → Type 0) where
  abbrev pub OfEach : Machine E → List (Sender E) → Trails → Type 0
  OfEach m senders T = (q : ℕ) → K m q (slice_get senders q) (T.actions q) (T.pins q)

  -- one sender is another, and has done more
  with_one : (m : Machine E) (senders : List (Sender E)) (D : ℕ → List Action) (S : Entries)
      (s : ℕ) (v' : Sender E) (ds : List Action) (es : List Entry) → s < length senders
      → K m s (Some v') (D s ++ ds) (S s ++ es)
      → ((q : ℕ) → K m q (slice_get senders q) (D q) (S q)) → (q : ℕ)
      → K m q (slice_get (slice_set senders s v') q) (D q ++ cond (q == s) ds [])
      (S q ++ cond (q == s) es [])
  with_one m senders D S s v' ds es low own k q =
      grind (arith, common_steps, eqb_tells, get_set_same, get_set_other, append-nil)

  one_other : (m m' : Machine E) (T T' : Trails) (s : ℕ) (v v' : Sender E) (ds : List Action)
      (es : List Entry) → slice_get m.senders s ≡ Some v → m'.senders ≡ slice_set m.senders s v'
      → T'.actions ≡ actions_with s ds T.actions
      → ((q : ℕ) → T'.pins q ≡ T.pins q ++ cond (q == s) es [])
      → K m' s (Some v') (T.actions s ++ ds) (T.pins s ++ es) → OfEach m' m.senders T
      → OfEach m' m'.senders T'
  one_other m m' T T' s v v' ds es here senders actions pins own k q =
      grind (arith, common_steps, slice_get, slice_set, with_one, slice_get_within)

module _ {E : Type 0} (X : Election E) (P : Protocol E (Unit {0}) ℕ)
    (K : Machine E → ℕ → Option (Sender E) → List Action → List Entry → Type 0)
    (starts : (m : Machine E) (q : ℕ) → IsNew m → K m q (slice_get m.senders q) [] [])
    (stays : (m m' : Machine E) (T : Trails) (e : Event) (a : Answer) → Sits X P m → Reached X m T
    → Happens X m e a m' → (q : ℕ) (o : Option (Sender E)) (D : List Action) (es : List Entry)
    → K m q o D es → K m' q o D es)
    (joined : (m m' : Machine E) (i j : ℕ) → Forks m i j true m' → (q : ℕ) (o : Option (Sender E))
    (D : List Action) (es : List Entry) → K m q o D es → K m' q o D es)
    (puts : (m : Machine E) (q : ℕ) (v : Sender E) (D : List Action) (es : List Entry)
    (bytes : List ℕ) (a : Answer) → K m q (Some v) D es
    → K m q (Some (put_in v bytes)) (D ++ put_actions bytes a) es)
    (marks : (m : Machine E) (q : ℕ) (v : Sender E) (D : List Action) (es : List Entry)
    (mark : Mark) (a : Answer) → K m q (Some v) D es
    → K m q (Some (mark_in v mark)) (D ++ mark_actions a) es)
    (turns : (m m' : Machine E) (T : Trails) (s word : ℕ) (a : Answer) → Sits X P m → Reached X m T
    → (h : TakesTurn X m s word a m') → slice_get m.senders s ≡ Some h.sender
    → K m s (Some h.sender) (T.actions s) (T.pins s)
    → let z = situation X h.sender in let l = line_now X h.sender in let got = found m l word in
    K m' s (Some (moved (after_step l.move) m.home (l.fed got word)))
    (T.actions s ++ added z l got word (turn_answer m l word))
    (T.pins s ++ pins_added z (l.op word) got)) where
  event_keeps : (m m' : Machine E) (T : Trails) (e : Event) (a : Answer) → Sits X P m
      → Reached X m T → Happens X m e a m' → OfEach K m m.senders T → OfEach K m' m.senders T
      → OfEach K m' m'.senders (trails_grown X m e a T)
  event_keeps m m' T (Put s bytes) a t r h old k =
      let v = h.sender in
      let here = shown_there (has_stopped m s) (slice_get m.senders s) v h.goes in
      let own = subst (λ o. K m' s o (T.actions s) (T.pins s)) here (k s) in
      one_other K m m' T (trails_grown X m (Put s bytes) a T) s v (put_in v bytes)
      (put_actions bytes a) [] here (ap (λ (y : Machine E). y.senders) h.after) refl
      (λ q. nothing_joins (q == s) (T.pins q))
      (rw (append-nil (T.pins s)) (puts m' s v (T.actions s) (T.pins s) bytes a own)) k
  event_keeps m m' T (Ask s mark) a t r h old k =
      let v = h.sender in
      let here = shown_there (has_stopped m s) (slice_get m.senders s) v h.goes in
      let own = subst (λ o. K m' s o (T.actions s) (T.pins s)) here (k s) in
      one_other K m m' T (trails_grown X m (Ask s mark) a T) s v (mark_in v mark)
      (mark_actions a) [] here (ap (λ (y : Machine E). y.senders) h.after) refl
      (λ q. nothing_joins (q == s) (T.pins q))
      (rw (append-nil (T.pins s)) (marks m' s v (T.actions s) (T.pins s) mark a own)) k
  event_keeps m m' T (Turn s word) a t r h old k =
      let v = h.sender in
      let z = situation X v in
      let l = line_now X v in
      let told = turn_answer m l word in
      let got = found m l word in
      let here = shown_there (has_stopped m s) (slice_get m.senders s) v h.goes in
      let own = subst (λ o. K m s o (T.actions s) (T.pins s)) here (old s) in
      let grown : trails_grown X m (Turn s word) a T ≡ turn_trails z l s got word told T =
      ap (λ w. trails_grown X m (Turn s word) w T) h.answered
      ∙ ap (λ o. turn_grown X m s o word (answer.Turn told) T) h.goes in
      one_other K m m' T (trails_grown X m (Turn s word) a T) s v
      (moved (after_step l.move) m.home (l.fed got word)) (added z l got word told)
      (pins_added z (l.op word) got) here (ap (λ (y : Machine E). y.senders) h.after)
      (ap (λ (U : Trails). U.actions) grown ∙ added_is z l s got word told T)
      (λ q. ap (λ (U : Trails). U.pins q) grown ∙ pins_are z l s got word told T q)
      (turns m m' T s word a t r h here own) k
  event_keeps m m' T (Recv q) a t r h old k =
      subst (λ l. OfEach K m' l T) (sym (ap (λ (y : Machine E). y.senders) h.after)) k
  event_keeps m m' T (Stop s) a t r h old k =
      subst (λ l. OfEach K m' l T) (sym (ap (λ (y : Machine E). y.senders) h.after)) k
  event_keeps m m' T (Gone q) a t r h old k =
      subst (λ l. OfEach K m' l T) (sym (ap (λ (y : Machine E). y.senders) h.after)) k

  pub each : (m : Machine E) (T : Trails) → Sits X P m → Reached X m T → OfEach K m m.senders T
  each m T t (Start w new) = λ q. starts w q new
  each m T t (Next w v U e a before h) =
      let u = sits_before X P w v e a h t in
      let old = each w U u before in
      event_keeps w v U e a u before h old (λ q. stays w v U e a u before h q
      (slice_get w.senders q) (U.actions q) (U.pins q) (old q))
  each m T t (Joins w v U i j n before h nobody silent) =
      let old = each w U (sits_unforked X P w v i j h t) before in
      λ q. subst (λ l. K v q (slice_get l q) (U.actions q) (U.pins q))
      (sym (ap (λ (y : Machine E). y.senders) h.after))
      (joined w v i j h q (slice_get w.senders q) (U.actions q) (U.pins q)
      (old q))
