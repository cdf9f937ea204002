-- In a tenure whose row has gone on to a later one nobody has an action more.
use Rattle.std.proofs.Common.{◌≡◌, ℕ, ◌+◌, ◌/◌, ◌<◌, ◌≤◌, Option, Some, None, List, [], slice_get}
use Rattle.std.proofs.Common.{arith, refl, ◌∙◌, ap, subst}
use Rattle.std.proofs.lemmas.Bool.Decides.{eqb_tells}
use Rattle.std.proofs.lemmas.List.{append-nil}
use Rattle.std.proofs.lemmas.List.Elements.{filter-append}
use Rattle.std.proofs.lemmas.Grind.{common_steps}
use Rattle.bus_core.proofs.Situated.{own_is}
use Rattle.bus_core.specs.Reusing.Keeping.{held_of}
use Rattle.bus_core.specs.Senders.{Sender, Situation, Does, Announces, Validates, Unpins}
use Rattle.bus_core.specs.Senders.{Withdraws, Scans, Clears, ReadsPassed, situation}
use Rattle.bus_core.specs.Table.{line, line_now}
use Rattle.bus_register.specs.Protocol.{Protocol}
use Rattle.bus_register.specs.declared.kinds.Kind.{Kind}
use Rattle.bus_tenure.proofs.Situated.{tells}
use Rattle.bus_tenure.specs.Core.{Election}
use Rattle.bus_tenure.specs.Situations.{IsClosed, IsIdle, IsSpent, LooksAtStage, Elects, TakesPage}
use Rattle.bus_tenure.specs.Situations.{AwaitsPage, StoresWord, StoresLength, GivesBack, HasHanded}
use Rattle.bus_tenure.specs.declared.phases.Phase.TheVariants as phase
use Rattle.bus_tenure.specs.declared.turns.Turn.{Turn as Answered}
use Rattle.bus_world.specs.Private.Sending.{Fits}
use Rattle.bus_world.specs.Trails.{actions_with, step_action, put_actions, mark_actions}
use Rattle.bus_world.specs.Headline.{Action}
use Rattle.bus_world.specs.World.{Event, Put, Ask, Turn, Recv, Stop, Gone}
use Rattle.bus_world.specs.declared.events.Answer.{Answer}
use Rattle.bus_world.specs.declared.events.Answer.TheVariants as answer
use Rattle.bus_machine.proofs.Memory.EachSender.{added, added_is}
use Rattle.bus_machine.proofs.Frames.Framed.{IsFramed}
use Rattle.bus_machine.proofs.Frames.Knowing.{passes_held}
use Rattle.bus_machine.proofs.Bases.Leading.{Sits}
use Rattle.bus_machine.proofs.Frames.Paging.{takes_it, holds_it}
use Rattle.bus_machine.specs.Machine.{base_of, Machine, Trails, Happens, found, has_stopped}
use Rattle.bus_machine.specs.Machine.{stage_of, trails_grown, turn_answer, turn_grown}
use Rattle.bus_machine.specs.Promise.{ReusesRows, actions_in}
use Rattle.bus_world.proofs.Stopping.{shown_there}

-- ---- actions
module _ (t : ℕ) where
  -- what joins the actions is no step in this tenure
  beside_stays : (s : ℕ) (ds : List Action) (D : ℕ → List Action) → actions_in t ds ≡ [] → (q : ℕ)
      → actions_in t (actions_with s ds D q) ≡ actions_in t (D q)
  beside_stays s ds D none q = grind (arith, common_steps, filter-append, append-nil)

  -- a step in a later tenure
  later_step : (k : Option Kind) (u : ℕ) (got : ℕ) (chose : Option ℕ) (told : Answered) → t < u
      → actions_in t (step_action k (Some u) got chose told) ≡ []
  later_step None u got chose told later = refl
  later_step (Some k) u got chose told later = grind (arith, common_steps, eqb_tells)

  -- a put
  put_stays : (bytes : List ℕ) (a : Answer) → actions_in t (put_actions bytes a) ≡ []
  put_stays bytes (answer.Number n) = refl
  put_stays bytes answer.Closing = refl
  put_stays bytes answer.Leaving = refl
  put_stays bytes (answer.Turn told) = refl
  put_stays bytes (answer.Recv told) = refl
  put_stays bytes answer.Stopped = refl
  put_stays bytes answer.Gone = refl

  -- a mark
  mark_stays : (a : Answer) → actions_in t (mark_actions a) ≡ []
  mark_stays (answer.Number n) = refl
  mark_stays answer.Closing = refl
  mark_stays answer.Leaving = refl
  mark_stays (answer.Turn told) = refl
  mark_stays (answer.Recv told) = refl
  mark_stays answer.Stopped = refl
  mark_stays answer.Gone = refl

module _ {E : Type 0} (X : Election E) (P : Protocol E (Unit {0}) ℕ) (m : Machine E) (T : Trails)
    (sits : Sits X P m) (f : IsFramed P m T)
    (rows : ℕ) (two : 2 ≤ rows) (u : ReusesRows X m T rows) (t : ℕ)
    (gone : t + rows ≤ stage_of m / 2) where
  -- ---- a turn of sender s
  module _ (s : ℕ) (v : Sender E) (at : slice_get m.senders s ≡ Some v) (got word : ℕ)
      (told : Answered) where
    -- the tenure of its election is later
    running : (n : ℕ) (e : E) → v.core.phase ≡ phase.Electing n e → t < n
    running n e runs = let early = u.safe.in_time s n (u.stands s v n e at runs) in omega arith

    -- and so is that whose page it holds
    holding : (n : ℕ) → held_of v.core.phase ≡ Some n → t < n
    holding n held = let stage = holds_it X P m T sits f s v n at held in omega arith

    -- what it does there is no step in this tenure
    step_stays : (z : Situation E) (n : ℕ) → (line X v z).tenure ≡ Some n → t < n
        → actions_in t
        (step_action (line X v z).kind (line X v z).tenure got ((line X v z).chosen got word) told)
        ≡ []
    step_stays z n is later = grind (arith, common_steps, later_step)

    -- whatever the turn is
    added_stays : (z : Situation E) → situation X v ≡ z
        → actions_in t (added z (line X v z) got word told) ≡ []
    added_stays (Does IsClosed) i = refl
    added_stays (Does IsIdle) i = refl
    added_stays (Does IsSpent) i = refl
    added_stays (Does LooksAtStage) i = refl
    added_stays (Does (Elects n e)) i = grind (arith, step_stays, running, tells, own_is)
    added_stays (Does (TakesPage n)) i =
        step_stays (Does (TakesPage n)) n refl
        (let stage = (takes_it X P m T sits f s v n at i).stage in omega arith)
    added_stays (Does (AwaitsPage n)) i = refl
    added_stays (Does (StoresWord n page stored)) i =
        grind (arith, common_steps, step_stays, holding, tells, own_is)
    added_stays (Does (StoresLength n page stored)) i =
        grind (arith, common_steps, step_stays, holding, tells, own_is)
    added_stays (Does (GivesBack n page reason)) i =
        grind (arith, common_steps, step_stays, holding, tells, own_is)
    added_stays (Does (HasHanded n reason)) i =
        absurd (subst (Fits (base_of m) f.V f.frames v.core)
        (tells X v.core (HasHanded n reason) (own_is X v (HasHanded n reason) i))
        (f.sending.parts s v.core (f.core_of s v at)).fits)
    added_stays (Announces n) i = refl
    added_stays (Validates n) i = refl
    added_stays (Unpins n) i = refl
    added_stays (Withdraws n) i = refl
    added_stays (Scans r) i = refl
    added_stays (Clears r) i = refl
    added_stays (ReadsPassed n p) i = step_stays (ReadsPassed n p) n refl
        (holding n (ap held_of (passes_held X v n p i).has))

  -- ---- whatever happens
  pub event_stays : (e : Event) (a : Answer) (m' : Machine E) → Happens X m e a m' → (q : ℕ)
      → actions_in t ((trails_grown X m e a T).actions q) ≡ actions_in t (T.actions q)
  event_stays (Put s bytes) a m' h q =
      beside_stays t s (put_actions bytes a) T.actions (put_stays t bytes a) q
  event_stays (Ask s mark) a m' h q = beside_stays t s (mark_actions a) T.actions (mark_stays t a) q
  event_stays (Turn s word) a m' h q =
      let v = h.sender in
      let z = situation X v in
      let l = line_now X v in
      let told = turn_answer m l word in
      ap (λ d. actions_in t ((trails_grown X m (Turn s word) d T).actions q)) h.answered
      ∙ ap (λ o. actions_in t ((turn_grown X m s o word (answer.Turn told) T).actions q)) h.goes
      ∙ ap (λ (D : ℕ → List Action). actions_in t (D q))
      (added_is z l s (found m l word) word told T)
      ∙ beside_stays t s (added z l (found m l word) word told) T.actions
      (added_stays s v (shown_there (has_stopped m s) (slice_get m.senders s) v h.goes)
      (found m l word) word told z refl) q
  event_stays (Recv r) a m' h q = refl
  event_stays (Stop s) a m' h q = refl
  event_stays (Gone r) a m' h q = refl
