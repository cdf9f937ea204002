-- What a machine that a program holds has, as its calls say it.
use Rattle.std.proofs.Common.{◌≡◌, ℕ, ◌+◌, ◌-◌, ◌<◌, ◌≤◌, Bool, List, length, take, slice_get}
use Rattle.std.proofs.Common.{subst, arith}
use Rattle.std.specs.Prelude.{Result, Ok, Err, IfOk, OnOk}
use Rattle.std.proofs.lemmas.Grind.{common_steps}
use Rattle.bus_adoptcommit.specs.declared.verdicts.Verdict.{Verdict}
use Rattle.bus_batch.specs.Frames.{Frame, Order, AreFrames, log_words, log_pieces, order_in}
use Rattle.bus_deliverylog.specs.Receiving.{Receiving}
use Rattle.bus_register.specs.Protocol.{Protocol}
use Rattle.bus_tenure.specs.Core.{Election, Layout}
use Rattle.bus_tenure.specs.Elections.{Elector}
use Rattle.bus_world.proofs.Serving.{Serves}
use Rattle.bus_world.specs.Headline.{order_given}
use Rattle.bus_world.specs.World.{Event}
use Rattle.bus_world.specs.declared.events.Answer.{Answer}
use Rattle.bus_world.specs.declared.events.StepFault.{StepFault}
use Rattle.bus_world.specs.Private.Invariants.{given_at}
use Rattle.bus_machine.proofs.Tenures.ElectionBounds.{bounded}
use Rattle.bus_machine.proofs.Tenures.PinBounds.{pins_bounded}
use Rattle.bus_machine.specs.Bounding.{AreBounded, PinsAreBounded}
use Rattle.bus_machine.proofs.Frames.Joining.{joins}
use Rattle.bus_machine.proofs.Bases.Leading.{sits_after}
use Rattle.bus_machine.proofs.Onward.StageLeaves.{opens_only}
use Rattle.bus_machine.proofs.Onward.Following.{follows, tells}
use Rattle.bus_machine.proofs.Memory.Losing.{losses}
use Rattle.bus_machine.proofs.Frames.Framed.{framed}
use Rattle.bus_machine.proofs.Ring.Giving.{still_given}
use Rattle.bus_machine.proofs.Calls.Holding.{sits}
use Rattle.bus_machine.proofs.Calls.Holding as holding
use Rattle.bus_machine.proofs.Calls.PlayLaws as playing
use Rattle.bus_machine.proofs.Promised as promises
use Rattle.bus_machine.proofs.Frames.Publishing.{published_stands}
use Rattle.bus_machine.specs.Giving.{StillGiven}
use Rattle.bus_machine.specs.Machine.{Machine, Trails, Reached, Then, Happens, trails_grown, log_of}
use Rattle.bus_machine.specs.Machine.{floor_of, ShowsPublished}
use Rattle.bus_machine.specs.Playing.{Answers, AllAnswered, Played, IsHeld}
use Rattle.bus_machine.specs.Promise.{IsPromised, TakersTold}
use Rattle.bus_machine.specs.Telling.{Causes, Says, LossesAreSeen}

module _ {S : Type 0} (X : Election (Elector S)) (Q : Protocol S Bool Verdict)
    (P : Protocol (Elector S) (Unit {0}) ℕ) (m : Machine (Elector S)) (s : Serves X P m.layout)
    (h : IsHeld X m) (now : Machine (Elector S)) (is : m ≡ now) where
  answers_here : (e : Event) (a : Answer) (new : Machine (Elector S)) → Happens X m e a new
      → Causes X Q m e → Says X m e a → Answers X Q m e a new
  answers_here e a new d c w =
      let t = sits X P m s h in
      let told = tells X P m h.trails t h.reached new e a d in
      let U = trails_grown X m e a h.trails in
      record {
        happens = d;
        causes = c;
        says = w;
        tells = told;
        opens = opens_only X m new h.trails U e a (promises.promised X P m h.trails t h.reached)
            (promises.promised X P new U (sits_after X P m new e a d t)
            (Then m new h.trails e a h.reached d)) told d;
        follows = follows X P m h.trails t h.reached new e a d;
        publishes = λ T r. subst (ShowsPublished new T.log) (joins X m new e a T d)
            (published_stands X P m new T e a t r d);
      }

  pub answers : (e : Event) (a : Answer) (new : Machine (Elector S)) → Happens X now e a new
      → Causes X Q now e → Says X now e a → Answers X Q now e a new
  answers = grind (arith, common_steps, answers_here)

  -- of what each call gives
  pub all_answer : (e : Event) (new : Machine (Elector S)) (r : Result Answer StepFault)
      → IfOk r (λ a. Happens X now e a new) → OnOk r (Causes X Q now e)
      → IfOk r (λ a. Says X now e a) → IfOk r (λ a. Answers X Q now e a new)
  all_answer e new (Ok a) d c w = answers e a new d c w
  all_answer e new (Err why) d c w = tt

  pub played : (events : List Event) (new : Machine (Elector S)) → AllAnswered X Q now events new
      → Played X Q now events new
  played = grind (arith, common_steps, playing.played, sits)

  pub happened : (T : Trails) × Reached X now T
  happened = subst (λ y. (T : Trails) × Reached X y T) is (h.trails, h.reached)

  pub promised : (T : Trails) → Reached X now T → IsPromised X now T
  promised = subst (λ y. (T : Trails) → Reached X y T → IsPromised X y T) is
      (λ T r. promises.promised X P m T (sits X P m s h) r)

  pub losses_seen : (T : Trails) → Reached X now T → LossesAreSeen now T.actions
  losses_seen = subst (λ y. (T : Trails) → Reached X y T → LossesAreSeen y T.actions) is
      (λ T r. losses X P m T (sits X P m s h) r)

  -- steps are bounded by a number that the sizes of the bus give
  pub steps_bounded : (bound : Layout → ℕ) → P.steps m.layout.senders + 1 ≡ bound m.layout
      → ((e : Elector S) → P.left e ≡ X.turns_left e - 1)
      → ((p at : ℕ) (e : Elector S) → P.Belongs m.layout.senders p at e → 1 ≤ X.turns_left e)
      → (T : Trails) → Reached X now T → AreBounded X (bound now.layout) now T × PinsAreBounded T
  steps_bounded bound many tells last = grind (arith, common_steps, bounded, sits, pins_bounded)

  pub took : (T : Trails) → Reached X now T → TakersTold now.reuse now.owners T.actions
  took T r = (promised T r).by.takers

  pub stands : (r : ℕ) → r < length now.receivers → (order : Order)
      → ((v : Receiving) (rest : List Frame)
      → slice_get now.receivers r ≡ Rattle.std.specs.Prelude.Some v
      → AreFrames now.layout.senders rest → log_of now ≡ log_words rest
      → (order.entries ≡ (order_in (take (v.place - floor_of now) (log_pieces rest))).entries)
      × (order.ended ≡ v.ended))
      → (T : Trails) → Reached X now T → StillGiven now T r order
  stands = subst (λ y. (r : ℕ) → r < length y.receivers → (order : Order)
      → ((v : Receiving) (rest : List Frame)
      → slice_get y.receivers r ≡ Rattle.std.specs.Prelude.Some v
      → AreFrames y.layout.senders rest → log_of y ≡ log_words rest
      → (order.entries ≡ (order_in (take (v.place - floor_of y) (log_pieces rest))).entries)
      × (order.ended ≡ v.ended))
      → (T : Trails) → Reached X y T → StillGiven y T r order) is
      (λ r l order says T reached.
      still_given P m T (framed X P m T (sits X P m s h) reached) r l order says)

  pub heard : (r : ℕ) → r < length now.receivers → (order : Order)
      → ((frames : List Frame) (v : Receiving) → AreFrames now.layout.senders frames
      → log_of now ≡ log_words frames → slice_get now.receivers r ≡ Rattle.std.specs.Prelude.Some v
      → (order.entries ≡ (given_at frames v).entries) × (order.ended ≡ v.ended))
      → now.layout.passers ≡ 0 → (T : Trails) → Reached X now T → order ≡ order_given (T.heard r)
  heard = subst (λ y. (r : ℕ) → r < length y.receivers → (order : Order)
      → ((frames : List Frame) (v : Receiving) → AreFrames y.layout.senders frames
      → log_of y ≡ log_words frames → slice_get y.receivers r ≡ Rattle.std.specs.Prelude.Some v
      → (order.entries ≡ (given_at frames v).entries) × (order.ended ≡ v.ended))
      → y.layout.passers ≡ 0 → (T : Trails) → Reached X y T → order ≡ order_given (T.heard r)) is
      (holding.heard X P m s h)
