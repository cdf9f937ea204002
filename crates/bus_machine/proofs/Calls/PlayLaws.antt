-- Events that are played one after another, and what is said of all of them.
use Rattle.std.proofs.Common.{Bool, ◌≡◌, ℕ, ◌≤◌, Option, Some, None, List, [], ◌∷◌, ◌++◌, arith}
use Rattle.std.proofs.Common.{refl, sym, ◌∙◌, ap, slice_index, subst, append_assoc}
use Rattle.std.proofs.lemmas.List.{append-nil}
use Rattle.std.proofs.lemmas.Grind.{common_steps}
use Rattle.bus_register.specs.Protocol.{Protocol}
use Rattle.bus_adoptcommit.specs.declared.verdicts.Verdict.{Verdict}
use Rattle.bus_tenure.specs.Core.{Election, Layout}
use Rattle.bus_tenure.specs.Elections.{Elector}
use Rattle.bus_world.proofs.Growing.{prefix_after}
use Rattle.bus_world.specs.World.{Event}
use Rattle.bus_world.specs.declared.events.Answer.{Answer}
use Rattle.bus_machine.proofs.Bases.AtNone.{event_reuse}
use Rattle.bus_machine.proofs.Ring.Floors.{one_floor, raises}
use Rattle.bus_machine.proofs.Frames.Framed.{framed, history, history_below}
use Rattle.bus_machine.proofs.Frames.Joining.{joins}
use Rattle.bus_machine.proofs.Bases.Leading.{Sits, sits_after}
use Rattle.bus_machine.proofs.Promised.{promised}
use Rattle.bus_machine.proofs.Frames.Staying.{Longer, stays_long, grown_longer, promise_stays}
use Rattle.bus_machine.specs.Machine.{Machine, Trails, Reached, ShowsLog, StandsBelow}
use Rattle.bus_machine.specs.Machine.{trails_grown, stage_of, passed_by}
use Rattle.bus_machine.specs.Playing.{Answers, AllAnswered, trails_after, words_after, Played}
use Rattle.bus_machine.specs.Promise.{FloorsRise, HasGoneOn, IsPageOf, PassedRise, actions_in}
use Rattle.bus_machine.specs.Promise.{words_joined}

-- one event more
pub answered_more : {S : Type 0} (X : Election (Elector S)) (P : Protocol S Bool Verdict)
    (events : List Event) (old mid new : Machine (Elector S)) (e : Event) (a : Answer)
    → AllAnswered X P old events mid → Answers X P mid e a new
    → AllAnswered X P old (events ++ e ∷ []) new
answered_more X P [] old mid new e a h w = (new, a, subst (λ y. Answers X P y e a new) h w, refl)
answered_more X P (f ∷ events) old mid new e a h w = (
  h.0,
  h.1,
  h.2,
  answered_more X P events h.0 mid new e a h.3 w,
)

longer_still : (T U V : Trails) → Longer T U → Longer U V → Longer T V
longer_still T U V h k = grind (arith, prefix_after)

module _ {S : Type 0} (X : Election (Elector S)) (Q : Protocol S Bool Verdict) where
  run_same : (events : List Event) (old new : Machine (Elector S)) → AllAnswered X Q old events new
      → (new.layout ≡ old.layout) × (new.reuse ≡ old.reuse)
  run_same [] old new run = grind (arith, common_steps)
  run_same (e ∷ events) old new run =
      let one = event_reuse X old run.0 e run.1 run.2.happens in
      let rest = run_same events run.0 new run.3 in (rest.0 ∙ one.0, rest.1 ∙ one.1)

  -- the words that were published by them
  run_joins : (events : List Event) (old new : Machine (Elector S))
      (run : AllAnswered X Q old events new) (T : Trails)
      → (trails_after X Q old events new run T).log ≡ T.log ++ words_after X Q old events new run
  run_joins [] old new run T = sym (append-nil T.log)
  run_joins (e ∷ events) old new run T =
      run_joins events run.0 new run.3 (trails_grown X old e run.1 T)
      ∙ ap (λ w. w ++ words_after X Q run.0 events new run.3)
      (joins X old run.0 e run.1 T run.2.happens)
      ∙ append_assoc T.log (words_joined X old e) (words_after X Q run.0 events new run.3)

  run_rises : (events : List Event) (old new : Machine (Elector S)) → AllAnswered X Q old events new
      → stage_of old ≤ stage_of new
  run_rises [] old new run = let same = ap stage_of run in omega arith
  run_rises (e ∷ events) old new run =
      let one = run.2.follows.rises in let rest = run_rises events run.0 new run.3 in omega arith

  run_reached : (events : List Event) (old new : Machine (Elector S))
      (run : AllAnswered X Q old events new) (T : Trails) → Reached X old T
      → Reached X new (trails_after X Q old events new run T)
  run_reached [] old new run T r = subst (λ y. Reached X y T) (sym run) r
  run_reached (e ∷ events) old new run T r =
      run_reached events run.0 new run.3 (trails_grown X old e run.1 T) (run.2.follows.reached T r)

  run_longer : (events : List Event) (old new : Machine (Elector S))
      (run : AllAnswered X Q old events new) (T : Trails)
      → Longer T (trails_after X Q old events new run T)
  run_longer [] old new run T = stays_long T
  run_longer (e ∷ events) old new run T = longer_still T (trails_grown X old e run.1 T)
      (trails_after X Q run.0 events new run.3 (trails_grown X old e run.1 T))
      (grown_longer X old T e run.1)
      (run_longer events run.0 new run.3 (trails_grown X old e run.1 T))

  gone_still : (m m' : Machine (Elector S)) (o : Option ℕ) (t : ℕ) → stage_of m ≤ stage_of m'
      → HasGoneOn m o t → HasGoneOn m' o t
  gone_still m m' None t rises gone = gone
  gone_still m m' (Some rows) t rises gone = omega arith

  run_stays : (events : List Event) (old new : Machine (Elector S))
      (run : AllAnswered X Q old events new) (T : Trails) → Reached X old T → (t s : ℕ)
      → HasGoneOn old old.reuse t
      → actions_in t ((trails_after X Q old events new run T).actions s)
      ≡ actions_in t (T.actions s)
  run_stays [] old new run T r t s gone = refl
  run_stays (e ∷ events) old new run T r t s gone =
      let one = run.2.follows in
      let still = subst (λ o. HasGoneOn run.0 o t)
      (sym (event_reuse X old run.0 e run.1 run.2.happens).1)
      (gone_still old run.0 old.reuse t one.rises gone) in
      run_stays events run.0 new run.3 (trails_grown X old e run.1 T) (one.reached T r) t s still
      ∙ one.stays T r t s gone

  run_floors : (P : Protocol (Elector S) (Unit {0}) ℕ) (events : List Event)
      (old new : Machine (Elector S)) → AllAnswered X Q old events new → (T : Trails) → Sits X P old
      → Reached X old T → FloorsRise old new
  run_floors P [] old new run T s r page next has has' =
      let same = one_floor P old T (framed X P old T s r) page next has
      (subst (λ y. IsPageOf y next) run has') in omega arith
  run_floors P (e ∷ events) old new run T s r page next has has' =
      let one = raises X old run.0 P T e run.1 s r run.2.happens page has in
      let rest = run_floors P events run.0 new run.3 (trails_grown X old e run.1 T)
      (sits_after X P old run.0 e run.1 run.2.happens s) (run.2.follows.reached T r) one.0 next
      one.1 has' in
      let higher = one.2 in omega arith

  run_passed : (events : List Event) (old new : Machine (Elector S))
      → AllAnswered X Q old events new → PassedRise old new
  run_passed [] old new run r at is =
      let same = ap (λ (y : Machine (Elector S)). slice_index y.words at) run in omega arith
  run_passed (e ∷ events) old new run r at is =
      let same = event_reuse X old run.0 e run.1 run.2.happens in
      let one = run.2.follows.passed r at is in
      let rest = run_passed events run.0 new run.3 r at
      (ap (λ x. passed_by x run.0.reuse r) same.0 ∙ ap (λ o. passed_by old.layout o r) same.1 ∙ is)
      in omega arith

  sits_on :
      (P : Protocol (Elector S) (Unit {0}) ℕ) (events : List Event) (old new : Machine (Elector S))
      → AllAnswered X Q old events new → Sits X P old → Sits X P new
  sits_on P [] old new run s = subst (Sits X P) (sym run) s
  sits_on P (e ∷ events) old new run s =
      sits_on P events run.0 new run.3 (sits_after X P old run.0 e run.1 run.2.happens s)

  pub played :
      (P : Protocol (Elector S) (Unit {0}) ℕ) (events : List Event) (old new : Machine (Elector S))
      (T₀ : Trails) → Reached X old T₀
      → Sits X P old → AllAnswered X Q old events new → Played X Q old events new
  played P events old new T₀ r₀ s run = record {
    answered = run;
    extends = record {
      led = (T₀, r₀);
      stands = λ T r. subst (ShowsLog new) (run_joins events old new run T)
          (history X P new (trails_after X Q old events new run T)
          (sits_on P events old new run s) (run_reached events old new run T r));
      below = λ T r. subst (StandsBelow new) (run_joins events old new run T)
          (history_below X P new (trails_after X Q old events new run T)
          (sits_on P events old new run s) (run_reached events old new run T r));
      rises = run_rises events old new run;
      floors = run_floors P events old new run T₀ s r₀;
      passed = run_passed events old new run;
      reached = λ T r. run_reached events old new run T r;
      promised = λ T r. promise_stays X old new T (trails_after X Q old events new run T)
          (ap (λ (x : Layout). x.senders) (run_same events old new run).0) (promised X P old T s r)
          (promised X P new (trails_after X Q old events new run T) (sits_on P events old new run s)
          (run_reached events old new run T r)) (record {
            rest = words_after X Q old events new run;
            together = sym (run_joins events old new run T);
          }) (run_longer events old new run T);
      stays = λ T r t q gone. run_stays events old new run T r t q gone;
    };
  }
