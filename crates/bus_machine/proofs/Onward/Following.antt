-- Whatever happens, the new machine follows the old one, and what is answered is so.
use Rattle.std.proofs.Common.{◌≡◌, ℕ, Option, Some, None, refl, ap, subst}
use Rattle.bus_register.specs.Protocol.{Protocol}
use Rattle.bus_tenure.specs.Core.{Election}
use Rattle.bus_world.specs.World.{Event}
use Rattle.bus_world.specs.declared.events.Answer.{Answer}
use Rattle.bus_machine.proofs.Bases.AtNone.{event_reuse}
use Rattle.bus_machine.proofs.Ring.Floors.{floors_rise}
use Rattle.bus_machine.proofs.Frames.Framed.{framed, history, history_below, reuses}
use Rattle.bus_machine.proofs.Tenures.Gone.{event_stays}
use Rattle.bus_machine.proofs.Frames.Joining.{joins, grows}
use Rattle.bus_machine.proofs.Bases.Leading.{Sits, sits_after}
use Rattle.bus_machine.proofs.Ring.PassedRising.{passed_rise}
use Rattle.bus_machine.proofs.Promised.{promised}
use Rattle.bus_machine.proofs.Onward.StageRises.{rises}
use Rattle.bus_machine.proofs.Frames.Staying.{promise_stays, grown_longer}
use Rattle.bus_machine.proofs.Memory.AnswersTold.{told}
use Rattle.bus_machine.specs.Machine.{Machine, Trails, Reached, Then, Happens, trails_grown}
use Rattle.bus_machine.specs.Machine.{ShowsLog, StandsBelow}
use Rattle.bus_machine.specs.Promise.{Follows, HasGoneOn, HasRows, ReusesSafely}
use Rattle.bus_machine.specs.Promise.{actions_in}
use Rattle.bus_machine.specs.Telling.{Tells}

-- ---- one event, by trails that lead to the machine before it
module _ {E : Type 0} (X : Election E) (P : Protocol E (Unit {0}) ℕ) (m m' : Machine E) (T : Trails)
    (e : Event) (a : Answer) (s : Sits X P m)
    (r : Reached X m T) (h : Happens X m e a m') where
  -- what was done in a tenure whose row has gone on
  stays : (t q : ℕ) → HasGoneOn m m.reuse t
      → actions_in t ((trails_grown X m e a T).actions q) ≡ actions_in t (T.actions q)
  stays t q = by m.reuse refl where
    by : (o : Option ℕ) → m.reuse ≡ o → HasGoneOn m o t
        → actions_in t ((trails_grown X m e a T).actions q) ≡ actions_in t (T.actions q)
    by None fresh gone = absurd gone
    by (Some rows) used gone =
        event_stays X P m T s (framed X P m T s r) rows (subst HasRows used s.rows)
        (subst (ReusesSafely X m T) used (reuses X P m T s r)) t gone e a m' h q

module _ {E : Type 0} (X : Election E) (P : Protocol E (Unit {0}) ℕ) (m : Machine E) (T₀ : Trails)
    (s : Sits X P m) (r₀ : Reached X m T₀) where
  -- the new machine follows the old one
  pub follows : (m' : Machine E) (e : Event) (a : Answer) → Happens X m e a m' → Follows X m e a m'
  follows m' e a h = record {
    led = (T₀, r₀);
    stands = λ T r. subst (ShowsLog m') (joins X m m' e a T h)
        (history X P m' (trails_grown X m e a T) (sits_after X P m m' e a h s)
        (Then m m' T e a r h));
    below = λ T r. subst (StandsBelow m') (joins X m m' e a T h)
        (history_below X P m' (trails_grown X m e a T) (sits_after X P m m' e a h s)
        (Then m m' T e a r h));
    rises = rises X P m m' T₀ e a s r₀ h;
    floors = floors_rise X P m m' T₀ e a s r₀ h;
    passed = passed_rise X P m m' T₀ e a s r₀ h;
    reached = λ T r. Then m m' T e a r h;
    promised = λ T r. promise_stays X m m' T (trails_grown X m e a T)
        (ap (λ x. x.senders) (event_reuse X m m' e a h).0)
        (promised X P m T s r) (promised X P m' (trails_grown X m e a T)
        (sits_after X P m m' e a h s) (Then m m' T e a r h))
        (grows X m m' e a T h) (grown_longer X m T e a);
    stays = λ T r t q gone. stays X P m m' T e a s r h t q gone;
  }

  -- what is answered is so
  pub tells : (m' : Machine E) (e : Event) (a : Answer) → Happens X m e a m' → Tells X m e a
  tells m' e a h = λ T r. told X P m m' T e a s r h
