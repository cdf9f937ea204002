-- A holder loads the passed places in the order of receivers.
use Rattle.std.proofs.Common.{◌≡◌, ℕ, ◌+◌, ◌*◌, ◌<◌, Option, Some, None, length, nat_lt, slice_get}
use Rattle.std.proofs.Common.{arith, refl, sym, ◌∙◌, ap, subst}
use Rattle.std.proofs.lemmas.Bool.{ltb-false}
use Rattle.std.proofs.lemmas.Grind.{common_steps}
use Rattle.bus_core.proofs.Situated.{SituationTells, situation_tells}
use Rattle.bus_core.specs.Reusing.Passing.{passing_begun}
use Rattle.bus_core.specs.Senders.{Sender, ReadsPassed, passed_start, situation}
use Rattle.bus_core.specs.declared.limits.TheConstants.{PASSED_APART}
use Rattle.bus_core.specs.declared.reuses.Passing.{Passing}
use Rattle.bus_core.specs.declared.reuses.Reuse.{Reuse}
use Rattle.bus_register.specs.Protocol.{Protocol}
use Rattle.bus_tenure.proofs.Situated.{tells}
use Rattle.bus_tenure.specs.Core.{Election, Layout}
use Rattle.bus_tenure.specs.Situations.{GivesBack, situation_of}
use Rattle.bus_tenure.specs.declared.phases.Reason.TheVariants.{NoRoom}
use Rattle.bus_world.specs.Private.Sending.{Part}
use Rattle.bus_machine.proofs.Frames.Framed.{IsFramed, framed}
use Rattle.bus_machine.proofs.Bases.Leading.{Sits}
use Rattle.bus_machine.proofs.Ring.Loaded.{gives_least, has_loaded}
use Rattle.bus_machine.specs.Finding.{LoadsPassed, places_found}
use Rattle.bus_machine.specs.Machine.{base_of, Machine, Trails, Reached, passed_by, passers_place}
use Rattle.bus_machine.specs.Remembering.{rows_in}

place_of : (x : Layout) (o : Option ℕ) (r : ℕ) → r < x.passers
    → passed_by x o r ≡ Some (passers_place x o + PASSED_APART * r)
place_of x o r low = grind (arith, common_steps, nat_lt, ltb-false)

module _ {E : Type 0} (X : Election E) (P : Protocol E (Unit {0}) ℕ) (m : Machine E) (T : Trails)
    (sits : Sits X P m) (reached : Reached X m T) (s : ℕ) (v : Sender E) (t word : ℕ) (p : Passing)
    (at : slice_get m.senders s ≡ Some v) (i : situation X v ≡ ReadsPassed t p) where
  f : IsFramed P m T
  f = framed X P m T sits reached

  part : Part (base_of m) m.layout f.V f.frames s v.core
  part = f.sending.parts s v.core (f.core_of s v at)

  -- the passed places begin where the layout has them
  begin : (r : Reuse) → v.reuse ≡ Some r
      → passed_start v.core.layout v.reuse ≡ passers_place m.layout m.reuse
  begin r again =
      ap (λ x. passed_start x v.reuse) part.layout ∙ ap (passed_start m.layout) again
      ∙ ap (passers_place m.layout) (sym (ap rows_in again) ∙ f.rows s v at)

  -- its step is on the one of this number
  loads_number : (r : Reuse) → v.reuse ≡ Some r → p.loaded < m.layout.passers
      → LoadsPassed X m v word p.loaded
  loads_number r again low = record {
    at = passers_place m.layout m.reuse + PASSED_APART * p.loaded;
    place = place_of m.layout m.reuse p.loaded low;
    is = grind (arith, common_steps, begin);
  }

  pub loads_in_turn : LoadsPassed X m v word (length (places_found (T.actions s)))
  loads_in_turn = by v.reuse refl (situation_tells X v (ReadsPassed t p) i) where
    by : (o : Option Reuse) → v.reuse ≡ o
        → SituationTells v.core.layout.passers (ReadsPassed t p) o (situation_of X v.core)
        → LoadsPassed X m v word (length (places_found (T.actions s)))
    by None again w = absurd w
    by (Some r) again w =
        let own = tells X v.core (GivesBack t w.page NoRoom) w.gives in
        let has = has_loaded X P m T sits reached s v at t w.page own.0 own.1 r own.2 again in
        let count = (gives_least passing_begun (places_found (T.actions s))).loaded in
        let known = ap (λ (q : Passing). q.loaded) has.is in
        let same = ap (λ (q : Passing). q.loaded) w.is in
        let many : p.loaded ≡ length (places_found (T.actions s)) = omega arith in
        subst (LoadsPassed X m v word) many (loads_number r again
        (subst (λ (x : Layout). p.loaded < x.passers) part.layout w.left))
