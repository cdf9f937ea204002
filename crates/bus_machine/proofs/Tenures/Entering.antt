-- Which tenure a sender may enter next, and what its pin has to do with its phase.
use Rattle.std.proofs.Common.{◌≡◌, ℕ, ◌+◌, ◌/◌, ◌≤◌, false, nat_lt, Option, Some, None, inr}
use Rattle.std.proofs.Common.{slice_get, refl, sym, ◌∙◌, ap, arith}
use Rattle.std.specs.Prelude.{IsSomeAnd}
use Rattle.std.proofs.lemmas.Bool.{true≢false, ltb-false}
use Rattle.std.proofs.lemmas.Grind.{common_steps}
use Rattle.bus_core.proofs.Situated.{own_is, situation_tells}
use Rattle.bus_core.specs.Senders.{Sender, Does, Validates, situation}
use Rattle.bus_core.specs.declared.reuses.Reuse.{Reuse}
use Rattle.bus_presence.specs.declared.pins.Pin.{Pin}
use Rattle.bus_presence.specs.declared.pins.Pin.TheVariants.{Validating, Pinned}
use Rattle.bus_register.specs.Protocol.{Protocol}
use Rattle.bus_tenure.proofs.Situated.{Tells, tells}
use Rattle.bus_tenure.specs.Core.{Core, Election}
use Rattle.bus_tenure.specs.Seen.{tenure_of}
use Rattle.bus_tenure.specs.Situations.{Situation as Own, waits}
use Rattle.bus_tenure.specs.declared.phases.Phase.{Phase}
use Rattle.bus_tenure.specs.declared.phases.Phase.TheVariants as phase
use Rattle.bus_machine.proofs.Bases.CyclicTurns.{protocol_kept}
use Rattle.bus_machine.proofs.Frames.Framed.{framed}
use Rattle.bus_machine.proofs.Bases.Leading.{Sits, two_rows, led_some}
use Rattle.bus_machine.specs.Machine.{Machine, Trails, Reached}
use Rattle.bus_machine.specs.Promise.{pin_of, pin_in}
use Rattle.bus_machine.specs.Private.Bridge.{core_in}
use Rattle.bus_machine.specs.Remembering.{rows_in}

-- ---- the first tenure that it may enter yet
abbrev pub entry_from : Option ℕ → ℕ → ℕ
entry_from None least = least
entry_from (Some t) least = t + 1

abbrev pub entry : {E : Type 0} → Core E → ℕ
entry c = entry_from (tenure_of c.phase) c.least

-- in a tenure it is the next one
pub entry_in : {E : Type 0} (c : Core E) (ph : Phase E) (t : ℕ) → c.phase ≡ ph
    → tenure_of ph ≡ Some t → entry c ≡ t + 1
entry_in c ph t is its = ap (λ o. entry_from o c.least) (ap tenure_of is ∙ its)

-- a stage that does not let it wait is of a tenure that it may enter
pub may_enter : {E : Type 0} (c : Core E) (got : ℕ) → waits c got ≡ false → c.least ≤ got / 2
may_enter c got e = grind (arith, common_steps, nat_lt, ltb-false, true≢false)

-- ---- a pin
-- by what holds of it where rows are used again
pub pin_is : (o : Option Reuse) (u : Pin) → IsSomeAnd o (λ r. r.pin ≡ u) → pin_of o ≡ u
pin_is None u bad = absurd bad
pin_is (Some r) u is = is

-- ---- a sender
-- what it does in its tenure tells its phase
pub phase_tells : {E : Type 0} (X : Election E) (v : Sender E) (z : Own E) → situation X v ≡ Does z
    → Tells X z v.core.phase
phase_tells X v z i = tells X v.core z (own_is X v z i)

module _ {E : Type 0} (X : Election E) (P : Protocol E (Unit {0}) ℕ) (m : Machine E) (T : Trails)
    (sits : Sits X P m) (reached : Reached X m T) (p : ℕ) (v : Sender E)
    (at : slice_get m.senders p ≡ Some v) where
  used : (r : Reuse) → v.reuse ≡ Some r → m.reuse ≡ Some r.rows
  used r again = sym ((framed X P m T sits reached).rows p v at) ∙ ap rows_in again

  -- an election runs only of a sender that stands in its tenure
  pub stands_in : (r : Reuse) → v.reuse ≡ Some r → (t : ℕ) (e : E)
      → v.core.phase ≡ phase.Electing t e → r.pin ≡ Pinned t
  stands_in r again t e runs =
      let rows = used r again in
      let led = led_some X P m T sits reached r.rows rows in
      let two = two_rows X P m sits r.rows rows in
      let kept = (protocol_kept X P r.rows m T sits.serves sits.ok two led).kept in
      ap pin_of (sym again) ∙ ap pin_in (sym at)
      ∙ (kept.participants p v.core (ap core_in at)).electing t e runs

  -- who looks at the stage again has begun no tenure, and may enter the one that it stored
  pub enters : (t : ℕ) → situation X v ≡ Validates t
      → (v.core.phase ≡ phase.Resting) × (v.core.least ≤ t)
  enters t i = by v.reuse refl (situation_tells X v (Validates t) i) where
    by : (o : Option Reuse) → v.reuse ≡ o → IsSomeAnd o (λ r. r.pin ≡ Validating t)
        → (v.core.phase ≡ phase.Resting) × (v.core.least ≤ t)
    by None again bad = absurd bad
    by (Some r) again pins =
        let rows = used r again in
        let led = led_some X P m T sits reached r.rows rows in
        let two = two_rows X P m sits r.rows rows in
        let kept = (protocol_kept X P r.rows m T sits.serves sits.ok two led).kept in
        let own = (kept.participants p v.core (ap core_in at)).announcing t
        (inr (ap pin_in at ∙ ap pin_of again ∙ pins)) in
        (own.rests, own.least)
