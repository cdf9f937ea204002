-- All words from the floor on fit the log: the length is no further behind the floor than the log
-- has words.
use Rattle.std.proofs.Common.{◌≡◌, ℕ, zero, suc, ◌+◌, ◌*◌, ◌<◌, ◌≤◌, Option, Some, None, List}
use Rattle.std.proofs.Common.{slice_index, arith, refl, sym, subst}
use Rattle.std.proofs.lemmas.Grind.{common_steps}
use Rattle.atomic_table.specs.Table.{State}
use Rattle.bus_core.specs.Reusing.Participants.{passed_from}
use Rattle.bus_core.specs.Senders.{Sender}
use Rattle.bus_core.specs.declared.limits.TheConstants.{PASSED_APART}
use Rattle.bus_machine.proofs.Bases.AtNone.{flat_at_none}
use Rattle.bus_machine.proofs.Bases.CyclicTurns.{protocol_kept}
use Rattle.bus_machine.proofs.Frames.Framed.{framed}
use Rattle.bus_machine.proofs.Bases.Leading.{Sits, two_rows, led_some}
use Rattle.bus_machine.specs.Machine.{Machine, Trails, Reached, floor_of, passers_place}
use Rattle.bus_machine.specs.Private.Bridge.{IsLed}
use Rattle.bus_register.specs.Protocol.{Protocol}
use Rattle.bus_tenure.specs.Core.{Election, Layout}
use Rattle.bus_tenure.specs.declared.pages.Page.{Page}
use Rattle.bus_world.proofs.FloorLaws.{lesser_is}
use Rattle.bus_world.proofs.Serving.{Serves}
use Rattle.bus_world.specs.Log.{least_passed, floor_shown}
use Rattle.bus_automaton.specs.Lawful.{floor_in}
use Rattle.bus_automaton.specs.OneAutomaton.{bus_of}
use Rattle.bus_automaton.specs.OneProcess.{process_of, table_layout_by}
use Rattle.bus_pageslot.specs.Rule.{TableInvariant}
use Rattle.bus_pageslot.specs.declared.rule.View.{View}

-- what is past neither the length nor any passed place is not past the least of them
pub least_above : (words : ℕ → ℕ) (at n len low : ℕ) → low ≤ len
    → ((r : ℕ) → r < n → low ≤ words (at + PASSED_APART * r)) → low ≤ least_passed words at n len
least_above words at zero len low below behind = below
least_above words at (suc k) len low below behind =
    let more = least_above words at k len low below (λ r l. behind r (omega arith)) in
    grind (arith, common_steps, lesser_is)

-- nor past the floor
pub shown_above : (words : ℕ → ℕ) (at n len low : ℕ) → low ≤ len → (n ≡ 0 → low ≡ 0)
    → ((r : ℕ) → r < n → low ≤ words (at + PASSED_APART * r)) → low ≤ floor_shown words at n len
shown_above words at zero len low below none behind = (let first = none refl in omega arith)
shown_above words at (suc k) len low below none behind =
    least_above words at (suc k) len low below behind

-- ---- of a machine
module _ {E : Type 0} (X : Election E) (P : Protocol E (Unit {0}) ℕ) (m : Machine E) (T : Trails)
    (sits : Sits X P m) where
  -- where rows are used again
  fits_some : (rows : ℕ) → IsLed X rows m T
      → slice_index m.words 0 ≤ m.layout.capacity + floor_of m
  fits_some rows l =
      let two = two_rows X P m sits rows l.reuse in
      let k = protocol_kept X P rows m T sits.serves sits.ok two l in
      let few = k.kept.stored.few in
      let low = k.kept.stored.low in
      let long = k.kept.laid.length in
      let least = k.kept.floors.low in
      let above = subst
      (λ o. k.kept.floor
      ≤ floor_shown (slice_index m.words) (passers_place m.layout o) m.layout.passers
      (slice_index m.words 0))
      (sym l.reuse)
      (shown_above (slice_index m.words) (passed_from m.layout rows) m.layout.passers
      (slice_index m.words 0) k.kept.floor (omega arith) k.kept.floors.none
      k.kept.floors.behind) in
      omega arith

  pub machine_fits : Reached X m T → slice_index m.words 0 ≤ m.layout.capacity + floor_of m
  machine_fits reached = by m.reuse refl where
    by : (o : Option ℕ) → m.reuse ≡ o → slice_index m.words 0 ≤ m.layout.capacity + floor_of m
    by None e =
        let f = framed X P m T sits reached in
        let fits = f.sending.log.fits (flat_at_none X m T reached e) in
        let long = f.length in omega arith
    by (Some rows) e = fits_some rows (led_some X P m T sits reached rows e)

-- ---- of a table of which the rule holds
pub table_fits : {E : Type 0} (X : Election E) (P : Protocol E (Unit {0}) ℕ) (x : Layout)
    (reuse : Option ℕ) (bases : List ℕ) → Serves X P x
    → (s : State (Option Page) (View (Sender E)))
    → TableInvariant (process_of X) (bus_of X x reuse bases) s
    → slice_index s.words 0 ≤ x.capacity + floor_in (table_layout_by x reuse) s.words
table_fits {E} X P x reuse bases y s r = grind (arith, common_steps, slice_index, machine_fits)
