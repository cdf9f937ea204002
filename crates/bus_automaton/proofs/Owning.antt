-- Who takes a page with its next step was chosen by the election of that tenure, with both kinds of
-- rows.
use Rattle.std.proofs.Common.{◌≡◌, ℕ, Option, Some, is_some, List, slice_get, inl, inr, sym, ◌∙◌}
use Rattle.std.proofs.Common.{ap}
use Rattle.std.proofs.lemmas.Bool.{true≢false}
use Rattle.bus_core.specs.Senders.{Sender}
use Rattle.bus_register.specs.Protocol.{Protocol}
use Rattle.bus_register.specs.Private.TableLaws.{some_or_none}
use Rattle.bus_tenure.proofs.Situated.{tells}
use Rattle.bus_tenure.specs.Core.{Core, Election, Layout}
use Rattle.bus_tenure.specs.Situations.{TakesPage, situation_of}
use Rattle.bus_tenure.specs.declared.phases.Phase.TheVariants.{Electing}
use Rattle.bus_world.proofs.Serving.{Serves}
use Rattle.bus_automaton.proofs.States.{framing}
use Rattle.bus_automaton.specs.OneAutomaton.{MachineHistory, IsMachineHistory}

-- its election of this tenure runs, and has chosen it
pub record Owns {E : Type 0} (X : Election E) (p t : ℕ) (c : Core E) : Type 0 where
  pub election : E
  pub elects : c.phase ≡ Electing t election
  pub chosen : X.owner election ≡ Some p

-- it is that owner
pub owner_at : {E : Type 0} (X : Election E) (P : Protocol E (Unit {0}) ℕ) (x : Layout)
    → Serves X P x → (reuse : Option ℕ) (bases : List ℕ)
    → (z : MachineHistory E) → IsMachineHistory X x reuse bases z → (p : ℕ) (d : Sender E)
    → slice_get z.machine.senders p ≡ Some d
    → (t : ℕ) → situation_of X d.core ≡ TakesPage t → Owns X p t d.core
owner_at X P x y reuse bases z h p d at t takes =
    let g = framing X P x y reuse bases z h in
    let w = tells X d.core (TakesPage t) takes in
    elim (some_or_none (X.owner w.0)) [
      | inl nobody ↦ absurd (true≢false (sym w.2 ∙ ap is_some nobody))
      | inr own ↦
          let mine = g.sending.chosen p d.core t w.0 own.0 (g.core_of p d at) w.1
          (sym (y.owner_is w.0) ∙ own.1) in
          record { election = w.0; elects = w.1; chosen = own.1 ∙ ap Some mine }
    ]
