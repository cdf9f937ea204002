-- The seats of a bus whose rows are used again are safe: what the history behind them keeps, said
-- of what they show.
use Rattle.std.proofs.Common.{◌≡◌, ◌≢◌, ℕ, ◌+◌, ◌<◌, ◌≤◌, Option, Some, List, sym, ◌∙◌, ap, subst}
use Rattle.std.specs.Prelude.{◌%◌}
use Rattle.atomic_table.specs.Table.{State}
use Rattle.bus_core.specs.Senders.{Sender}
use Rattle.bus_core.specs.Reusing.Participants.{sizes_with}
use Rattle.bus_machine.specs.Machine.{Machine, Trails}
use Rattle.bus_machine.specs.Promise.{ReusesRows, ReusesSafely}
use Rattle.bus_presence.specs.Reclamation.{ReclamationSizes, Entry}
use Rattle.bus_presence.specs.Standing.{Stands}
use Rattle.bus_tenure.specs.Core.{Election, Layout}
use Rattle.bus_tenure.specs.declared.pages.Page.{Page}
use Rattle.bus_tenure.specs.declared.phases.Phase.TheVariants.{Electing}
use Rattle.bus_automaton.specs.SenderTrails.{SenderTrail}
use Rattle.bus_pageslot.specs.Histories.{Shown, HasHistory}
use Rattle.bus_pageslot.specs.SafeSeats.{AreSafe, tenure_in}
use Rattle.bus_pageslot.specs.declared.rule.View.{View}

module _ {E : Type 0} (X : Election E) (x : Layout) (reuse : Option ℕ) (bases : List ℕ)
    (s : State (Option Page) (View (Sender E)))
    (most : ℕ → ℕ → ℕ) (h : HasHistory X x reuse bases most s) (rows : ℕ)
    (is : reuse ≡ Some rows) where
  abbrev m : Machine E
  m = h.history.machine

  abbrev T : Trails
  T = h.history.trails

  reuses : ReusesRows X m T rows
  reuses = subst (ReusesSafely X m T) (h.reached.rows_are ∙ is) h.promised.by.reuse

  abbrev here : ReclamationSizes
  here = sizes_with m.layout rows

  sizes_are : here ≡ sizes_with x rows
  sizes_are = ap (λ l. sizes_with l rows) h.reached.layout

  -- its pins are those of the history
  pins_are : (j : ℕ) (v : Sender E) (sender_trail : SenderTrail) → Shown s j v sender_trail
      → T.pins v.core.me ≡ sender_trail.pins
  pins_are j v sender_trail shown =
      ap (λ (t : SenderTrail). t.pins) (h.trails j v sender_trail shown)

  stands_here : (j : ℕ) (v : Sender E) (sender_trail : SenderTrail) (t : ℕ) (e : E)
      → Shown s j v sender_trail
      → v.core.phase ≡ Electing t e → Stands here v.core.me (T.pins v.core.me) t
  stands_here j v sender_trail t e shown runs =
      reuses.stands v.core.me v t e (h.senders j v sender_trail shown) runs

  tenure_is : tenure_in m.words ≡ tenure_in s.words
  tenure_is = ap tenure_in (sym h.words)

  pub are_safe : AreSafe (sizes_with x rows) s
  are_safe = record {
    stands = λ j v sender_trail t e shown runs.
        subst (λ (z : ReclamationSizes × List Entry). Stands z.0 v.core.me z.1 t)
        (λ i. (sizes_are i, pins_are j v sender_trail shown i))
        (stands_here j v sender_trail t e shown runs);
    in_time = λ j v sender_trail t e shown runs.
        let at = stands_here j v sender_trail t e shown runs in
        subst (λ (z : ReclamationSizes × ℕ). (t ≤ z.1) × (z.1 < t + z.0.rows))
        (λ i. (sizes_are i, tenure_is i))
        (reuses.safe.opened v.core.me t at, reuses.safe.in_time v.core.me t at);
    reclaimed = λ j v sender_trail t w shown holds reclaims passed l u other past g at.
        let its =
        sym (reuses.holder v.core.me v t (h.senders j v sender_trail shown) holds) ∙ reclaims in
        let there = subst (λ (z : ReclamationSizes × List Entry). Stands z.0 u.core.me z.1 past)
        (λ i. (sym sizes_are i, sym (pins_are l u other g) i)) at in
        subst (λ (z : ReclamationSizes × ℕ). past % z.0.rows ≢ (z.1 + 1) % z.0.rows)
        (λ i. (sizes_are i, tenure_is i))
        (reuses.safe.reclaimed w its
        (subst (λ (z : ReclamationSizes). z.senders ≤ w.scanned) (sym sizes_are) passed) u.core.me
        past there);
  }
