-- Reclamations that are not safe.
use Rattle.std.specs.Prelude.{◌≡◌, ◌≢◌, ℕ, ◌+◌, ◌*◌, ◌<◌, ◌≤◌, Some, List, [], ◌∷◌}
use Rattle.bus_register.specs.declared.registers.Op.{Op}
use Rattle.bus_register.specs.declared.registers.Op.TheVariants.{Load, Store}
use Rattle.bus_presence.specs.Reclaimers.{Reclaiming, reclaim_op, behind_of}
use Rattle.bus_presence.specs.Reclamation.{ReclamationSizes, Reclamation, Entry, Trails, IsReady}
use Rattle.bus_presence.specs.Reclamation.{stage_at, presence_at, row_of, tenure_of, number_of_step}
use Rattle.bus_presence.specs.Standing.{IsSafe}
use Rattle.bus_presence.specs.declared.reclaimers.Behind.{Behind}
use Rattle.bus_presence.specs.declared.pins.Pin.TheVariants.{Away, Pinned}

abbrev pub shows_it : ReclamationSizes → ℕ → ℕ → Entry
shows_it x p t = record { op = Store record { 0 = presence_at x p } (1 + t); got = 0 }

abbrev pub sees_stage : ReclamationSizes → ℕ → Entry
sees_stage x t = record { op = Load record { 0 = stage_at x }; got = 2 * t }

-- it stored its presence, and then loaded the stage of this tenure
abbrev pub has_come : ReclamationSizes → ℕ → ℕ → List Entry
has_come x p t = shows_it x p t ∷ sees_stage x t ∷ []

pub record SafetyRefuses : Type 0 where
  -- a sender may step in a tenure whose stage it loaded before it stored its presence
  pub unlooked : (x : ReclamationSizes) (h : Reclamation) (T : Trails) (p t : ℕ)
      → h.pins p ≡ Pinned t → T p ≡ sees_stage x t ∷ shows_it x p t ∷ [] → ¬ IsSafe x h T
  -- a sender may step in a tenure though its look at the stage, after it stored its presence, found
  -- that of another tenure
  pub another_stage : (x : ReclamationSizes) (h : Reclamation) (T : Trails) (p t u : ℕ)
      → h.pins p ≡ Pinned t → T p ≡ shows_it x p t ∷ sees_stage x u ∷ [] → t ≢ u → ¬ IsSafe x h T
  -- a sender is away, and its presence names a tenure still
  pub shown_away : (x : ReclamationSizes) (h : Reclamation) (T : Trails) (p t : ℕ) → p < x.senders
      → h.pins p ≡ Away → h.words (presence_at x p) ≡ 1 + t → ¬ IsSafe x h T
  -- a sender stands in a tenure whose row has gone on
  pub stale : (x : ReclamationSizes) (h : Reclamation) (T : Trails) (p t : ℕ) → T p ≡ has_come x p t
      → t + x.rows ≤ tenure_of x h → ¬ IsSafe x h T
  -- a sender stands in a tenure that was not opened
  pub early : (x : ReclamationSizes) (h : Reclamation) (T : Trails) (p t : ℕ) → T p ≡ has_come x p t
      → tenure_of x h < t → ¬ IsSafe x h T
  -- two senders stand in two tenures of one row
  pub shared : (x : ReclamationSizes) (h : Reclamation) (T : Trails) (p q t : ℕ) → 0 < x.rows
      → T p ≡ has_come x p t → T q ≡ has_come x q (t + x.rows) → ¬ IsSafe x h T
  -- a sender stands in the row that a holder clears
  pub cleared_under :
      (x : ReclamationSizes) (h : Reclamation) (T : Trails) (p t r : ℕ) (s : Reclaiming)
      → T p ≡ has_come x p t → h.reclaimer ≡ Some s → reclaim_op s ≡ Some (Store record { 0 = r } 0)
      → tenure_of x h + 1 ≡ t + x.rows → ¬ IsSafe x h T
  -- a holder clears before all presences have passed
  pub unscanned : (x : ReclamationSizes) (h : Reclamation) (T : Trails) (r : ℕ) (s : Reclaiming)
      → h.reclaimer ≡ Some s → reclaim_op s ≡ Some (Store record { 0 = r } 0)
      → s.scanned < x.senders → ¬ IsSafe x h T
  -- a holder waits for a sender whose presence names another tenure than the one that used the row
  -- before
  pub causeless :
      (x : ReclamationSizes) (h : Reclamation) (T : Trails) (s : Reclaiming) (o : Op) (b : Behind)
      → h.reclaimer ≡ Some s → reclaim_op s ≡ Some o → behind_of s (number_of_step h o) ≡ Some b
      → b.tenure + x.rows ≢ tenure_of x h + 1 → ¬ IsSafe x h T
  -- a page may be given back while a word of the next row is not 0
  pub unclean : (x : ReclamationSizes) (h : Reclamation) (T : Trails) (t place : ℕ)
      → h.words (stage_at x) ≡ 2 * t + 1 → IsReady x t h.reclaimer → place < x.width
      → 0 < h.words (row_of x (t + 1) + place) → ¬ IsSafe x h T
