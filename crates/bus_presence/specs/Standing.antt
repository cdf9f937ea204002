-- Who stands in a tenure, read off what it did, and what is promised of it.
use Rattle.std.specs.Prelude.{◌≡◌, ◌≢◌, ◌⊎◌, ℕ, ◌+◌, ◌*◌, ◌/◌, ◌%◌, ◌<◌, ◌≤◌, Some, List, slice_get}
use Rattle.bus_register.specs.declared.registers.Op.{Op}
use Rattle.bus_register.specs.declared.registers.Op.TheVariants.{Load, Store}
use Rattle.bus_presence.specs.Pins.{number_shown}
use Rattle.bus_presence.specs.Reclaimers.{Reclaiming, reclaim_op, behind_of}
use Rattle.bus_presence.specs.Reclamation.{ReclamationSizes, Reclamation, stage_at, presence_at}
use Rattle.bus_presence.specs.Reclamation.{row_of, tenure_of, IsReady, Entry, Trails}
use Rattle.bus_presence.specs.Reclamation.{number_of_step}
use Rattle.bus_presence.specs.declared.reclaimers.Behind.{Behind}
use Rattle.bus_presence.specs.declared.pins.Pin.TheVariants.{Pinned, Unpinning}

-- Sender p stored the presence of this tenure, afterwards loaded the stage of this tenure, and has
-- not cleared its presence since.
pub record Stands (x : ReclamationSizes) (p : ℕ) (trail : List Entry) (t : ℕ) : Type 0 where
  pub entered : ℕ
  pub before : ℕ
  pub enters : slice_get trail entered ≡ Some record {
    op = Store record { 0 = presence_at x p } (1 + t);
    got = before;
  }
  pub looked : ℕ
  pub stage : ℕ
  pub looks : slice_get trail looked
      ≡ Some record { op = Load record { 0 = stage_at x }; got = stage }
  pub after : entered < looked
  pub of_tenure : stage / 2 ≡ t
  pub stays : (k got : ℕ) → entered < k
      → slice_get trail k ≢ Some record { op = Store record { 0 = presence_at x p } 0; got = got }

pub record IsSafe (x : ReclamationSizes) (h : Reclamation) (T : Trails) : Type 0 where
  -- each presence shows how far its sender's pin has come
  pub shows : (p : ℕ) → p < x.senders → h.words (presence_at x p) ≡ number_shown (h.pins p)
  -- who may store in the row of a tenure, or take its page, stands in it, ..
  pub stands : (p t : ℕ) → h.pins p ≡ Pinned t → Stands x p (T p) t
  -- .. and who stands in one is a sender that may, or that clears its presence next
  pub pinned : (p t : ℕ) → Stands x p (T p) t
      → (p < x.senders) × ((h.pins p ≡ Pinned t) ⊎ (h.pins p ≡ Unpinning t))
  -- who stands in a tenure, stands in one that was opened, ..
  pub opened : (p t : ℕ) → Stands x p (T p) t → t ≤ tenure_of x h
  -- .. and whose row has not gone on to a later one
  pub in_time : (p t : ℕ) → Stands x p (T p) t → tenure_of x h < t + x.rows
  -- all who stand in tenures of one row stand in one tenure
  pub alone : (p q t u : ℕ) → Stands x p (T p) t → Stands x q (T q) u → t % x.rows ≡ u % x.rows
      → t ≡ u
  -- a row is reclaimed while the page is out
  pub held : (s : Reclaiming) → h.reclaimer ≡ Some s → h.words (stage_at x) ≡ 2 * tenure_of x h + 1
  -- a word that a holder clears is of the row of the next tenure, and all presences have passed
  -- before
  pub clears : (s : Reclaiming) (r number : ℕ) → h.reclaimer ≡ Some s
      → reclaim_op s ≡ Some (Store record { 0 = r } number)
      → (place : ℕ) × (r ≡ row_of x (tenure_of x h + 1) + place) × (place < x.width) × (number ≡ 0)
      × (x.senders ≤ s.scanned)
  -- once all presences have passed, nobody stands in a tenure of the row of the next one
  pub reclaimed : (s : Reclaiming) → h.reclaimer ≡ Some s → x.senders ≤ s.scanned → (p t : ℕ)
      → Stands x p (T p) t → t % x.rows ≢ (tenure_of x h + 1) % x.rows
  -- the words that a holder has cleared are 0
  pub wiped : (s : Reclaiming) (place : ℕ) → h.reclaimer ≡ Some s → place < s.cleared
      → h.words (row_of x (tenure_of x h + 1) + place) ≡ 0
  -- a holder waits for a sender only where it finds in its presence the tenure that used the row of
  -- the next one before
  pub awaited : (s : Reclaiming) (o : Op) (b : Behind) → h.reclaimer ≡ Some s
      → reclaim_op s ≡ Some o → behind_of s (number_of_step h o) ≡ Some b
      → (o ≡ Load record { 0 = presence_at x b.sender }) × (b.sender < x.senders)
      × (number_of_step h o ≡ 1 + b.tenure) × (b.tenure + x.rows ≡ tenure_of x h + 1)
  -- where the page may be given back, all words of the row of the next tenure are 0
  pub clean : (t place : ℕ) → h.words (stage_at x) ≡ 2 * t + 1 → IsReady x t h.reclaimer
      → place < x.width → h.words (row_of x (t + 1) + place) ≡ 0
