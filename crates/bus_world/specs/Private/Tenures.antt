-- The lock's passage from owner to owner: one election for each tenure, a stage word that tells
-- whether the tenure is open (twice its number) or held (one more), and a page that is at home
-- while it is open.
use Rattle.std.specs.Prelude.{◌≡◌, ℕ, ◌+◌, ◌*◌, ◌<◌, ◌≤◌, Bool, true, false, Option, Some, ◌⊎◌}
use Rattle.std.specs.Prelude.{List, length, slice_get}
use Rattle.bus_register.specs.Protocol.{Protocol}

-- what a sender does in the tenure that it has begun
pub data Standing (E : Type 0) : Type 0 where
  Rests : Standing E
  -- it takes part in the election of this tenure, or has won it and still has to take the page
  Runs : (tenure : ℕ) → (election : E) → Standing E
  -- it has taken the page of this tenure and not given it back
  Holds : (tenure : ℕ) → Standing E

-- the stage, where so many tenures have ended: either the page is at home and each of them had an
-- owner, or one more has the page
pub data Stage {E : Type 0} (ended : ℕ) (stage : ℕ) (at_home : Bool) (owners : List ℕ)
    (standing : ℕ → Option (Standing E)) : Type 0 where
  Open : stage ≡ 2 * ended → at_home ≡ true → length owners ≡ ended
      → Stage ended stage at_home owners standing
  Held : (holder : ℕ) → stage ≡ 2 * ended + 1 → at_home ≡ false → length owners ≡ ended + 1
      → standing holder ≡ Some (Holds ended) → Stage ended stage at_home owners standing

-- Of each sender: what it stands in, and the first tenure that it may enter. Of each tenure: the
-- local states of its election, those in which senders left it included. Of each tenure whose page
-- was taken: its owner.
pub record Tenures {E : Type 0} (P : Protocol E (Unit {0}) ℕ) (n rows at : ℕ) (words : ℕ → ℕ)
    (stage : ℕ) (at_home : Bool) (standing : ℕ → Option (Standing E)) (least : ℕ → ℕ)
    (owners : List ℕ) : Type 0 where
  pub elections : ℕ → ℕ → Option E
  pub kept : (t : ℕ) → t < rows → P.Keeps n (at + t * P.width n) words (elections t)
  pub ended : ℕ
  pub stage_is : Stage ended stage at_home owners standing
  -- a sender is in an election of a tenure that was opened, and is past it or stands in it
  pub begun : (t p : ℕ) (e : E) → elections t p ≡ Some e
      → (t ≤ ended)
      × ((t < least p) ⊎ ((standing p ≡ Some (Runs t e)) ⊎ (standing p ≡ Some (Holds t))))
  pub electing : (p t : ℕ) (e : E) → standing p ≡ Some (Runs t e)
      → (t < rows) × (least p ≤ t) × (elections t p ≡ Some e)
  pub holding : (p t : ℕ) → standing p ≡ Some (Holds t)
      → (t ≡ ended) × (stage ≡ 2 * t + 1) × (slice_get owners t ≡ Some p) × (least p ≤ t)
  -- an owner was elected, and is past its tenure or holds the page
  pub owned : (t o : ℕ) → slice_get owners t ≡ Some o
      → (t < rows) × ((e : E) × (elections t o ≡ Some e) × (P.output e ≡ Some o))
      × ((t < least o) ⊎ (standing o ≡ Some (Holds t)))
