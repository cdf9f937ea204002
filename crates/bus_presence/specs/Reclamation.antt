-- Senders that pin tenures, and holders that make rows ready, in any order, over the words of the
-- stage, of the presences and of the rows, among other words. Tenure t uses row t mod rows. Of
-- elections, logs and pages nothing is said: whoever stands in a tenure may store any number in its
-- row, and may take its page while that is home.
use Rattle.std.specs.Prelude.{◌≡◌, ◌⊎◌, ℕ, ◌+◌, ◌-◌, ◌*◌, ◌/◌, ◌%◌, ◌<◌, ◌≤◌, true, Option, Some}
use Rattle.std.specs.Prelude.{None, List, [], ◌∷◌, ◌++◌, nat_lt, ◌==◌, if◌then◌else◌}
use Rattle.bus_register.specs.declared.registers.Op.{Op}
use Rattle.bus_register.specs.Words.{register, after}
use Rattle.bus_register.specs.Tables.{put}
use Rattle.bus_presence.specs.Pins.{Pinning, pin_op, pin_fed}
use Rattle.bus_presence.specs.Reclaimers.{Reclaiming, reclaim_op, reclaim_fed, is_reclaimed}
use Rattle.bus_presence.specs.declared.pins.Pin.{Pin}
use Rattle.bus_presence.specs.declared.pins.Pin.TheVariants.{Away, Announcing, Pinned, Unpinning}

-- where the words stand, how many senders and rows there are, and how many words a row has
pub record ReclamationSizes : Type 0 where
  pub at : ℕ
  pub senders : ℕ
  pub rows : ℕ
  pub width : ℕ

-- ---- the places of the words: the stage, the presences, the rows
abbrev pub stage_at : ReclamationSizes → ℕ
stage_at x = x.at

abbrev pub presence_at : ReclamationSizes → ℕ → ℕ
presence_at x p = x.at + 1 + p

-- the row that a tenure uses
abbrev pub row_of : ReclamationSizes → ℕ → ℕ
row_of x t = x.at + 1 + x.senders + t % x.rows * x.width

-- a place before or behind all of these
abbrev pub IsElsewhere : ReclamationSizes → ℕ → Type 0
IsElsewhere x place = (place < x.at) ⊎ (x.at + 1 + x.senders + x.rows * x.width ≤ place)

-- ---- the reclamation
pub record Reclamation : Type 0 where
  pub words : ℕ → ℕ
  pub pins : ℕ → Pin
  -- the holder makes the row of the next tenure ready
  pub reclaimer : Option Reclaiming

-- the tenure that is open, or whose page is out: the stage is twice this tenure, and one more while
-- its page is out
abbrev pub tenure_of : ReclamationSizes → Reclamation → ℕ
tenure_of x h = h.words (stage_at x) / 2

abbrev pub new_reclamation : Reclamation
new_reclamation = record { words = λ r. 0; pins = λ p. Away; reclaimer = None }

abbrev pub pinning : ReclamationSizes → Reclamation → ℕ → Pinning
pinning x h p = record { word = presence_at x p; stage = stage_at x; pin = h.pins p }

-- the row of the tenure after this one was used before, so its holder reclaims it
abbrev pub reclaimer_after : ReclamationSizes → ℕ → Option Reclaiming
reclaimer_after x t =
    if nat_lt (t + 1) x.rows then None else
    Some record {
      past = t + 1 - x.rows;
      senders = x.senders;
      presences = presence_at x 0;
      row = row_of x (t + 1);
      width = x.width;
      scanned = 0;
      cleared = 0;
    }

-- the row of the tenure after this one may be used: it was not used before, or it is reclaimed
abbrev pub IsReady : ReclamationSizes → ℕ → Option Reclaiming → Type 0
IsReady x t None = t + 1 < x.rows
IsReady x t (Some s) = is_reclaimed s ≡ true

-- ---- what was done
-- a step of a sender's pin, and what it found
pub record Entry : Type 0 where
  pub op : Op
  pub got : ℕ

-- of each sender
abbrev pub Trails : Type 0
Trails = ℕ → List Entry

abbrev pub no_trails : Trails
no_trails p = []

abbrev pub trails_with_entry : Trails → ℕ → Entry → Trails
trails_with_entry T p e = λ q. if q == p then T q ++ e ∷ [] else T q

-- ---- what may happen next
abbrev pub number_of_step : Reclamation → Op → ℕ
number_of_step h o = h.words (register o)

abbrev pub words_after : Reclamation → Op → ℕ → ℕ
words_after h o = put (register o) (after o (number_of_step h o)) h.words

-- One move, with the trails before and after it. It stores in no row but what a reclaimer clears.
pub data Moves (x : ReclamationSizes) : Reclamation → Trails → Reclamation → Trails → Type 0 where
  -- a sender begins a tenure
  Begins : (h : Reclamation) (T : Trails) (p t : ℕ) → p < x.senders → h.pins p ≡ Away
      → Moves x h T (record h { pins = put p (Announcing t) h.pins }) T
  -- it takes the next step of its pin
  Pins : (h : Reclamation) (T : Trails) (p : ℕ) (o : Op) → pin_op (pinning x h p) ≡ Some o
      → Moves x h T (record h {
        words = words_after h o;
        pins = put p (pin_fed (h.pins p) (number_of_step h o)) h.pins;
      }) (trails_with_entry T p record { op = o; got = number_of_step h o })
  -- it is done with the tenure that it stands in
  Parts : (h : Reclamation) (T : Trails) (p t : ℕ) → h.pins p ≡ Pinned t
      → Moves x h T (record h { pins = put p (Unpinning t) h.pins }) T
  -- it takes the page of the tenure that it stands in
  Takes : (h : Reclamation) (T : Trails) (p t : ℕ) → h.pins p ≡ Pinned t
      → h.words (stage_at x) ≡ 2 * t
      → Moves x h T
      (record h { words = put (stage_at x) (2 * t + 1) h.words; reclaimer = reclaimer_after x t }) T
  -- the holder takes the next step of its reclaimer
  Reclaims : (h : Reclamation) (T : Trails) (s : Reclaiming) (o : Op) → h.reclaimer ≡ Some s
      → reclaim_op s ≡ Some o
      → Moves x h T
      (record h { words = words_after h o; reclaimer = Some (reclaim_fed s (number_of_step h o)) })
      T
  -- the holder gives the page back
  GivesBack : (h : Reclamation) (T : Trails) (t : ℕ) → h.words (stage_at x) ≡ 2 * t + 1
      → IsReady x t h.reclaimer
      → Moves x h T (record h { words = put (stage_at x) (2 * t + 2) h.words; reclaimer = None }) T
  -- anybody stores a number elsewhere
  Stores : (h : Reclamation) (T : Trails) (place number : ℕ) → IsElsewhere x place
      → Moves x h T (record h { words = put place number h.words }) T

-- these trails lead to this reclamation: from a new one, by one event after another, of any sender
-- and in any order
pub data Reached (x : ReclamationSizes) : Reclamation → Trails → Type 0 where
  New : Reached x new_reclamation no_trails
  Then : (h h' : Reclamation) (T T' : Trails) → Reached x h T → Moves x h T h' T' → Reached x h' T'
  -- a sender stores a number in the row of the tenure that it stands in
  Works : (h : Reclamation) (T : Trails) (p t place number : ℕ) → Reached x h T
      → h.pins p ≡ Pinned t → place < x.width
      → Reached x (record h { words = put (row_of x t + place) number h.words }) T
