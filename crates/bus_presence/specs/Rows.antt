-- A protocol in rows used again: each tenure has an object of its own, over the row that the tenure
-- uses, with senders as its processes.
use Rattle.std.specs.Prelude.{◌≡◌, ℕ, Option, Some, None}
use Rattle.bus_register.specs.declared.registers.Op.{Op}
use Rattle.bus_register.specs.Words.{SumFits}
use Rattle.bus_register.specs.Tables.{put}
use Rattle.bus_register.specs.Protocol.{Protocol, inputs, outputs}
use Rattle.bus_presence.specs.Reclamation.{ReclamationSizes, Reclamation, Trails, Moves, row_of}
use Rattle.bus_presence.specs.Reclamation.{new_reclamation, no_trails, number_of_step, words_after}
use Rattle.bus_presence.specs.Standing.{IsSafe}
use Rattle.bus_presence.specs.declared.pins.Pin.TheVariants.{Pinned}

-- by tenure and sender
abbrev pub Locals : Type 0 → Type 0
Locals S = ℕ → ℕ → Option S

abbrev pub no_locals : {S : Type 0} → Locals S
no_locals t p = None

-- sender p has this in tenure t
abbrev pub with_local : {S : Type 0} → Locals S → ℕ → ℕ → S → Locals S
with_local L t p s = put t (put p (Some s) (L t)) L

-- what leads to a reclamation with these trails and local states
pub data Played {S I O : Type 0} (op : S → ℕ → Option Op) (fed : S → ℕ → ℕ → S) (P : Protocol S I O)
    (x : ReclamationSizes) : Reclamation → Trails → Locals S → Type 0 where
  New : Played op fed P x new_reclamation no_trails no_locals
  Moved : (h h' : Reclamation) (T T' : Trails) (L : Locals S) → Played op fed P x h T L
      → Moves x h T h' T' → Played op fed P x h' T' L
  -- a sender comes to its start in the tenure that it stands in, with any input
  Starts : (h : Reclamation) (T : Trails) (L : Locals S) (p t : ℕ) (v : I) → Played op fed P x h T L
      → h.pins p ≡ Pinned t → L t p ≡ None
      → Played op fed P x h T (with_local L t p (P.started x.senders p v (row_of x t)))
  -- it takes its next step there, with any random word
  Steps : (h : Reclamation) (T : Trails) (L : Locals S) (p t word : ℕ) (s : S) (o : Op)
      → Played op fed P x h T L → h.pins p ≡ Pinned t → L t p ≡ Some s → op s word ≡ Some o
      → Played op fed P x (record h { words = words_after h o }) T
      (with_local L t p (fed s (number_of_step h o) word))

-- the reclamation is safe, and what is promised of an object over a row of its own holds of each
-- tenure's
pub record AreApart {S I O : Type 0} (op : S → ℕ → Option Op) (P : Protocol S I O)
    (Outcome : (ℕ → Option I) → (ℕ → Option O) → Type 0) (x : ReclamationSizes) (h : Reclamation)
    (T : Trails) (L : Locals S) : Type 0 where
  pub safe : IsSafe x h T
  -- also of a tenure whose row has gone on to others
  pub outcomes : (t : ℕ) → Outcome (inputs P (L t)) (outputs P (L t))
  -- no addition that comes next passes a word's range
  pub fits : (p t word : ℕ) (s : S) (o : Op) → h.pins p ≡ Pinned t → L t p ≡ Some s
      → op s word ≡ Some o → SumFits o (number_of_step h o)
