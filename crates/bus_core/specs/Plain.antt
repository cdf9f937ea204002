-- The steps of a sender that are plain stores: nothing else comes of them.
use Rattle.std.specs.Prelude.{◌≡◌, ℕ, zero, suc, ◌+◌, ◌<◌, ◌≤◌, Some}
use Rattle.bus_register.specs.declared.registers.Op.TheVariants.{Store}
use Rattle.bus_presence.specs.Reclaimers.{Reclaiming, IsClearing, clears_left}
use Rattle.bus_tenure.specs.Core.{Election, frame_len}
use Rattle.bus_tenure.specs.Seen.{HoldsPublished}
use Rattle.bus_tenure.specs.Situations.{StoresWord}
use Rattle.bus_tenure.specs.declared.pages.Page.{Page}
use Rattle.bus_tenure.specs.declared.turns.Turn.TheVariants.{Going}
use Rattle.bus_core.specs.Senders.{Sender, Situation, Does, Clears, situation, words_all}
use Rattle.bus_core.specs.Table.{line_now}
use Rattle.bus_core.specs.Telling.{FeedTells}

-- the next step stores a word of a frame, or clears a word of the next row once the frame stands in
-- the log
pub data IsPlain {E : Type 0} (X : Election E) (v : Sender E) : Type 0 where
  Word : (t : ℕ) (page : Page) (stored : ℕ) → situation X v ≡ Does (StoresWord t page stored)
      → IsPlain X v
  Clear : (s : Reclaiming) → situation X v ≡ Clears s → IsClearing s → HoldsPublished v.core.phase
      → IsPlain X v

-- the next step is this plain store, of a word behind the length and the stage
pub record StoresPlain {E : Type 0} (X : Election E) (v : Sender E) (at value : ℕ) : Type 0 where
  pub plain : IsPlain X v
  pub step : (word : ℕ) → (line_now X v).op word ≡ Some (Store record { 0 = at } value)
  pub behind : 2 ≤ at
  pub below : at < words_all v

-- ---- several of them, one behind another
-- the sender once so many more of its steps were taken, of which each found 0 and had the random
-- word 0: what a plain store finds makes no difference
abbrev pub stored_on : {E : Type 0} → Election E → Sender E → ℕ → Sender E
stored_on X v zero = v
stored_on X v (suc n) = (line_now X (stored_on X v n)).fed 0 0

-- So many of its next steps are plain stores in words one behind another, the first of them at this
-- one, of these values by their number; and each of them is told to be answered Going.
pub record StoresRow {E : Type 0} (X : Election E) (v : Sender E) (at : ℕ) (values : ℕ → ℕ)
    (many : ℕ) : Type 0 where
  pub stores : (n : ℕ) → n < many → StoresPlain X (stored_on X v n) (at + n) (values n)
  pub tells : (n got word : ℕ) → n < many → FeedTells X (stored_on X v n) got word Going

-- how many words of the next row are cleared from this situation on
abbrev pub clears_from : {E : Type 0} → Situation E → ℕ
clears_from (Clears s) = clears_left s
clears_from z = 0

-- it stores so many words of its frame from its next step on
pub record StoresWords {E : Type 0} (X : Election E) (v : Sender E) (many : ℕ) : Type 0 where
  pub tenure : ℕ
  pub page : Page
  pub stored : ℕ
  pub is : situation X v ≡ Does (StoresWord tenure page stored)
  pub within : stored + many ≤ frame_len v.core
