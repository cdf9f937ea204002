-- What a picture does not allow: of each wrong arrow, of one left out, and of a line left out, one
-- instance.
use Rattle.std.specs.Prelude.{ℕ, Option, Some, None, List, [], ◌∷◌, ◌++◌, ◌==◌, codes}
use Rattle.std.specs.Prelude.{if◌then◌else◌}
use Rattle.std.specs.List.{join_with_byte}
use Rattle.bus_picture.specs.declared.families.Family.{Family}
use Rattle.bus_picture.specs.declared.families.Family.TheVariants as family
use Rattle.bus_picture.specs.declared.finding.Found.{Found}
use Rattle.bus_picture.specs.declared.processes.Process.{Process}
use Rattle.bus_picture.specs.declared.processes.Process.TheVariants.{Sender, Receiver}
use Rattle.bus_picture.specs.Rows.{Shown}
use Rattle.bus_picture.specs.Arrows.{AreArrows}

-- a row of this process and family, on this word, with what it found and left
abbrev pub row : Process → Family → (word found after : List ℕ) → Shown
row p f word found after = record {
  process = p;
  family = f;
  number = [];
  who = [];
  tenure = [];
  kind = [];
  word = word;
  found = found;
  after = after;
  answer = [];
}

abbrev pub stage : List ℕ
stage = codes "stage"

abbrev pub stores : Process → List ℕ → Shown
stores p word = row p family.Store word (codes "0") (codes "1")

abbrev pub loads : Process → List ℕ → Shown
loads p word = row p family.Look word (codes "1") (codes "1")

-- a compare_exchange of the stage that found 1, and left this
abbrev pub exchanges : Process → List ℕ → Shown
exchanges p after = row p family.Exchange stage (codes "1") after

-- one arrow, to this place; and none
abbrev pub only : ℕ → Found → ℕ → Option Found
only to source place = if place == to then Some source else None

abbrev pub none : ℕ → Option Found
none place = None

-- the row of this place, which is this process's
abbrev pub at : ℕ → Process → Found
at place p = record { place = place; process = p }

pub record ArrowsRefuse : Type 0 where
  -- from an older store of the word than the latest
  pub older : ¬ AreArrows
      (stores (Sender 0) stage ∷ stores (Sender 1) stage ∷ loads (Receiver 0) stage ∷ [])
      (only 2 (at 0 (Sender 0)))
  -- over a later store of the process that loads
  pub over_its_own : ¬ AreArrows
      (stores (Sender 0) stage ∷ stores (Sender 1) stage ∷ loads (Sender 1) stage ∷ [])
      (only 2 (at 0 (Sender 0)))
  -- within one process
  pub within : ¬ AreArrows (stores (Sender 0) stage ∷ loads (Sender 0) stage ∷ [])
      (only 1 (at 0 (Sender 0)))
  -- none, though another process stored the word last
  pub missing : ¬ AreArrows (stores (Sender 0) stage ∷ loads (Sender 1) stage ∷ []) none
  -- to a store
  pub to_a_store : ¬ AreArrows (stores (Sender 0) stage ∷ stores (Sender 1) stage ∷ [])
      (only 1 (at 0 (Sender 0)))
  -- to a compare_exchange that left a value of its own
  pub to_an_exchange : ¬ AreArrows (stores (Sender 0) stage ∷ exchanges (Sender 1) (codes "2") ∷ [])
      (only 1 (at 0 (Sender 0)))
  -- from a load
  pub from_a_load : ¬ AreArrows (loads (Sender 0) stage ∷ loads (Sender 1) stage ∷ [])
      (only 1 (at 0 (Sender 0)))
  -- from a compare_exchange that left what it found
  pub from_no_exchange : ¬ AreArrows
      (exchanges (Sender 0) (codes "1") ∷ loads (Sender 1) stage ∷ []) (only 1 (at 0 (Sender 0)))
  -- from a store of another word
  pub other_word : ¬ AreArrows (stores (Sender 0) (codes "length") ∷ loads (Sender 1) stage ∷ [])
      (only 1 (at 0 (Sender 0)))
  -- from a store below the load
  pub upwards : ¬ AreArrows (loads (Sender 1) stage ∷ stores (Sender 0) stage ∷ [])
      (only 0 (at 1 (Sender 0)))
  -- from the column of a process that did not store
  pub other_column : ¬ AreArrows (stores (Sender 0) stage ∷ loads (Sender 1) stage ∷ [])
      (only 1 (at 0 (Receiver 0)))

-- ---- a line that is left out
-- a first line, and a line of a sender that no bus has
abbrev pub unread_text : List ℕ
unread_text =
    codes "number"
    ++ 10
    ∷ join_with_byte 9 (codes "1" ∷ codes "2" ∷ codes "sender 64" ∷ codes "-" ∷ codes "put"
    ∷ codes "-" ∷ codes "-" ∷ codes "-" ∷ codes "number 0" ∷ [])
