-- The arrows of a picture: to a load, from the latest step above it that stored its word, added to
-- it or exchanged it, where that is another process's.
use Rattle.std.specs.Prelude.{◌≡◌, ◌≢◌, ◌<◌, ◌↔◌, ℕ, List, Option, Some, IsTrue, slice_get}
use Rattle.bus_picture.specs.declared.finding.Found.{Found}
use Rattle.bus_picture.specs.Rows.{Shown, reads, writes}

-- of the rows above this place, the latest that stored this word, added to it or exchanged it
pub record IsLatestStore (rows : List Shown) (word : List ℕ) (to : ℕ) (source : Found) :
    Type 0 where
  pub store : Shown
  pub stands : slice_get rows source.place ≡ Some store
  pub whose : source.process ≡ store.process
  pub above : source.place < to
  pub stores : IsTrue (writes store)
  pub there : store.word ≡ word
  -- no row between did so
  pub latest : (place : ℕ) (row : Shown) → source.place < place → place < to
      → slice_get rows place ≡ Some row → IsTrue (writes row) → row.word ≢ word

-- an arrow that a picture has, from this step to the row of this place
pub record IsArrow (rows : List Shown) (source : Found) (to : ℕ) : Type 0 where
  pub load : Shown
  pub stands : slice_get rows to ≡ Some load
  pub loads : IsTrue (reads load)
  pub latest : IsLatestStore rows load.word to source
  pub other : source.process ≢ load.process

-- These are all arrows: of each place the step that an arrow comes from, if the row there has one.
abbrev pub AreArrows : List Shown → (ℕ → Option Found) → Type 0
AreArrows rows arrows =
    (to : ℕ) (source : Found) → (arrows to ≡ Some source) ↔ IsArrow rows source to
