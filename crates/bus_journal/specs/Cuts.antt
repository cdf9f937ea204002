-- A journal of which the first bytes are left.
use Rattle.std.specs.Prelude.{◌≡◌, ℕ, ◌≤◌, List, ◌++◌, length}
use Rattle.bus_batch.specs.Frames.{Frame}
use Rattle.bus_journal.specs.Format.{Heading, journal_bytes}

-- the longest list of first frames whose journal has no more than k bytes
pub record IsMostWithin (k : ℕ) (h : Heading) (told frames : List Frame) : Type 0 where
  pub later : List Frame
  pub first : frames ≡ told ++ later
  pub within : length (journal_bytes h told) ≤ k
  pub most : (others rest : List Frame) → frames ≡ others ++ rest
      → length (journal_bytes h others) ≤ k → (more : List Frame) × (told ≡ others ++ more)
