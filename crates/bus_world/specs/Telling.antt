-- What the answer to a turn tells of what happened.
use Rattle.std.specs.Prelude.{◌≡◌, ℕ, ◌+◌, ◌<◌, List, [], ◌∷◌, ◌++◌, length}
use Rattle.bus_batch.specs.declared.messages.Mark.TheVariants as mark
use Rattle.bus_batch.specs.Frames.{Frame, Marked, AreFrames, log_words, items_of}
use Rattle.bus_world.specs.Log.{AreCounted}

-- the last frame is that of this tenure and sender: behind all others it stands in the log, whose
-- words are those of lawful frames; and its items have the numbers from first to last
pub record HasDelivered (senders : ℕ) (words : List ℕ) (s t first last : ℕ) : Type 0 where
  pub earlier : List Frame
  pub frame : Frame
  pub lawful : AreFrames senders (earlier ++ frame ∷ [])
  pub words_are : log_words (earlier ++ frame ∷ []) ≡ words
  pub tenure : frame.tenure ≡ t
  pub owner : frame.owner.0 ≡ s
  pub some : 0 < length (items_of frame)
  pub numbers : AreCounted first (items_of frame)
  pub many : first + length (items_of frame) ≡ last + 1

-- the last frame is that of this tenure and sender: behind all others it stands in the log, whose
-- words are those of lawful frames; and it says that its sender has left
pub record HasLeft (senders : ℕ) (words : List ℕ) (s t : ℕ) : Type 0 where
  pub earlier : List Frame
  pub frame : Frame
  pub lawful : AreFrames senders (earlier ++ frame ∷ [])
  pub words_are : log_words (earlier ++ frame ∷ []) ≡ words
  pub tenure : frame.tenure ≡ t
  pub owner : frame.owner.0 ≡ s
  pub says : frame.body ≡ Marked mark.Leave
