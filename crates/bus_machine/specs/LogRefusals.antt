-- What is promised of no machine by what was published and what its cells show; and with which
-- cells a frame does not stand that has just been published.
use Rattle.std.specs.Prelude.{◌≡◌, ◌≢◌, ℕ, ◌+◌, ◌%◌, ◌<◌, ◌≤◌, true, false, Some, List, ◌∷◌, ◌++◌}
use Rattle.std.specs.Prelude.{length, map, slice_get, slice_index}
use Rattle.bus_batch.specs.Frames.{Frame, Order, Spells, AreFrames, frame_words, log_words}
use Rattle.bus_core.specs.Senders.{Sender}
use Rattle.bus_deliverylog.specs.Orders.{of_sender}
use Rattle.bus_deliverylog.specs.Receiving.{Receiving}
use Rattle.bus_register.specs.declared.limits.TheConstants.{PASSED_ALL}
use Rattle.bus_register.specs.declared.registers.SenderNo.{SenderNo}
use Rattle.bus_tenure.specs.Core.{Election}
use Rattle.bus_tenure.specs.declared.pages.Page.{Page}
use Rattle.bus_world.specs.Headline.{puts}
use Rattle.bus_world.specs.Waiting.{waiting_at}
use Rattle.bus_machine.specs.Machine.{Machine, Trails, ShowsLog, ShowsPublished, floor_of, log_of}
use Rattle.bus_machine.specs.Machine.{log_place, passed_by}
use Rattle.bus_machine.specs.Promise.{IsPageOf, IsPromised}

pub record LogsRefuse {E : Type 0} (X : Election E) (m : Machine E) (T : Trails) : Type 0 where
  -- the cells show other words than were published
  pub other_words : ¬ ShowsLog m T.log → ¬ IsPromised X m T
  -- a word is lost from the floor of a page on, at home or held, be it before the least passed
  -- place
  pub lost_behind_a_floor : (page : Page) (place : ℕ) → IsPageOf m page → page.floor ≤ place
      → place < length T.log
      → slice_index m.words (log_place m.layout m.reuse + place % m.layout.capacity)
      ≢ slice_index T.log place
      → ¬ IsPromised X m T
  -- a log of which no word is used again has wrapped: a word below the length, read straight, is
  -- not the one that was published there
  pub wrapped : (place : ℕ) → m.layout.passers ≡ 0 → place < length T.log
      → slice_index m.words (log_place m.layout m.reuse + place) ≢ slice_index T.log place
      → ¬ IsPromised X m T
  -- the floor is within a frame, so that words of its messages could be read as frames
  pub floor_within_a_frame : (front rest : List Frame) (f : Frame)
      → AreFrames m.layout.senders (front ++ f ∷ rest) → log_words (front ++ f ∷ rest) ≡ T.log
      → length (log_words front) < floor_of m
      → floor_of m < length (log_words front) + length (frame_words f) → ¬ IsPromised X m T
  -- the floor is past the place of a receiver that has not left, so that a word that it is still to
  -- hear may be lost: the passed places are ahead of it
  pub passed_ahead : (r : ℕ) (v : Receiving) → slice_get m.receivers r ≡ Some v → v.gone ≡ false
      → v.place < floor_of m → ¬ IsPromised X m T
  -- a receiver stores the place that it has passed elsewhere than the layout has it, or nowhere
  pub passed_elsewhere : (r : ℕ) (v : Receiving) → slice_get m.receivers r ≡ Some v
      → v.passed_at ≢ passed_by m.layout m.reuse r → ¬ IsPromised X m T
  -- its passed place shows another number than the place that it has passed
  pub passed_otherwise : (r : ℕ) (v : Receiving) (place : ℕ) → slice_get m.receivers r ≡ Some v
      → passed_by m.layout m.reuse r ≡ Some place → v.gone ≡ false
      → slice_index m.words place ≢ v.passed
      → ¬ IsPromised X m T
  -- the passed place of one that has not left shows a place that it has not come to, so that words
  -- could be lost that it is still to hear
  pub passed_unheard : (r : ℕ) (v : Receiving) (at : ℕ) → slice_get m.receivers r ≡ Some v
      → passed_by m.layout m.reuse r ≡ Some at → v.gone ≡ false
      → v.place < slice_index m.words at
      → ¬ IsPromised X m T
  -- it shows one within a frame, so that a floor could come to be there
  pub passed_within : (r : ℕ) (v : Receiving) (at : ℕ) → slice_get m.receivers r ≡ Some v
      → passed_by m.layout m.reuse r ≡ Some at → v.gone ≡ false
      → (front rest : List Frame) (f : Frame)
      → AreFrames m.layout.senders (front ++ f ∷ rest) → log_words (front ++ f ∷ rest) ≡ T.log
      → length (log_words front) < slice_index m.words at
      → slice_index m.words at < length (log_words front) + length (frame_words f)
      → ¬ IsPromised X m T
  -- it has left, and its passed place shows a place still, so that a floor could wait for it
  pub left_unshown : (r : ℕ) (v : Receiving) (place : ℕ) → slice_get m.receivers r ≡ Some v
      → passed_by m.layout m.reuse r ≡ Some place → v.gone ≡ true
      → slice_index m.words place ≢ PASSED_ALL
      → ¬ IsPromised X m T
  -- a message was dropped or added: what its sender has put is not what was published of it, and
  -- then what waits
  pub dropped : (s : ℕ) (v : Sender E) (order : Order) (owners : List (ℕ × SenderNo))
      → slice_get m.senders s ≡ Some v
      → Spells m.layout.senders T.log order owners
      → puts (T.actions s)
      ≢ map (λ i. i.message) (of_sender s order) ++ waiting_at v.core v.core.phase
      → ¬ IsPromised X m T
  -- the length was stored before the words: the first word that stands is zero
  pub length_before_words : (rest : List ℕ) → log_of m ≡ 0 ∷ rest → ¬ IsPromised X m T

-- No frame stands in its cells, behind what was published before:
pub record PublishedRefuse {E : Type 0} (m : Machine E) (before : List ℕ) (f : Frame) :
    Type 0 where
  -- the length was stored over a cell that holds another word than the frame has there
  pub other_word : (place : ℕ) → place < length (frame_words f)
      → slice_index m.words
      (log_place m.layout m.reuse + (length before + place) % m.layout.capacity)
      ≢ slice_index (frame_words f) place
      → ¬ ShowsPublished m before (before ++ frame_words f)
  -- the length lacks the frame's last word, or counts a word more
  pub other_length : slice_index m.words 0 ≢ length before + length (frame_words f)
      → ¬ ShowsPublished m before (before ++ frame_words f)
  -- the length was stored, and nothing was published
  pub nothing : length before < slice_index m.words 0 → ¬ ShowsPublished m before before
  -- the length has fallen
  pub fallen : slice_index m.words 0 < length before → ¬ ShowsPublished m before before
  -- what was published before has changed
  pub other_before : (front : List ℕ) → length front ≡ length before → front ≢ before
      → ¬ ShowsPublished m before (front ++ frame_words f)
