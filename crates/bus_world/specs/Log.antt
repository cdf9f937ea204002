-- The words of a log, the numbers of its items, and the page that knows of it.
use Rattle.std.specs.Prelude.{◌≡◌, ℕ, zero, suc, ◌+◌, ◌-◌, ◌<◌, ◌≤◌, Option, Some, None, List, []}
use Rattle.std.specs.Prelude.{◌∷◌, ◌++◌, ◌*◌, ◌%◌, length, slice_get, slice_index}
use Rattle.bus_core.specs.declared.limits.TheConstants.{PASSED_APART}
use Rattle.bus_tenure.specs.Situations.{lesser}
use Rattle.bus_register.specs.declared.limits.TheConstants.{MOST_SENDERS, NUMBERS, TENURES}
use Rattle.bus_batch.specs.declared.messages.Item.{Item}
use Rattle.bus_batch.specs.Frames.{Frame, frame_words, order_of, has_end, has_gone}
use Rattle.bus_deliverylog.specs.Orders.{of_sender}
use Rattle.bus_tenure.specs.declared.pages.Page.{Page}
use Rattle.bus_world.specs.declared.limits.TheConstants.{FIRST_NUMBERS}

-- so many words of a table, from a place on
abbrev pub words_read_from : (ℕ → ℕ) → ℕ → ℕ → List ℕ
words_read_from words at zero = []
words_read_from words at (suc k) = words_read_from words at k ++ words (at + k) ∷ []

-- so many words of a log whose words are used again, from a place on: each in its cell
abbrev pub words_in_ring : (ℕ → ℕ) → (at capacity place many : ℕ) → List ℕ
words_in_ring words at capacity place zero = []
words_in_ring words at capacity place (suc k) =
    words_in_ring words at capacity place k ++ words (at + (place + k) % capacity) ∷ []

-- the least of a length and of so many passed places, the first of which stands here
abbrev pub least_passed : (ℕ → ℕ) → (at many len : ℕ) → ℕ
least_passed words at zero len = len
least_passed words at (suc k) len =
    lesser (words (at + PASSED_APART * k)) (least_passed words at k len)

-- the place from which on all words stand: the first one, where no word is used again
abbrev pub floor_shown : (ℕ → ℕ) → (at passers len : ℕ) → ℕ
floor_shown words at zero len = 0
floor_shown words at (suc passers) len = least_passed words at (suc passers) len

-- words that agree from a place on
abbrev pub AgreeFrom : ℕ → (ℕ → ℕ) → (ℕ → ℕ) → Type 0
AgreeFrom at old new = (r : ℕ) → at ≤ r → new r ≡ old r

-- the words of a frame, where there is one
abbrev pub words_of_frame : Option Frame → List ℕ
words_of_frame None = []
words_of_frame (Some f) = frame_words f

-- how many items of a sender frames have
abbrev pub sent_count : ℕ → List Frame → ℕ
sent_count s frames = length (of_sender s (order_of frames))

-- items whose numbers count up from a first one, none skipped and none repeated
abbrev pub AreCounted : ℕ → List Item → Type 0
AreCounted first [] = Unit {0}
AreCounted first (i ∷ items) = (i.number ≡ first) × AreCounted (first + 1) items

-- the number of the next item of a sender, whose first one in these frames has the number base s
abbrev pub next_number : (ℕ → ℕ) → ℕ → List Frame → ℕ
next_number base s frames = base s + sent_count s frames

-- Below this each sender's numbers begin where words of the log are used again: a sitting has 2^40
-- tenures at most and a batch of so many messages in each, and one more may wait.
abbrev pub ring_numbers : ℕ → ℕ
ring_numbers batch = NUMBERS - batch * (TENURES + 1)

-- and in any sitting, with so many passed places, of which there are none where no word is used
-- again
abbrev pub first_numbers : (passers batch : ℕ) → ℕ
first_numbers zero batch = FIRST_NUMBERS
first_numbers (suc passers) batch = ring_numbers batch

-- no word of the log is used again, so the floor stays at its first place
abbrev pub KeepsFloor : Page → Type 0
KeepsFloor page = page.floor ≡ 0

-- the page knows the next number of each sender behind these frames, who has left in them, whether
-- they have ended, the tenures, the length; and its floor is not past that length
pub record Knows (base : ℕ → ℕ) (page : Page) (frames : List Frame) (past len : ℕ) : Type 0 where
  pub entries : length page.next ≡ MOST_SENDERS
  pub next : (s : ℕ) → s < MOST_SENDERS → slice_index page.next s ≡ next_number base s frames
  pub left : (s : ℕ) → s < MOST_SENDERS
      → slice_get page.left s ≡ Some (has_gone s (order_of frames))
  pub ended : page.ended ≡ has_end frames
  pub tenures : page.tenures ≡ past
  pub words : page.words ≡ len
  pub floor : page.floor ≤ page.words
