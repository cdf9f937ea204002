-- One sender: the words of the bus that it is on, its batch, and the tenure that it has begun.
use Rattle.std.specs.Prelude.{◌≡◌, ℕ, ◌+◌, ◌*◌, ◌%◌, ◌<◌, ◌≤◌, Bool, true, false, Option, List, []}
use Rattle.std.specs.Prelude.{◌∷◌, length, nat_le, slice_set, if◌then◌else◌}
use Rattle.bus_register.specs.declared.kinds.Kind.{Kind}
use Rattle.bus_register.specs.declared.registers.Op.{Op}
use Rattle.bus_batch.specs.Batches.{Pending, next_of, frame_of}
use Rattle.bus_batch.specs.declared.batches.Phase.{Phase as BatchPhase}
use Rattle.bus_batch.specs.declared.batches.Phase.TheVariants.{Open, Marking, Closed}
use Rattle.bus_batch.specs.declared.messages.Mark.TheVariants as mark
use Rattle.bus_batch.specs.Frames.{frame_words}
use Rattle.bus_tenure.specs.declared.pages.Page.{Page}
use Rattle.bus_tenure.specs.declared.phases.Reason.{Reason}
use Rattle.bus_tenure.specs.declared.phases.Reason.TheVariants.{Sent, FoundEnd, NoRoom}
use Rattle.bus_tenure.specs.declared.phases.Phase.{Phase}

-- The words of a bus: the length, the stage, a row of so many words for each tenure, and the log.
pub record Layout : Type 0 where
  pub senders : ℕ
  pub rounds : ℕ
  pub rows : ℕ
  -- how many words a row has
  pub width : ℕ
  -- how many words the log has
  pub capacity : ℕ
  -- how many passed places there are: one for each receiver where the log is used again, else none
  pub passers : ℕ
  -- how many messages a batch has at most
  pub batch : ℕ

abbrev pub length_at : ℕ
length_at = 0

abbrev pub stage_at : ℕ
stage_at = 1

abbrev pub row_at : Layout → ℕ → ℕ
row_at x t = 2 + t * x.width

abbrev pub log_at : Layout → ℕ
log_at x = 2 + x.rows * x.width

-- the word of the log, counted from its first, in which this place lives
abbrev pub cell_of : Layout → ℕ → ℕ
cell_of x place = place % x.capacity

abbrev pub words_of : Layout → ℕ
words_of x = 2 + x.rows * x.width + x.capacity

-- what a sender holds, where E is its part in an election
pub record Core (E : Type 0) : Type 0 where
  pub layout : Layout
  pub me : ℕ
  pub queue : Pending
  -- the first tenure that it may enter
  pub least : ℕ
  pub phase : Phase E

-- what of an election a sender goes by
pub record Election (E : Type 0) : Type 0 where
  pub kind_of : E → Option Kind
  pub op : E → ℕ → Option Op
  pub fed : E → ℕ → ℕ → E
  pub owner : E → Option ℕ
  pub wants_word : E → Bool
  pub turns_left : E → ℕ
  -- of so many senders, number me, with so many rounds, over words from a place on
  pub started : ℕ → ℕ → ℕ → ℕ → E

-- a mark waits in place of messages
abbrev pub is_marking : BatchPhase → Bool
is_marking Open = false
is_marking (Marking m) = true
is_marking Closed = false

-- that is the end mark
abbrev pub is_closing : BatchPhase → Bool
is_closing Open = false
is_closing (Marking mark.End) = true
is_closing (Marking mark.Leave) = false
is_closing Closed = false

-- that is the sender's leave mark
abbrev pub is_leaving : BatchPhase → Bool
is_leaving Open = false
is_leaving (Marking mark.End) = false
is_leaving (Marking mark.Leave) = true
is_leaving Closed = false

-- nothing more is sent
abbrev pub is_closed : BatchPhase → Bool
is_closed Open = false
is_closed (Marking m) = false
is_closed Closed = true

abbrev pub is_empty : {A : Type 0} → List A → Bool
is_empty [] = true
is_empty (x ∷ xs) = false

-- the words of its frame
abbrev pub frame_len : {E : Type 0} → Core E → ℕ
frame_len c = length (frame_words (frame_of c.queue 0))

-- its frame fits the log: no word of it goes where one stands that is not below the floor
abbrev pub has_room : {E : Type 0} → Core E → Page → Bool
has_room c page = nat_le (page.words + frame_len c) (c.layout.capacity + page.floor)

-- a frame fits that ends no further behind the floor than the log is long, and no other
abbrev pub GoesByFloor : {E : Type 0} → Core E → Page → Type 0
GoesByFloor c page =
    (page.words + frame_len c ≤ c.layout.capacity + page.floor → has_room c page ≡ true)
    × (c.layout.capacity + page.floor < page.words + frame_len c → has_room c page ≡ false)

-- the page as a holder hands it on: the numbers, who left, the end mark, the tenures and the words
-- brought up to date, and the floor that it has
abbrev pub page_after : {E : Type 0} → Core E → ℕ → Page → Reason → Page
page_after c t page Sent = record {
  next = slice_set page.next c.me (next_of c.queue);
  left = if is_leaving c.queue.phase then slice_set page.left c.me true else page.left;
  ended = is_closing c.queue.phase;
  tenures = t + 1;
  words = page.words + frame_len c;
  floor = page.floor;
}
page_after c t page FoundEnd = record page { tenures = t + 1 }
page_after c t page NoRoom = record page { tenures = t + 1 }
