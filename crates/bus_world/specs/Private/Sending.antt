-- What words, the page, senders and owners keep: they fit one list of frames.
use Rattle.std.specs.Prelude.{◌≡◌, ℕ, ◌+◌, ◌*◌, ◌<◌, ◌≤◌, true, false, Option, Some, None, List}
use Rattle.std.specs.Prelude.{[], ◌∷◌, ◌++◌, length, take, is_some, slice_get, All}
use Rattle.bus_register.specs.Tables.{of_some}
use Rattle.bus_register.specs.Protocol.{Protocol}
use Rattle.bus_batch.specs.Batches.{Pending, IsKept, HasSomething, frame_of}
use Rattle.bus_batch.specs.declared.batches.Phase.TheVariants.{Closed}
use Rattle.bus_batch.specs.Frames.{Frame, frame_words, order_of, has_gone, AreFrames, log_words}
use Rattle.bus_batch.specs.Frames.{items_of}
use Rattle.bus_tenure.specs.Core.{Core, Layout, log_at, frame_len}
use Rattle.bus_tenure.specs.declared.pages.Page.{Page}
use Rattle.bus_tenure.specs.declared.phases.Phase.{Phase}
use Rattle.bus_tenure.specs.declared.phases.Phase.TheVariants as phase
use Rattle.bus_world.specs.Log.{words_read_from, AreCounted, next_number, first_numbers}
use Rattle.bus_world.specs.Log.{KeepsFloor, Knows}
use Rattle.bus_world.specs.Private.Tenures.{Standing, Tenures}
use Rattle.bus_world.specs.Private.Tenures.Standing.{Rests, Runs, Holds}
use Rattle.bus_deliverylog.specs.Orders.{of_sender}

-- frames of tenures below this one
abbrev pub AreEarlier : ℕ → List Frame → Type 0
AreEarlier tenure [] = Unit {0}
AreEarlier tenure (f ∷ frames) = (f.tenure < tenure) × AreEarlier tenure frames

-- the words below the length are frames, none of more messages than a batch may have, which fit
-- the log where no word of it is used again; and each sender's numbers count from its base, which
-- leaves room for a whole sitting
pub record Logged (base : ℕ → ℕ) (x : Layout) (words : ℕ → ℕ) (len : ℕ) (frames : List Frame) :
    Type 0 where
  pub lawful : AreFrames x.senders frames
  pub few : All (λ f. length (items_of f) ≤ x.batch) frames
  pub words_are : words_read_from words (log_at x) len ≡ log_words frames
  pub fits : x.passers ≡ 0 → len ≤ x.capacity
  pub low : (s : ℕ) → base s < first_numbers x.passers x.batch
  pub counted : (s : ℕ) → AreCounted (base s) (of_sender s (order_of frames))

-- what a sender stands in, as far as tenures go
abbrev pub stands_at : {E : Type 0} → Phase E → Standing E
stands_at phase.Resting = Rests
stands_at (phase.Electing t e) = Runs t e
stands_at (phase.Taken t) = Holds t
stands_at (phase.Holding t page stored published) = Holds t
stands_at (phase.Giving t reason) = Holds t

abbrev pub standing_of : {E : Type 0} → Core E → Option (Standing E)
standing_of c = Some (stands_at c.phase)

abbrev pub least_of : {E : Type 0} → Option (Core E) → ℕ
least_of None = 0
least_of (Some c) = c.least

-- the sender's next message follows its items in these frames; and where it has left in them its
-- batch is closed, and no message waits
abbrev pub GoesOn : {E : Type 0} → (ℕ → ℕ) → List Frame → Core E → Type 0
GoesOn base frames c =
    (c.queue.first ≡ next_number base c.me frames)
    × (has_gone c.me (order_of frames) ≡ true → (c.queue.phase ≡ Closed) × (c.queue.messages ≡ []))

-- the frame of a holder is not published: the words that it has stored stand past the length
pub record IsWriting {E : Type 0} (base : ℕ → ℕ) (words : ℕ → ℕ) (frames : List Frame) (c : Core E)
    (t : ℕ) (page : Page) (stored : ℕ) : Type 0 where
  pub goes_on : GoesOn base frames c
  pub page_knows : Knows base page frames t (words 0)
  pub earlier : AreEarlier t frames
  pub stored_below : stored ≤ frame_len c
  -- where no word of the log is used again
  pub flat : c.layout.passers ≡ 0 → KeepsFloor page
  pub allowed : 0 < stored
      → (page.ended ≡ false) × (page.words + frame_len c ≤ c.layout.capacity + page.floor)
  pub words_are : words_read_from words (log_at c.layout + words 0) stored
      ≡ take stored (frame_words (frame_of c.queue t))

-- it is published: it is the last frame, and the page does not know it yet
pub record HasWritten {E : Type 0} (base : ℕ → ℕ) (words : ℕ → ℕ) (frames : List Frame) (c : Core E)
    (t : ℕ) (page : Page) : Type 0 where
  pub front : List Frame
  pub frames_are : frames ≡ front ++ frame_of c.queue t ∷ []
  pub goes_on : GoesOn base front c
  pub page_knows : Knows base page front t page.words
  -- as above
  pub flat : c.layout.passers ≡ 0 → KeepsFloor page
  pub earlier : AreEarlier t front
  pub is_open : page.ended ≡ false
  pub len_is : words 0 ≡ page.words + frame_len c

pub record HasBegun (q : Pending) : Type 0 where
  pub busy : q.busy ≡ true
  pub is_open : q.phase ≡ Closed → ⊥
  pub something : HasSomething q

abbrev pub Fits : {E : Type 0} → (ℕ → ℕ) → (ℕ → ℕ) → List Frame → Core E → Phase E → Type 0
Fits base words frames c phase.Resting = (c.queue.busy ≡ false) × GoesOn base frames c
Fits base words frames c (phase.Electing t e) = HasBegun c.queue × GoesOn base frames c
-- between events no page is under way
Fits base words frames c (phase.Taken t) = ⊥
Fits base words frames c (phase.Holding t page stored false) =
    HasBegun c.queue × IsWriting base words frames c t page stored
Fits base words frames c (phase.Holding t page stored true) =
    HasBegun c.queue × HasWritten base words frames c t page
Fits base words frames c (phase.Giving t reason) = ⊥

-- one sender's part
pub record Part {E : Type 0} (base : ℕ → ℕ) (x : Layout) (words : ℕ → ℕ) (frames : List Frame)
    (p : ℕ) (c : Core E) : Type 0 where
  pub layout : c.layout ≡ x
  pub me : c.me ≡ p
  pub below : p < x.senders
  pub sender : c.queue.sender.0 ≡ p
  pub limit : c.queue.limit ≡ x.batch
  pub queue : IsKept c.queue
  pub fits : Fits base words frames c c.phase

-- each frame's owner took the page of its tenure
abbrev pub AreOwned : List ℕ → List Frame → Type 0
AreOwned owners [] = Unit {0}
AreOwned owners (f ∷ frames) = (slice_get owners f.tenure ≡ Some f.owner.0) × AreOwned owners frames

-- what senders, words, page and owners always keep
pub record Sending {E : Type 0} (base : ℕ → ℕ) (P : Protocol E (Unit {0}) ℕ) (x : Layout)
    (words : ℕ → ℕ) (home : Option Page) (senders : ℕ → Option (Core E)) (owners : List ℕ)
    (frames : List Frame) : Type 0 where
  pub tenures : Tenures P x.senders x.rows 2 words (words 1) (is_some home)
      (λ p. of_some standing_of (senders p)) (λ p. least_of (senders p)) owners
  pub log : Logged base x words (words 0) frames
  pub owned : AreOwned owners frames
  -- a page at home knows the frames, all of which are of tenures that have ended
  pub page_knows : (page : Page) (t : ℕ) → home ≡ Some page → words 1 ≡ 2 * t
      → Knows base page frames t (words 0) × AreEarlier t frames
  -- where no word of the log is used again
  pub flat_home : x.passers ≡ 0 → (page : Page) → home ≡ Some page → KeepsFloor page
  pub parts : (p : ℕ) (c : Core E) → senders p ≡ Some c → Part base x words frames p c
  -- who stays in an election that has an owner is that owner
  pub chosen : (p : ℕ) (c : Core E) (t : ℕ) (e : E) (o : ℕ) → senders p ≡ Some c
      → c.phase ≡ phase.Electing t e → P.output e ≡ Some o → o ≡ p
