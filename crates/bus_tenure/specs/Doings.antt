-- What code sees of a situation.
use Rattle.std.specs.Prelude.{◌≡◌, ◌⊎◌, ℕ, zero, suc, ◌+◌, ◌<◌, ◌≤◌, Bool, List, [], length, drop}
use Rattle.std.specs.Prelude.{flat_map, slice_index}
use Rattle.bus_batch.specs.Batches.{frame_of}
use Rattle.bus_batch.specs.Frames.{frame_words, message_words}
use Rattle.bus_batch.specs.Messages.{numbered_messages}
use Rattle.bus_tenure.specs.Core.{Core, Election, frame_len}
use Rattle.bus_tenure.specs.Paging.{PageKeeps}
use Rattle.bus_tenure.specs.Situations.{Situation as Own, IsClosed, IsIdle, IsSpent, LooksAtStage}
use Rattle.bus_tenure.specs.Situations.{Elects, TakesPage, AwaitsPage, StoresWord, StoresLength}
use Rattle.bus_tenure.specs.Situations.{GivesBack, HasHanded, situation_of}
use Rattle.bus_tenure.specs.declared.pages.Page.{Page}
use Rattle.bus_tenure.specs.declared.phases.Phase.{Phase}
use Rattle.bus_tenure.specs.declared.phases.Phase.TheVariants.{Resting, Electing, Taken, Holding}
use Rattle.bus_tenure.specs.declared.phases.Phase.TheVariants.{Giving}
use Rattle.bus_tenure.specs.declared.phases.Reason.{Reason}
use Rattle.bus_tenure.specs.declared.turns.Turn.TheVariants as turn
use Rattle.bus_tenure.specs.declared.doings.Doing.{Doing}
use Rattle.bus_tenure.specs.declared.doings.Doing.TheVariants as doing

-- without the page and the election that it does it with
abbrev pub doing_of : {E : Type 0} → Own E → Doing
doing_of IsClosed = doing.Rests turn.Closed
doing_of IsIdle = doing.Rests turn.Idle
doing_of IsSpent = doing.Rests turn.Spent
doing_of LooksAtStage = doing.Looks
doing_of (Elects t e) = doing.Elects t
doing_of (TakesPage t) = doing.Takes t
doing_of (AwaitsPage t) = doing.Awaits t
doing_of (StoresWord t page stored) = doing.Word t page.words stored
doing_of (StoresLength t page stored) = doing.Length t page.words
doing_of (GivesBack t page reason) = doing.Back t reason
doing_of (HasHanded t reason) = doing.Handed t reason

-- it ends its tenure with its next step
abbrev pub Ends : Doing → ℕ → Reason → Type 0
Ends d t reason = (d ≡ doing.Back t reason) ⊎ (d ≡ doing.Handed t reason)

-- it stores a word of its frame with its next step
pub record IsWord (d : Doing) : Type 0 where
  pub tenure : ℕ
  pub words : ℕ
  pub stored : ℕ
  pub is : d ≡ doing.Word tenure words stored

-- its frame fits the log behind so many words, by the floor of the page that it holds
pub record FitsBehind {E : Type 0} (c : Core E) (words : ℕ) : Type 0 where
  pub tenure : ℕ
  pub page : Page
  pub stored : ℕ
  pub published : Bool
  pub holds : c.phase ≡ Holding tenure page stored published
  pub kept : PageKeeps page
  pub words_are : page.words ≡ words
  pub room : words + frame_len c ≤ c.layout.capacity + page.floor

-- with its next step it stores this word of its frame, behind so many words of the log and of the
-- frame
pub record StoresNext {E : Type 0} (X : Election E) (c : Core E) (tenure words stored value : ℕ) :
    Type 0 where
  pub due : doing_of (situation_of X c) ≡ doing.Word tenure words stored
  pub word : value ≡ slice_index (frame_words (frame_of c.queue tenure)) stored
  pub room : FitsBehind c words
  pub below : stored < frame_len c

-- ---- several words of a frame, one behind another
-- the words of its messages
abbrev pub words_of_messages : {E : Type 0} → Core E → List ℕ
words_of_messages c = flat_map message_words (numbered_messages c.queue.first c.queue.messages)

-- those of them that are left where so many words of the frame are stored, of which the first is
-- its head; before the head, which comes by itself, none
abbrev pub left_behind : ℕ → List ℕ → List ℕ
left_behind zero words = []
left_behind (suc n) words = drop n words

-- these are words of its frame in this tenure, behind so many of it
pub record AreWords {E : Type 0} (c : Core E) (tenure stored : ℕ) (words : List ℕ) : Type 0 where
  pub within : stored + length words ≤ frame_len c
  pub each : (n : ℕ) → n < length words
      → slice_index words n ≡ slice_index (frame_words (frame_of c.queue tenure)) (stored + n)

-- with so many words more of its frame stored
abbrev pub phase_stored : {E : Type 0} → Phase E → ℕ → Phase E
phase_stored Resting many = Resting
phase_stored (Electing t e) many = Electing t e
phase_stored (Taken t) many = Taken t
phase_stored (Holding t page stored published) many = Holding t page (stored + many) published
phase_stored (Giving t reason) many = Giving t reason

abbrev pub with_stored : {E : Type 0} → Core E → ℕ → Core E
with_stored c many = record c { phase = phase_stored c.phase many }
