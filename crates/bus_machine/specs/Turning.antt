-- One turn of one sender on what all share, and senders at their starts.
use Rattle.std.specs.Prelude.{◌≡◌, ℕ, ◌<◌, Option, Some, IfSome, List, length, slice_get}
use Rattle.std.specs.Prelude.{slice_index}
use Rattle.bus_batch.specs.Batches.{next_of, CanPut, CanClose}
use Rattle.bus_batch.specs.declared.messages.Mark.{Mark}
use Rattle.bus_core.specs.Keeping.{queue_of, new_sender}
use Rattle.bus_core.specs.Senders.{Sender}
use Rattle.bus_core.specs.Table.{Line}
use Rattle.bus_register.specs.Words.{register}
use Rattle.bus_tenure.specs.Core.{Layout}
use Rattle.bus_tenure.specs.declared.pages.Page.{Page}
use Rattle.bus_tenure.specs.declared.turns.Turn.{Turn as Answered}
use Rattle.bus_world.specs.Turning.{words_after, number_found, home_moved, after_step}
use Rattle.bus_machine.specs.Machine.{moved, put_in, mark_in}

-- the step of this line was taken on these words, if one was due
pub record HasStepped {E : Type 0} (l : Line E) (words : List ℕ) (word : ℕ) (told : Answered)
    (words' : List ℕ) (sender' : Sender E) : Type 0 where
  pub on_word : IfSome (l.op word) (λ o. register o < length words)
  pub words_are : words' ≡ words_after words (l.op word)
  pub sender_is : sender' ≡ l.fed (number_found (slice_index words) (l.op word)) word
  pub answer_is : told ≡ l.answer (number_found (slice_index words) (l.op word)) word

-- and the page has moved with it
pub record HasTurned {E : Type 0} (l : Line E) (words : List ℕ) (home : Option Page) (word : ℕ)
    (told : Answered) (words' : List ℕ) (home' : Option Page) (sender' : Sender E) : Type 0 where
  pub on_word : IfSome (l.op word) (λ o. register o < length words)
  pub words_are : words' ≡ words_after words (l.op word)
  pub home_is : home' ≡ home_moved l.move home
  pub sender_is : sender'
      ≡ moved (after_step l.move) home (l.fed (number_found (slice_index words) (l.op word)) word)
  pub answer_is : told ≡ l.answer (number_found (slice_index words) (l.op word)) word

-- a message was taken into the batch of a sender
pub record HasTaken {E : Type 0} (old : Sender E) (bytes : List ℕ) (number : ℕ) (new : Sender E) :
    Type 0 where
  pub can : CanPut (queue_of old.core.queue old.reuse) (length bytes)
  pub number_is : number ≡ next_of old.core.queue
  pub sender_is : new ≡ put_in old bytes

-- this mark waits at a sender
pub record HasShut {E : Type 0} (old : Sender E) (mark : Mark) (new : Sender E) : Type 0 where
  pub can : CanClose (queue_of old.core.queue old.reuse)
  pub sender_is : new ≡ mark_in old mark

-- so many senders, each at its start
pub record AreNewSenders {E : Type 0} (x : Layout) (reuse : Option ℕ) (bases : List ℕ) (many : ℕ)
    (senders : List (Sender E)) : Type 0 where
  pub many_are : length senders ≡ many
  pub each : (p : ℕ) (v : Sender E) → slice_get senders p ≡ Some v
      → (p < many) × (v ≡ new_sender x p reuse (slice_index bases p))
