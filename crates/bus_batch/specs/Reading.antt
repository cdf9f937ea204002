-- Where a reader of frames stands.
use Rattle.std.specs.Prelude.{◌≡◌, ◌≢◌, ℕ, suc, ◌+◌, ◌-◌, ◌*◌, ◌%◌, ◌<◌, ◌≤◌, List, [], ◌∷◌, ◌++◌}
use Rattle.std.specs.Prelude.{length, flat_map, All, ◌⊎◌, Option, Some, Bool, true, false}
use Rattle.std.specs.Prelude.{slice_get, ◌↔◌}
use Rattle.std.specs.List.{list_any}
use Rattle.bus_register.specs.declared.limits.TheConstants.{MOST_MESSAGES, MOST_BYTES}
use Rattle.bus_register.specs.declared.limits.TheConstants.{MOST_MESSAGE_WORDS}
use Rattle.bus_register.specs.declared.registers.SenderNo.{SenderNo}
use Rattle.bus_batch.specs.declared.messages.Mark.TheVariants as mark
use Rattle.bus_batch.specs.declared.messages.Piece.{Piece}
use Rattle.bus_batch.specs.declared.messages.Piece.TheVariants as piece
use Rattle.bus_batch.specs.declared.readers.Place.{Place}
use Rattle.bus_batch.specs.declared.readers.Place.TheVariants.{Between, Body, Data, Ended, Bad}
use Rattle.bus_batch.specs.Messages.{Numbered, IsNumbered}
use Rattle.bus_batch.specs.Frames.{Frame, AreFramesOf, AreFramesFromOf, IsLogOf, data_len}
use Rattle.bus_batch.specs.Frames.{words_of_bytes}
use Rattle.bus_batch.specs.Frames.{message_words, message_pieces, item_pieces, end_word, mark_word}
use Rattle.bus_batch.specs.Frames.{log_words, log_pieces, is_end}

-- what a reader knows: how many senders there are, how many messages a frame may have, the least
-- tenure that the next frame may have, who has left, by number, its place in the log, and the bytes
-- that it has of an unfinished message
pub record Reading : Type 0 where
  pub senders : ℕ
  pub most : ℕ
  pub least : ℕ
  pub left : List Bool
  pub place : Place
  pub bytes : List ℕ

-- the frames of a log that may come next: none of one who has left
abbrev pub MayFollow : ℕ → ℕ → ℕ → List Bool → List Frame → Type 0
MayFollow most senders least gone frames =
    AreFramesFromOf most senders least frames
    × All (λ f. slice_get gone f.owner.0 ≡ Some false) frames

-- messages of so many words, at most room of them, and then the frames of a log: the words of
-- these, and their pieces
pub record Fills (most senders least : ℕ) (gone : List Bool) (owner : SenderNo) (left room : ℕ)
    (rest : List ℕ) (pieces : List (Option Piece)) : Type 0 where
  pub messages : List Numbered
  pub few : length messages ≤ room
  pub each : All IsNumbered messages
  pub long : length (flat_map message_words messages) ≡ left
  pub frames : List Frame
  pub lawful : MayFollow most senders least gone frames
  pub words_are : rest ≡ flat_map message_words messages ++ log_words frames
  pub pieces_are : pieces ≡ flat_map (message_pieces owner) messages ++ log_pieces frames

-- the rest of a message of len bytes that has some already, and then what fills the frame
pub
    record Completes (most senders least : ℕ) (gone : List Bool) (owner : SenderNo)
    (left room number len : ℕ) (bytes rest : List ℕ) (pieces : List (Option Piece)) : Type 0 where
  pub more : List ℕ
  pub together : length bytes + length more ≡ len
  pub each : All (λ byte. byte < 256) more
  -- one less than the words of the message that are left
  pub n : ℕ
  pub n_is : data_len (length more) ≡ suc n
  pub rest_after : List ℕ
  pub pieces_after : List (Option Piece)
  pub fills : Fills most senders least gone owner (left - suc n) room rest_after pieces_after
  pub within : suc n ≤ left
  pub words_are : rest ≡ words_of_bytes (suc n) more ++ rest_after
  pub pieces_are : pieces
      ≡ item_pieces n (record { sender = owner; number = number; message = bytes ++ more })
      ++ pieces_after

-- the end word, and then nothing
pub record EndsAll (most left room : ℕ) (rest : List ℕ) (pieces : List (Option Piece)) :
    Type 0 where
  pub alone : left ≡ 1
  pub fresh : room ≡ most
  pub words_are : rest ≡ end_word ∷ []
  pub pieces_are : pieces ≡ Some piece.End ∷ []

-- the leave word, and then the frames of a log, none of them of this owner
pub record LeavesNext (most senders least : ℕ) (gone : List Bool) (owner : SenderNo)
    (left room : ℕ) (rest : List ℕ) (pieces : List (Option Piece)) : Type 0 where
  pub alone : left ≡ 1
  pub fresh : room ≡ most
  pub frames : List Frame
  pub lawful : MayFollow most senders least gone frames
  pub others : All (λ f. f.owner ≢ owner) frames
  pub words_are : rest ≡ mark_word mark.Leave ∷ log_words frames
  pub pieces_are : pieces ≡ Some (piece.Leave owner) ∷ log_pieces frames

-- the rest of a log, and its pieces, that may follow where a reader stands
abbrev pub Awaits : Reading → List ℕ → List (Option Piece) → Type 0
Awaits reader rest pieces = at reader.place
  where
    at : Place → Type 0
    at Between = (frames : List Frame)
        × MayFollow reader.most reader.senders reader.least reader.left frames
        × (rest ≡ log_words frames) × (pieces ≡ log_pieces frames)
    at (Body owner left room) =
        Fills reader.most reader.senders reader.least reader.left owner left room rest pieces
        ⊎ EndsAll reader.most left room rest pieces
        ⊎ LeavesNext reader.most reader.senders reader.least reader.left owner left room rest pieces
    at (Data owner left room number len) =
        Completes reader.most reader.senders reader.least reader.left owner left room number len
        reader.bytes rest pieces
    at Ended = (rest ≡ []) × (pieces ≡ [])
    at Bad = ⊥

-- what the numbers of a reader always keep: the words that are left can be filled, and no more
-- messages than a frame may have
abbrev pub IsSound : ℕ → Place → List ℕ → Type 0
IsSound most Between bytes = bytes ≡ []
IsSound most (Body owner left room) bytes =
    (bytes ≡ []) × (1 ≤ left) × (left ≤ MOST_MESSAGE_WORDS * room) × (room ≤ most)
IsSound most (Data owner left room number len) bytes =
    (length bytes < len) × (len ≤ MOST_BYTES) × (data_len (len - length bytes) ≤ left)
    × (left ≤ data_len (len - length bytes) + MOST_MESSAGE_WORDS * room) × (room < most)
    × (length bytes % 8 ≡ 0)
IsSound most Ended bytes = Unit {0}
IsSound most Bad bytes = Unit {0}

-- The reader has read these words, which gave these pieces: what can follow them in a log, and
-- give, is exactly what it awaits. Where it stands is said by itself, since at a frame of which
-- nothing is left, or at an end that nobody wrote, it would await the same as between frames.
pub record HasReadOf (most senders : ℕ) (words : List ℕ) (pieces : List (Option Piece))
    (reader : Reading) : Type 0 where
  pub limit : reader.most ≡ most
  pub many : length pieces ≡ length words
  pub leads : (rest : List ℕ) (further : List (Option Piece)) → Awaits reader rest further
      → (frames : List Frame) × AreFramesOf most senders frames × (log_words frames ≡ words ++ rest)
      × (log_pieces frames ≡ pieces ++ further)
  pub covers : (frames : List Frame) (rest : List ℕ) → AreFramesOf most senders frames
      → log_words frames ≡ words ++ rest
      → (further : List (Option Piece)) × Awaits reader rest further
      × (log_pieces frames ≡ pieces ++ further)
  pub begins : (rest : List ℕ) × (further : List (Option Piece)) × Awaits reader rest further
  -- in a frame only where some of it is left
  pub sound : IsSound reader.most reader.place reader.bytes
  -- at the end exactly where the end was among what they gave
  pub ended : (reader.place ≡ Ended) ↔ (list_any is_end pieces ≡ true)

abbrev pub HasRead : ℕ → List ℕ → List (Option Piece) → Reading → Type 0
HasRead senders words pieces reader = HasReadOf MOST_MESSAGES senders words pieces reader

-- no frame is under way where a reader stands: the next word is a head
abbrev pub is_between : Place → Bool
is_between Between = true
is_between (Body owner left room) = false
is_between (Data owner left room number len) = false
is_between Ended = false
is_between Bad = false

-- how many words are left of its frame, where the next is a message's or a mark
abbrev pub words_left : Place → ℕ
words_left Between = 0
words_left (Body owner left room) = left
words_left (Data owner left room number len) = 0
words_left Ended = 0
words_left Bad = 0

-- words that are no log, or gave the end
abbrev pub IsTornOrEndedOf : ℕ → ℕ → List ℕ → List (Option Piece) → Type 0
IsTornOrEndedOf most senders words pieces =
    (¬ IsLogOf most senders words) ⊎ (list_any is_end pieces ≡ true)

abbrev pub IsTornOrEnded : ℕ → List ℕ → List (Option Piece) → Type 0
IsTornOrEnded senders words pieces = IsTornOrEndedOf MOST_MESSAGES senders words pieces

-- the reader has met a bad word, and stays so
abbrev pub HasMetBadWord : Reading → Type 0
HasMetBadWord reader = reader.place ≡ Bad
