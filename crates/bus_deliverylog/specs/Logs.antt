-- What a reading of a whole log answers.
use Rattle.std.specs.Prelude.{◌≡◌, ℕ, ◌<◌, Option, List, length, take, slice_index, ◌+◌}
use Rattle.bus_register.specs.declared.limits.TheConstants.{MOST_MESSAGES}
use Rattle.bus_register.specs.declared.registers.SenderNo.{SenderNo}
use Rattle.bus_batch.specs.declared.messages.Piece.{Piece}
use Rattle.bus_batch.specs.Frames.{Order, IsLogOf, BeginsLog, BeginsLogOf, IsBadWordOf, order_in}
use Rattle.bus_batch.specs.Frames.{owners_in}
use Rattle.bus_batch.specs.Reading.{Reading, HasRead}

-- the word at a place is the first bad one of a log whose frames have so many messages at most: the
-- words before it begin such a log
pub record IsFirstBadOf (most senders : ℕ) (words : List ℕ) (place : ℕ) : Type 0 where
  pub below : place < length words
  pub good : BeginsLogOf most senders (take place words)
  pub bad : IsBadWordOf most senders (take place words) (slice_index words place)

-- no word is bad, and the words end within a frame
pub record IsTornOf (most senders : ℕ) (words : List ℕ) : Type 0 where
  pub good : BeginsLogOf most senders words
  pub unfinished : ¬ IsLogOf most senders words

-- the same with as many messages as any frame may have
abbrev pub IsFirstBad : ℕ → List ℕ → ℕ → Type 0
IsFirstBad senders words place = IsFirstBadOf MOST_MESSAGES senders words place

abbrev pub IsTorn : ℕ → List ℕ → Type 0
IsTorn senders words = IsTornOf MOST_MESSAGES senders words

-- memory was refused at a word that was not bad, and no word before it was
pub record StopsAtGood (senders : ℕ) (words : List ℕ) : Type 0 where
  pub place : ℕ
  pub below : place < length words
  pub good : BeginsLog senders (take (place + 1) words)

-- the words gave, one after another, the entries of an order, its end mark, and the tenures and
-- owners of frames
pub record HasGiven (senders : ℕ) (words : List ℕ) (order : Order) (owners : List (ℕ × SenderNo)) :
    Type 0 where
  pub pieces : List (Option Piece)
  pub reader : Reading
  pub read : HasRead senders words pieces reader
  pub order_is : order ≡ order_in pieces
  pub owners_are : owners ≡ owners_in pieces

-- a reader has read these words, and what was noted is what their pieces say
pub record Reads (senders : ℕ) (words : List ℕ) (reader : Reading) (order : Order)
    (owners : List (ℕ × SenderNo)) : Type 0 where
  pub pieces : List (Option Piece)
  pub senders_are : reader.senders ≡ senders
  pub had : HasRead reader.senders words pieces reader
  pub order_is : order ≡ order_in pieces
  pub owners_are : owners ≡ owners_in pieces
