-- The words of one message, read together.
use Rattle.std.specs.Prelude.{◌≡◌, ℕ, ◌+◌, ◌-◌, ◌*◌, ◌^◌, ◌<◌, ◌≤◌, List, [], ◌∷◌, ◌++◌, length}
use Rattle.std.specs.Prelude.{flat_map, Option, None}
use Rattle.std.specs.Int.{w64, to_be_bytes}
use Rattle.bus_register.specs.declared.limits.TheConstants.{MOST_BYTES, MOST_MESSAGE_WORDS}
use Rattle.bus_batch.specs.declared.messages.Item.{Item}
use Rattle.bus_batch.specs.declared.messages.Piece.{Piece}
use Rattle.bus_batch.specs.declared.readers.Place.TheVariants.{Body, Data}
use Rattle.bus_batch.specs.declared.readers.Span.{Span}
use Rattle.bus_batch.specs.Frames.{GivesPieceOf, IsBadWordOf, data_len}
use Rattle.bus_batch.specs.Reading.{Reading, HasReadOf}

-- a message with bytes in its place: the frame has words enough for it, and what is left of it then
-- can be filled
pub record IsSpan (r : Reading) (span : Span) : Type 0 where
  pub at : r.place ≡ Body span.owner span.left span.room
  pub bytes : r.bytes ≡ []
  pub words : span.words ≡ data_len span.len
  pub some : 0 < span.len
  pub most : span.len ≤ MOST_BYTES
  pub room : (1 ≤ span.room) × (span.room ≤ r.most)
  pub enough : 1 + span.words ≤ span.left
  pub fillable : span.left - (1 + span.words) ≤ MOST_MESSAGE_WORDS * (span.room - 1)

-- where a reader stands that has read the message's own word, and these words of its bytes
abbrev pub midway : Reading → Span → List ℕ → Reading
midway r span taken = record r {
  place = Data span.owner (span.left - (1 + length taken)) (span.room - 1) span.number span.len;
  bytes = flat_map (to_be_bytes w64) taken;
}

-- whatever was read before, a word gives this piece, and leads from one reader to the other
abbrev pub LeadsOn : Reading → ℕ → Option Piece → Reading → Type 0
LeadsOn old word found new =
    (most : ℕ) (words : List ℕ) (pieces : List (Option Piece))
    → HasReadOf most old.senders words pieces old
    → GivesPieceOf most old.senders words word found
    × HasReadOf most old.senders (words ++ word ∷ []) (pieces ++ found ∷ []) new

-- and no log goes on with it
abbrev pub Stops : Reading → ℕ → Type 0
Stops old word =
    (most : ℕ) (words : List ℕ) (pieces : List (Option Piece))
    → HasReadOf most old.senders words pieces old → IsBadWordOf most old.senders words word

-- any word of the message's bytes but the last says nothing by itself
abbrev pub GoesOnWithin : Reading → Span → Type 0
GoesOnWithin r span =
    (taken : List ℕ) (word : ℕ) → word < 2 ^ 64 → length taken + 1 < span.words
    → LeadsOn (midway r span taken) word None (midway r span (taken ++ word ∷ []))

-- an item holds the bytes of all words of a message's bytes, the last of them this
pub record HasBytes (span : Span) (taken : List ℕ) (last : ℕ) (item : Item) : Type 0 where
  pub all : length taken + 1 ≡ span.words
  pub are : item.message ≡ flat_map (to_be_bytes w64) taken ++ to_be_bytes w64 last
