-- What the words of a log are made of, one by one, and what one word does to a reader.
use Rattle.std.specs.Prelude.{◌≡◌, ℕ, ◌*◌, ◌<◌, ◌≤◌, ◌^◌, List, ◌∷◌, Option, Result, IfOk, OnErr}
use Rattle.std.specs.Prelude.{◌↔◌, true}
use Rattle.bus_register.specs.declared.limits.TheConstants.{MOST_MESSAGE_WORDS, TENURES}
use Rattle.bus_register.specs.declared.limits.TheConstants.{MOST_BYTES, NUMBERS}
use Rattle.bus_batch.specs.declared.messages.Piece.{Piece}
use Rattle.bus_batch.specs.declared.readers.BadWord.{BadWord}
use Rattle.bus_batch.specs.declared.readers.Head.{Head}
use Rattle.bus_register.specs.declared.registers.SenderNo.{SenderNo}
use Rattle.bus_batch.specs.declared.readers.Place.{Place}
use Rattle.bus_batch.specs.declared.readers.Place.TheVariants.{Between, Body, Ended}
use Rattle.bus_batch.specs.declared.readers.Length.{Length}
use Rattle.bus_batch.specs.Frames.{head_word, message_word, is_end}
use Rattle.bus_batch.specs.Reading.{Reading, Awaits}

-- a word is this head, of a frame of so many messages at most, of one of so many senders and of a
-- tenure not below least
pub record IsHead (most senders least word : ℕ) (h : Head) : Type 0 where
  pub is : word ≡ head_word h.owner.0 h.count h.tenure
  pub owner : h.owner.0 < senders
  pub owner_bits : h.owner.0 < 2 ^ 8
  pub some : 1 ≤ h.count
  pub fillable : h.count ≤ MOST_MESSAGE_WORDS * most
  pub late : least ≤ h.tenure
  pub tenure : h.tenure < TENURES

-- a word begins a message of this length and number
pub record IsMessageWord (word : ℕ) (m : Length) : Type 0 where
  pub is : word ≡ message_word m.len m.number
  pub len : m.len ≤ MOST_BYTES
  pub number : m.number < NUMBERS

-- a word that gave this piece, or nothing, has led from one reader to the other
pub record Takes (old : Reading) (word : ℕ) (found : Option Piece) (new : Reading) : Type 0 where
  pub limit : new.most ≡ old.most
  pub leads : (rest : List ℕ) (pieces : List (Option Piece)) → Awaits new rest pieces
      → Awaits old (word ∷ rest) (found ∷ pieces)
  pub covers : (rest : List ℕ) (pieces : List (Option Piece)) → Awaits old (word ∷ rest) pieces
      → (further : List (Option Piece)) × (pieces ≡ found ∷ further) × Awaits new rest further
  pub begins : (rest : List ℕ) × (pieces : List (Option Piece)) × Awaits new rest pieces
  pub ended : (new.place ≡ Ended) ↔ (is_end found ≡ true)

-- no log goes on with the word
abbrev pub Refuses : Reading → ℕ → Type 0
Refuses old word =
    (rest : List ℕ) (pieces : List (Option Piece)) → ¬ Awaits old (word ∷ rest) pieces

-- one step of a reader; a word that it refuses changes nothing
pub record Steps (old : Reading) (word : ℕ) (answer : Result (Option Piece) BadWord)
    (new : Reading) : Type 0 where
  pub good : IfOk answer (λ found. Takes old word found new)
  pub bad : OnErr answer (Refuses old word × (new ≡ old))

-- the place after a message: in the next one's place, or between frames
pub record IsAfter (owner : SenderNo) (left room : ℕ) (p : Place) : Type 0 where
  pub none : left ≡ 0 → p ≡ Between
  pub some : 0 < left → p ≡ Body owner left room
