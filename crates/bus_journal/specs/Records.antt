-- What bytes begin with: a word, a head, a record.
use Rattle.std.specs.Prelude.{◌≡◌, ℕ, ◌+◌, ◌*◌, ◌/◌, ◌%◌, ◌<◌, ◌≤◌, ◌^◌, List, ◌∷◌, ◌++◌}
use Rattle.std.specs.Prelude.{length, drop, All, ◌⊎◌}
use Rattle.bus_journal.specs.Format.{word_bytes, record_bytes}

-- how many words of a frame stand behind its head (bus_batch says how a head is made)
abbrev pub count_of : ℕ → ℕ
count_of head = head % 2 ^ 54 / 2 ^ 40

-- A head that may begin a record, by itself: with its tag, the number of a sender, and as many
-- words as so many messages fill, eight for each at most. Its tenure may be any.
pub record IsRecordHead (senders most head : ℕ) : Type 0 where
  pub tag : head / 2 ^ 62 ≡ 1
  pub owner : head % 2 ^ 62 / 2 ^ 54 < senders
  pub some : 1 ≤ count_of head
  pub most_words : count_of head ≤ 8 * most

-- bytes begin with a head of a frame of so many words, that of the head included
pub record BeginsHead (senders most : ℕ) (bytes : List ℕ) (count : ℕ) : Type 0 where
  pub head : ℕ
  pub rest : List ℕ
  pub parts : bytes ≡ word_bytes head ++ rest
  pub may : IsRecordHead senders most head
  pub count_is : count ≡ count_of head + 1

-- words that a record may have: a head, and as many words as it says
pub record IsChunk (senders most : ℕ) (words : List ℕ) : Type 0 where
  pub head : ℕ
  pub body : List ℕ
  pub words_are : words ≡ head ∷ body
  pub may : IsRecordHead senders most head
  pub size : length body ≡ count_of head
  pub fit : All (λ word. word < 2 ^ 64) words

-- bytes begin with a whole record of so many words, at most room, whose checksum holds
pub record BeginsWith (senders most place room : ℕ) (bytes : List ℕ) (count : ℕ) : Type 0 where
  pub words : List ℕ
  pub rest : List ℕ
  pub chunk : IsChunk senders most words
  pub count_is : count ≡ length words
  pub few : count ≤ room
  pub bytes_are : bytes ≡ record_bytes place words ++ rest

-- each whole record that bytes begin with has more than room words
abbrev pub BeginsNone : ℕ → ℕ → ℕ → ℕ → List ℕ → Type 0
BeginsNone senders most place room bytes =
    (words rest : List ℕ) → IsChunk senders most words → bytes ≡ record_bytes place words ++ rest
    → room < length words

-- less than a record: fewer than eight bytes, or fewer than the record whose head they begin with
abbrev pub IsShort : ℕ → ℕ → List ℕ → Type 0
IsShort senders most bytes =
    (length bytes < 8)
    ⊎ ((head : ℕ) × (more : List ℕ) × (bytes ≡ word_bytes head ++ more)
    × IsRecordHead senders most head × (length bytes < 8 * (count_of head + 2)))

-- a tail that was cut off or never written out: less than a record, and zeros behind that
pub record IsTornRest (senders most : ℕ) (rest : List ℕ) : Type 0 where
  pub written : List ℕ
  pub zeros : List ℕ
  pub parts : rest ≡ written ++ zeros
  pub short : IsShort senders most written
  pub nothing : All (λ byte. byte ≡ 0) zeros

-- bytes begin with a whole record, whose checksum holds at this place
abbrev pub BeginsRecord : ℕ → ℕ → ℕ → List ℕ → Type 0
BeginsRecord senders most place bytes =
    (words rest : List ℕ) × IsChunk senders most words × (bytes ≡ record_bytes place words ++ rest)

-- A whole record of a later place stands in bytes, and so they are no tail of a journal that was
-- cut off. So many words of eight bytes stand before it, of which some and not all are of frames:
-- the others are checksums.
pub record HidesRecord (senders most place : ℕ) (bytes : List ℕ) : Type 0 where
  pub before : ℕ
  pub words : ℕ
  pub some : 1 ≤ words
  pub few : words < before
  pub begins : BeginsRecord senders most (place + words) (drop (8 * before) bytes)
