-- The bytes of a journal: a header, and then a record for each frame of a log. A record is the
-- frame's words and a checksum over its place and these words, so that one which is moved, doubled
-- or left out is seen. A checksum never ends with a zero byte, so that a record which was written
-- whole is told from one that zeros follow.
use Rattle.std.specs.Prelude.{◌≡◌, ℕ, ◌+◌, ◌*◌, ◌/◌, ◌<◌, ◌≤◌, ◌^◌, List, [], ◌∷◌, ◌++◌}
use Rattle.std.specs.Prelude.{length, take, slice_index, map, All, codes}
use Rattle.std.specs.List.{flat_map}
use Rattle.std.specs.Int.{w64, to_be_bytes}
use Rattle.sha2.specs.Sha256.{sha256}
use Rattle.bus_register.specs.declared.limits.TheConstants.{MOST_MESSAGES, MOST_SENDERS}
use Rattle.bus_batch.specs.Frames.{Frame, frame_words}

-- ---- words and checksums

-- a word as eight bytes, the highest first
unfoldable pub word_bytes : ℕ → List ℕ
word_bytes word = to_be_bytes w64 word

-- words, one behind another
abbrev pub words_bytes : List ℕ → List ℕ
words_bytes words = flat_map word_bytes words

-- the first eight bytes of SHA-256, with the lowest two bits of the last one set
unfoldable pub checksum : List ℕ → List ℕ
checksum bytes = take 7 (sha256 bytes) ++ (slice_index (sha256 bytes) 7 / 4 * 4 + 3) ∷ []

-- ---- the header

-- what a header says: how many senders, the most messages of a batch, the place of the file's first
-- word in the log, and the first number of each sender
pub record Heading : Type 0 where
  pub senders : ℕ
  pub most : ℕ
  pub place : ℕ
  pub first : List ℕ

pub record IsHeading (h : Heading) : Type 0 where
  pub some_senders : 1 ≤ h.senders
  pub most_senders : h.senders ≤ MOST_SENDERS
  pub some_messages : 1 ≤ h.most
  pub most_messages : h.most ≤ MOST_MESSAGES
  -- so that each later place is a word
  pub place : h.place < 2 ^ 63
  pub each_sender : length h.first ≡ h.senders
  pub words : All (λ number. number < 2 ^ 64) h.first

-- the first eight bytes of a journal
unfoldable pub magic : List ℕ
magic = codes "KIOSKLOG"

-- the version of this format
abbrev pub version : ℕ
version = 1

-- a header without its checksum
abbrev pub header_front : Heading → List ℕ
header_front h = magic ++ words_bytes (version ∷ h.senders ∷ h.most ∷ h.place ∷ h.first)

abbrev pub header_bytes : Heading → List ℕ
header_bytes h = header_front h ++ checksum (header_front h)

-- ---- records

-- a frame's words, and the checksum over the place of the first and all of them
abbrev pub record_bytes : ℕ → List ℕ → List ℕ
record_bytes place words =
    words_bytes words ++ checksum (word_bytes place ++ words_bytes words)

-- a record for each frame, each at the place behind the one before
abbrev pub records_bytes : ℕ → List (List ℕ) → List ℕ
records_bytes place [] = []
records_bytes place (words ∷ frames) =
    record_bytes place words ++ records_bytes (place + length words) frames

-- the whole file
abbrev pub journal_bytes : Heading → List Frame → List ℕ
journal_bytes h frames = header_bytes h ++ records_bytes h.place (map frame_words frames)
