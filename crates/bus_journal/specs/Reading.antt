-- What bytes say as a journal.
use Rattle.std.specs.Prelude.{◌≡◌, ◌≢◌, ℕ, ◌+◌, ◌*◌, ◌<◌, ◌≤◌, ◌^◌, List, [], ◌++◌}
use Rattle.std.specs.Prelude.{length, take, drop, map, All, Bool, IsTrue, ◌↔◌}
use Rattle.bus_register.specs.declared.limits.TheConstants.{MOST_SENDERS}
use Rattle.bus_register.specs.declared.registers.SenderNo.{SenderNo}
use Rattle.bus_batch.specs.Frames.{Frame, Order, AreFrames, frame_words, body_words, log_words}
use Rattle.bus_batch.specs.Frames.{order_of, tenure_and_owner}
use Rattle.bus_deliverylog.specs.Orders.{order_held}
use Rattle.bus_journal.specs.declared.headers.Header.{Header}
use Rattle.bus_journal.specs.declared.reading.JournalRead.{JournalRead}
use Rattle.bus_journal.specs.declared.ends.JournalEnd.{JournalEnd}
use Rattle.bus_journal.specs.declared.ends.JournalEnd.TheVariants as end
use Rattle.bus_journal.specs.declared.headers.JournalFault.{JournalFault}
use Rattle.bus_journal.specs.declared.headers.JournalFault.TheVariants as fault
use Rattle.bus_journal.specs.Format.{Heading, IsHeading, magic, version, word_bytes, header_bytes}
use Rattle.bus_journal.specs.Format.{records_bytes}
use Rattle.bus_journal.specs.Records.{IsTornRest, HidesRecord}

-- a header without where its numbers lie in memory
abbrev pub heading_of : Header → Heading
heading_of h = record {
  senders = h.senders;
  most = h.most;
  place = h.place;
  first = h.first.items;
}

-- frames of which none has more words than the header allows
abbrev pub AreFew : ℕ → List Frame → Type 0
AreFew most frames = All (λ f. length (body_words f.body) ≤ 8 * most) frames

-- behind the header stand records of these frames, which are a log's, and then this rest
pub record HasRecords (h : Heading) (frames : List Frame) (rest body : List ℕ) : Type 0 where
  pub lawful : AreFrames h.senders frames
  pub few : AreFew h.most frames
  pub body_is : body ≡ records_bytes h.place (map frame_words frames) ++ rest

-- the bytes are a header, records of these frames, which are a log's, and then this rest
pub record IsJournal (h : Heading) (frames : List Frame) (rest bytes : List ℕ) : Type 0 where
  pub heading : IsHeading h
  pub body : List ℕ
  pub records : HasRecords h frames rest body
  pub bytes_are : bytes ≡ header_bytes h ++ body

-- all other frames that the bytes have begin these
abbrev pub IsLongest : Heading → List Frame → List ℕ → Type 0
IsLongest h frames bytes =
    (others : List Frame) (rest : List ℕ) → IsJournal h others rest bytes
    → (more : List Frame) × (frames ≡ others ++ more)

-- an answer, without where it lies in memory
pub record Answer : Type 0 where
  pub heading : Heading
  pub order : Order
  pub owners : List (ℕ × SenderNo)
  pub words : List ℕ
  pub place : ℕ
  pub end : JournalEnd
  pub whole : ℕ
  pub hides : Bool

abbrev pub answer_of : JournalRead → Answer
answer_of read = record {
  heading = heading_of read.header;
  order = order_held read.log.order;
  owners = read.log.owners.items;
  words = read.words.items;
  place = read.place;
  end = read.end;
  whole = read.whole;
  hides = read.hides;
}

-- the answer tells the order, the owners and the words of these frames, whose records the bytes
-- have, and where the last of them ends
pub record Tells (bytes : List ℕ) (frames : List Frame) (a : Answer) : Type 0 where
  pub journal : IsJournal a.heading frames (drop a.whole bytes) bytes
  pub within : a.whole ≤ length bytes
  pub order_is : a.order ≡ order_of frames
  pub owners_are : a.owners ≡ map tenure_and_owner frames
  pub words_are : a.words ≡ log_words frames
  pub place_is : a.place ≡ a.heading.place + length (log_words frames)

-- how the bytes end behind the last whole record
abbrev pub EndsAs : ℕ → ℕ → List ℕ → JournalEnd → Type 0
EndsAs senders most rest end.Whole = rest ≡ []
EndsAs senders most rest end.Torn = (rest ≢ []) × IsTornRest senders most rest
EndsAs senders most rest end.Damaged = ¬ IsTornRest senders most rest

-- all that read_journal promises of an answer
pub record Reads (bytes : List ℕ) (frames : List Frame) (a : Answer) : Type 0 where
  pub tells : Tells bytes frames a
  pub longest : IsLongest a.heading frames bytes
  pub ends : EndsAs a.heading.senders a.heading.most (drop a.whole bytes) a.end
  pub hides : IsTrue a.hides ↔ ((a.end ≡ end.Torn)
      × HidesRecord a.heading.senders a.heading.most a.place (drop a.whole bytes))

-- ---- what is refused

-- the first bytes are not the magic's
abbrev pub IsOtherMagic : List ℕ → Type 0
IsOtherMagic bytes = take 8 bytes ≢ take (length bytes) magic

abbrev pub IsOtherVersion : ℕ → List ℕ → Type 0
IsOtherVersion other bytes =
    (rest : List ℕ) × (bytes ≡ magic ++ (word_bytes other ++ rest)) × (other < 2 ^ 64)
    × (other ≢ version)

-- the bytes are too few for the header that they begin, as far as they say which: magic, version
-- and senders are right as far as they are there
pub record IsTornHeader (bytes : List ℕ) : Type 0 where
  pub begins : take 8 bytes ≡ take (length bytes) magic
  pub versions : (other : ℕ) → ¬ IsOtherVersion other bytes
  pub short : (senders : ℕ) (rest : List ℕ) → senders < 2 ^ 64
      → bytes ≡ magic ++ (word_bytes version ++ (word_bytes senders ++ rest))
      → (1 ≤ senders) × (senders ≤ MOST_SENDERS) × (length bytes < 48 + 8 * senders)

-- magic and version are right, enough bytes are there, and they are no header
pub record IsDamagedHeader (bytes : List ℕ) : Type 0 where
  pub rest : List ℕ
  pub begins : bytes ≡ magic ++ (word_bytes version ++ rest)
  pub enough : ¬ IsTornHeader bytes
  pub none : (h : Heading) (behind : List ℕ) → IsHeading h → bytes ≢ header_bytes h ++ behind

-- each fault exactly where it may come; memory may always be refused
abbrev pub IsRefused : List ℕ → JournalFault → Type 0
IsRefused bytes fault.OtherMagic = IsOtherMagic bytes
IsRefused bytes (fault.OtherVersion other) = IsOtherVersion other bytes
IsRefused bytes fault.TornHeader = IsTornHeader bytes
IsRefused bytes fault.DamagedHeader = IsDamagedHeader bytes
IsRefused bytes fault.NoMemory = Unit {0}
