-- What the parts of a reading know.
use Rattle.std.specs.Prelude.{◌≡◌, ℕ, ◌+◌, ◌-◌, ◌*◌, ◌≤◌, List, ◌++◌}
use Rattle.std.specs.Prelude.{length, drop, map}
use Rattle.std.specs.List.{flat_map, AllByRecursion}
use Rattle.bus_register.specs.declared.limits.TheConstants.{MOST_SENDERS}
use Rattle.bus_batch.specs.Frames.{Frame, log_words, order_of, tenure_and_owner}
use Rattle.bus_deliverylog.specs.declared.orders.LogRead.{LogRead}
use Rattle.bus_deliverylog.specs.Orders.{order_held}
use Rattle.bus_journal.specs.Format.{Heading, magic, version, word_bytes, records_bytes}
use Rattle.bus_journal.specs.Records.{IsChunk, BeginsNone}
use Rattle.bus_journal.specs.Reading.{HasRecords}

-- bytes begin a header of so many senders, and are as many as it has
pub record BeginsHeader (senders : ℕ) (bytes : List ℕ) : Type 0 where
  pub behind : List ℕ
  pub parts : bytes ≡ magic ++ (word_bytes version ++ (word_bytes senders ++ behind))
  pub some : 1 ≤ senders
  pub most : senders ≤ MOST_SENDERS
  pub long : 48 + 8 * senders ≤ length bytes

-- the words of records, one behind another
abbrev pub words_in : List (List ℕ) → List ℕ
words_in chunks = flat_map (λ words. words) chunks

-- the first bytes are whole records of these words, at most room of them, and no record that fits
-- in the room follows
pub record Walks (h : Heading) (body : List ℕ) (room : ℕ) (words : List ℕ) (size : ℕ) : Type 0 where
  pub chunks : List (List ℕ)
  pub each : AllByRecursion (IsChunk h.senders h.most) chunks
  pub words_are : words ≡ words_in chunks
  pub within : size ≤ length body
  pub few : length words ≤ room
  pub body_is : body ≡ records_bytes h.place chunks ++ drop size body
  pub none : BeginsNone h.senders h.most (h.place + length words) (room - length words)
      (drop size body)

-- what was read behind a header
pub record TellsRecords (h : Heading) (body : List ℕ) (log : LogRead) (words : List ℕ) (size : ℕ) :
    Type 0 where
  pub frames : List Frame
  pub records : HasRecords h frames (drop size body) body
  pub within : size ≤ length body
  pub words_are : words ≡ log_words frames
  pub order_is : order_held log.order ≡ order_of frames
  pub owners_are : log.owners.items ≡ map tenure_and_owner frames
  pub longest : (others : List Frame) (rest : List ℕ) → HasRecords h others rest body
      → (more : List Frame) × (frames ≡ others ++ more)
