-- Receivers: each has read the log as far as its place.
use Rattle.std.specs.Prelude.{ℕ, ◌≤◌, List, take, ◌≡◌, ◌≢◌, None, slice_index}
use Rattle.bus_batch.specs.Frames.{Frame, log_words, log_pieces}
use Rattle.bus_batch.specs.Reading.{Reading, HasRead}
use Rattle.bus_deliverylog.specs.Receiving.{Receiving}
use Rattle.bus_tenure.specs.Core.{Layout, log_at}

-- a receiver at this place, which knows this length, has read the words below its place
pub record Receives (n : ℕ) (frames : List Frame) (len place known : ℕ) (reading : Reading) :
    Type 0 where
  pub place_below : place ≤ known
  pub known_below : known ≤ len
  pub has_read : HasRead n (take place (log_words frames)) (take place (log_pieces frames)) reading

pub record IsReceiver (x : Layout) (frames : List Frame) (len : ℕ) (v : Receiving) : Type 0 where
  pub senders : v.frames.senders ≡ x.senders
  pub log : v.log_at ≡ log_at x
  pub len_at : v.length_at ≡ 0
  pub log_words : v.log_words ≡ x.capacity
  pub receives : Receives x.senders frames len v.place v.known v.frames

-- it finds, at the length that it knows, the length, and else the word at its place
abbrev pub IsFoundIn : List Frame → ℕ → Receiving → ℕ → Type 0
IsFoundIn frames len v got =
    (v.place ≡ v.known → got ≡ len)
    × (v.place ≢ v.known → got ≡ slice_index (log_words frames) v.place)

-- it has no passed place, and has stored none
pub record NeverPasses (v : Receiving) : Type 0 where
  pub never : v.passed_at ≡ None
  pub unpassed : v.passed ≡ 0
