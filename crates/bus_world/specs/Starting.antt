-- Receivers at their starts.
use Rattle.std.specs.Prelude.{◌≡◌, ℕ, ◌+◌, ◌*◌, false, Option, Some, None, List, [], length}
use Rattle.std.specs.Prelude.{slice_get}
use Rattle.bus_batch.specs.Reading.{HasRead}
use Rattle.bus_core.specs.declared.limits.TheConstants.{PASSED_APART}
use Rattle.bus_deliverylog.specs.Receiving.{Receiving}

-- a receiver that has read nothing, of so many senders, with the log that begins at this place and
-- has so many words, and with this passed place, none where no word of the log is used again
pub record IsNewReceiver (senders log capacity : ℕ) (passed_at : Option ℕ) (v : Receiving) :
    Type 0 where
  pub senders_are : v.frames.senders ≡ senders
  pub log_is : v.log_at ≡ log
  pub length_is : v.length_at ≡ 0
  pub words_are : v.log_words ≡ capacity
  pub known : v.known ≡ 0
  pub place : v.place ≡ 0
  pub going : v.ended ≡ false
  pub read : HasRead senders [] [] v.frames
  pub passed_is : v.passed_at ≡ passed_at
  pub unpassed : v.passed ≡ 0
  pub stays : v.gone ≡ false

-- the passed place of receiver r, where there are any and the first stands here
abbrev pub passed_behind : Option ℕ → ℕ → Option ℕ
passed_behind None r = None
passed_behind (Some first) r = Some (first + PASSED_APART * r)

-- so many receivers, each at its start, with a passed place each or none
pub record AreNewReceivers (senders log capacity : ℕ) (first_passed : Option ℕ) (many : ℕ)
    (receivers : List Receiving) : Type 0 where
  pub many_are : length receivers ≡ many
  pub each : (r : ℕ) (v : Receiving) → slice_get receivers r ≡ Some v
      → IsNewReceiver senders log capacity (passed_behind first_passed r) v
