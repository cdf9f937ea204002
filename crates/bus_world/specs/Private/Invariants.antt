-- What every bus with a row for each tenure keeps.
use Rattle.std.specs.Prelude.{◌≡◌, ℕ, List, length, take, slice_get, slice_index, Option, Some}
use Rattle.bus_register.specs.Protocol.{Protocol}
use Rattle.bus_batch.specs.Frames.{Frame, Order, order_in, log_pieces}
use Rattle.bus_deliverylog.specs.Receiving.{Receiving}
use Rattle.bus_tenure.specs.Core.{Layout, words_of, Core}
use Rattle.bus_world.specs.Private.Machines.{Bus}
use Rattle.bus_world.specs.Private.Sending.{Sending}
use Rattle.bus_world.specs.Private.Receiving.{IsReceiver, NeverPasses}
use Rattle.bus_tenure.specs.declared.pages.Page.{Page}

-- words, page, senders and receivers by number, whatever holds them, with who took the pages and
-- the frames of the log
pub record Lawful {E : Type 0} (base : ℕ → ℕ) (P : Protocol E (Unit {0}) ℕ) (x : Layout)
    (words : ℕ → ℕ) (home : Option Page) (senders : ℕ → Option (Core E))
    (receivers : ℕ → Option Receiving) (owners : List ℕ) (frames : List Frame) : Type 0 where
  pub sending : Sending base P x words home senders owners frames
  pub receiving : (r : ℕ) (v : Receiving) → receivers r ≡ Some v → IsReceiver x frames (words 0) v
  pub never : (r : ℕ) (v : Receiving) → receivers r ≡ Some v → NeverPasses v

-- a machine has just the words of its layout
pub record LawfulBus {E : Type 0} (base : ℕ → ℕ) (P : Protocol E (Unit {0}) ℕ) (x : Layout)
    (bus : Bus E) (frames : List Frame) : Type 0 where
  pub words : length bus.side.words ≡ words_of x
  pub keeps : Lawful base P x (slice_index bus.side.words) bus.side.home
      (slice_get bus.side.senders) (slice_get bus.receivers) bus.side.owners frames

-- what a receiver was given: the items, the leave marks and the end among the pieces below its
-- place
abbrev pub given_at : List Frame → Receiving → Order
given_at frames v = order_in (take v.place (log_pieces frames))
