-- How a page is given back, and what the holder shows of the reason.
use Rattle.std.specs.Prelude.{◌≡◌, ℕ, ◌+◌, ◌<◌, false, true}
use Rattle.bus_tenure.specs.Core.{Core, frame_len}
use Rattle.bus_tenure.specs.Situations.{Situation, GivesBack, HasHanded}
use Rattle.bus_tenure.specs.declared.pages.Page.{Page}
use Rattle.bus_tenure.specs.declared.phases.Phase.{Phase}
use Rattle.bus_tenure.specs.declared.phases.Phase.TheVariants.{Holding, Giving}
use Rattle.bus_tenure.specs.declared.phases.Reason.{Reason}
use Rattle.bus_tenure.specs.declared.phases.Reason.TheVariants.{Sent, FoundEnd, NoRoom}

-- it gives the page of this tenure back, or has handed it on and says so
pub data Returns {E : Type 0} (t : ℕ) : Situation E → Type 0 where
  Gives : (page : Page) (reason : Reason) → Returns t (GivesBack t page reason)
  Says : (reason : Reason) → Returns t (HasHanded t reason)

-- ---- what it held when it gave the page back: the page itself, or, where the page is handed on
-- already, the reason for that its frame stands in the log: it has stored the length that takes it
-- in
pub data HasPublished {E : Type 0} (t : ℕ) : Phase E → Type 0 where
  Published : (page : Page) (stored : ℕ) → HasPublished t (Holding t page stored true)
  HandsOnSent : HasPublished t (Giving t Sent)

-- its frame does not fit behind the words that the page counts, and no length took it in
pub data LacksRoom {E : Type 0} (c : Core E) (t : ℕ) : Phase E → Type 0 where
  FindsNoRoom : (page : Page) (stored : ℕ)
      → c.layout.capacity + page.floor < page.words + frame_len c
      → LacksRoom c t (Holding t page stored false)
  HandsOnFull : LacksRoom c t (Giving t NoRoom)

-- the page says that the order has ended, and no length took its frame in
pub data FindsEnd {E : Type 0} (t : ℕ) : Phase E → Type 0 where
  Ended : (page : Page) (stored : ℕ) → page.ended ≡ true → FindsEnd t (Holding t page stored false)
  HandsOnEnd : FindsEnd t (Giving t FoundEnd)
