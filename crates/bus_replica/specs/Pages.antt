-- The page with which a sitting goes on behind a journal.
use Rattle.std.specs.Prelude.{◌≡◌, ◌⊎◌, ℕ, ◌+◌, ◌-◌, ◌<◌, ◌^◌, List, [], ◌∷◌, ◌==◌, true, IsTrue}
use Rattle.std.specs.Prelude.{Option, None, Some, ⊤, false, get_or, length, max, min, replicate}
use Rattle.std.specs.Prelude.{slice_index, take, if◌then◌else◌}
use Rattle.bus_register.specs.declared.limits.TheConstants.{MOST_SENDERS}
use Rattle.bus_batch.specs.declared.messages.Item.{Item}
use Rattle.bus_journal.specs.declared.ends.JournalEnd.TheVariants as end
use Rattle.bus_journal.specs.declared.reading.JournalRead.{JournalRead}
use Rattle.bus_tenure.specs.declared.pages.Page.{Page}

-- the number behind this one; the greatest word has none, and no log has it
abbrev pub number_behind : ℕ → ℕ
number_behind number = min (number + 1) (2 ^ 64 - 1)

-- the next number of this sender behind an item, where it was this one before: never a lower one
abbrev pub next_behind_one : ℕ → Item → ℕ → ℕ
next_behind_one sender item next =
    if item.sender.0 == sender then max next (number_behind item.number) else next

-- and behind several, one after another
abbrev pub next_behind : ℕ → List Item → ℕ → ℕ
next_behind sender [] next = next
next_behind sender (item ∷ items) next =
    next_behind sender items (next_behind_one sender item next)

-- the next number of a sender where a sitting begins behind this page; the first sitting has none
abbrev pub next_before : Option Page → ℕ → ℕ
next_before None sender = 0
next_before (Some page) sender = slice_index page.next sender

-- an order that has ended, with all senders anew, and with the next number of each behind what the
-- journal told: the one behind the greatest number of its items there, or its first number where
-- that is greater or it has none, or that of the page before where the journal has no such sender
pub record IsPageBehind (before : Option Page) (read : JournalRead) (page : Page) : Type 0 where
  pub ended : page.ended ≡ true
  pub nobody : page.left ≡ replicate MOST_SENDERS false
  pub anew : (page.tenures ≡ 0) × (page.words ≡ 0) × (page.floor ≡ 0)
  pub numbers : (sender : ℕ) → sender < MOST_SENDERS → slice_index page.next sender
      ≡ next_behind sender read.log.order.items.items
      (get_or read.header.first.items sender (next_before before sender))

-- it is seen that whole frames may stand behind what it told
abbrev pub MayMissFrames : JournalRead → Type 0
MayMissFrames read = (read.end ≡ end.Damaged) ⊎ IsTrue read.hides

-- its first numbers are those of the page before it, if there is one
abbrev pub FollowsPage : Option Page → JournalRead → Type 0
FollowsPage None read = ⊤
FollowsPage (Some page) read =
    read.header.first.items ≡ take (length read.header.first.items) page.next
