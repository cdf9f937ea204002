-- When a holder loads the passed places: all before it gives its page back for want of room. And
-- what becomes of the floor of its page.
use Rattle.std.specs.Prelude.{◌≡◌, ◌≢◌, ℕ, ◌≤◌, IfSome, Option, Some, None}
use Rattle.bus_presence.specs.Reclaimers.{Reclaiming}
use Rattle.bus_tenure.specs.Core.{Election}
use Rattle.bus_tenure.specs.Seen.{floor_in}
use Rattle.bus_tenure.specs.Situations.{TakesPage, GivesBack, situation_of}
use Rattle.bus_tenure.specs.declared.pages.Page.{Page}
use Rattle.bus_tenure.specs.declared.phases.Reason.TheVariants.{NoRoom}
use Rattle.bus_core.specs.Reusing.Passing.{passing_begun, passing_fed, core_passed}
use Rattle.bus_core.specs.Senders.{Sender, Does, Scans, Clears, ReadsPassed, situation}
use Rattle.bus_core.specs.Table.{line_now}
use Rattle.bus_core.specs.declared.reuses.Passing.{Passing}
use Rattle.bus_core.specs.declared.reuses.Reuse.{Reuse}

-- where rows are used again it has loaded all passed places in the tenure
abbrev pub HasLoadedAll : {E : Type 0} → Sender E → Type 0
HasLoadedAll v = IfSome v.reuse (λ r. v.core.layout.passers ≤ r.passed.loaded)

-- what it has loaded of the passed places
abbrev pub passed_in : Option Reuse → Option Passing
passed_in None = None
passed_in (Some r) = Some r.passed

-- With the page that it takes none is loaded. A load goes on from what was loaded, takes in what it
-- found, and with the last one gives the page its floor; no other step changes what is loaded. All
-- are loaded before it gives the page back for want of room, which it answers by Full, and before
-- it makes the next row ready to do so.
pub record LoadsAllFirst {E : Type 0} (X : Election E) (v : Sender E) : Type 0 where
  pub taken : (t got word : ℕ) → situation X v ≡ Does (TakesPage t)
      → IfSome ((line_now X v).fed got word).reuse (λ r. r.passed ≡ passing_begun)
  pub read : (t got word : ℕ) (p : Passing) → situation X v ≡ ReadsPassed t p
      → (passed_in v.reuse ≡ Some p)
      × (passed_in ((line_now X v).fed got word).reuse ≡ Some (passing_fed p got))
      × (((line_now X v).fed got word).core ≡ core_passed v.core (passing_fed p got))
  pub kept : (got word : ℕ) → ((t : ℕ) (p : Passing) → situation X v ≢ ReadsPassed t p)
      → ((t : ℕ) → situation X v ≢ Does (TakesPage t))
      → passed_in ((line_now X v).fed got word).reuse ≡ passed_in v.reuse
  pub given : (t : ℕ) (page : Page) → situation X v ≡ Does (GivesBack t page NoRoom)
      → HasLoadedAll v
  pub scanned : (t : ℕ) (page : Page) (s : Reclaiming)
      → situation_of X v.core ≡ GivesBack t page NoRoom → situation X v ≡ Scans s → HasLoadedAll v
  pub cleared : (t : ℕ) (page : Page) (s : Reclaiming)
      → situation_of X v.core ≡ GivesBack t page NoRoom → situation X v ≡ Clears s → HasLoadedAll v

-- With a load of a passed place the floor of the page does not fall, where neither that place nor
-- one that was loaded before it in the tenure lies before the floor. None does afterwards.
abbrev pub KeepsFloor : {E : Type 0} → Election E → Sender E → ℕ → Sender E → Type 0
KeepsFloor X v got w =
    (t : ℕ) (p : Passing) → situation X v ≡ ReadsPassed t p
    → floor_in v.core.phase ≤ (passing_fed p got).least
    → (floor_in v.core.phase ≤ floor_in w.core.phase)
    × IfSome w.reuse (λ r. floor_in w.core.phase ≤ r.passed.least)
