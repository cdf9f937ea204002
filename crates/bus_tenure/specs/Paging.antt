-- What every page keeps that is passed on.
use Rattle.std.specs.Prelude.{◌≤◌}
use Rattle.bus_register.specs.declared.limits.TheConstants.{PLACES}
use Rattle.bus_tenure.specs.declared.pages.Page.{Page}

-- its floor is no further than its words, and a place of those that there are
pub record PageKeeps (page : Page) : Type 0 where
  pub behind : page.floor ≤ page.words
  pub few : page.floor ≤ PLACES
