-- From the floor of a page on each word that was published stands in its cell.
use Rattle.std.proofs.Common.{◌≡◌, inl, inr, ℕ, slice_index, arith}
use Rattle.bus_register.specs.Protocol.{Protocol}
use Rattle.bus_tenure.specs.declared.pages.Page.{Page}
use Rattle.bus_world.proofs.LogLaws.{index-read}
use Rattle.bus_machine.proofs.Frames.Framed.{IsFramed}
use Rattle.bus_machine.specs.Machine.{Machine, Trails}
use Rattle.bus_machine.specs.Promise.{IsPageOf, StandsFrom}

module _ {E : Type 0} (P : Protocol E (Unit {0}) ℕ) (m : Machine E) (T : Trails)
    (f : IsFramed P m T) where
  stands_from : (floor : ℕ) → floor ≡ f.floor → StandsFrom m T.log floor
  stands_from floor is place past below = grind (arith, index-read, slice_index)

  pub page_lasts : (page : Page) → IsPageOf m page → StandsFrom m T.log page.floor
  page_lasts page (inl home) = stands_from page.floor (f.floored_home page home)
  page_lasts page (inr held) = stands_from page.floor
      (f.floored held.0 held.1 held.2 page held.3 held.4 held.5 held.6)
