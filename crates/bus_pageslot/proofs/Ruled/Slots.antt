-- What a step does to the slot of the page.
use Rattle.std.proofs.Common.{◌≡◌, ℕ, Option, Some, List, [], ◌∷◌, refl, ap, set, arith}
use Rattle.std.proofs.lemmas.Grind.{common_steps}
use mathlib.Core.Option.{some, none}
use mathlib.Core.Option as maybe
use Rattle.atomic_table.specs.Table.{Act, keeps, takes, Valid, homes_after, carried_after}
use Rattle.bus_tenure.specs.Situations.{PageMove, Stays, Comes, Returns}
use Rattle.bus_tenure.specs.declared.pages.Page.{Page}
use Rattle.bus_world.specs.Turning.{home_moved}
use Rattle.bus_pageslot.specs.Rule.{slot_of}
use Rattle.bus_pageslot.specs.Steps.{out_with, carried_by}

pub record Moved (move : PageMove) (home : Option Page) (homes : List (maybe.Option (Option Page)))
    (carried : List (ℕ × Option Page)) : Type 0 where
  pub act : Act (Option Page)
  pub valid : Valid homes carried act
  pub homes_now : homes_after homes carried act ≡ slot_of (home_moved move home) ∷ []
  pub carried_now : carried_after carried act ≡ carried_by move home carried

module _ (home : Option Page) (homes : List (maybe.Option (Option Page)))
    (carried before : List (ℕ × Option Page)) (slot : homes ≡ slot_of home ∷ []) where
  pub moves : (move : PageMove) → carried ≡ out_with move before
      → ((t : ℕ) → move ≡ Comes t → (page : Page) × (home ≡ Some page))
      → Moved move home homes carried
  moves Stays out taken = record { act = keeps; valid = tt; homes_now = slot; carried_now = refl }
  moves (Comes t) out taken = let page = taken t refl in record {
    act = takes 0 home;
    valid = cc;
    homes_now = ap (λ (hs : List (maybe.Option (Option Page))). set hs 0 none) slot;
    carried_now = refl;
  }
  moves (Returns t reason page) out taken = grind (arith, common_steps, set, some)
