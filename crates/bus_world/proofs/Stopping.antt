-- Who goes on, and who has stopped.
use Rattle.std.proofs.Common.{◌≡◌, ℕ, zero, suc, Bool, true, false, cond, Option, Some, None, List}
use Rattle.std.proofs.Common.{[], ◌∷◌, get_or, slice_get}
use Rattle.std.proofs.lemmas.Option.{none-some}
use Rattle.bus_tenure.specs.Core.{Core}
use Rattle.bus_world.specs.Private.Machines.{Bus, has_stopped, going}
use Rattle.bus_world.specs.World.{is_set}

pub shown_there : {A : Type 0} (t : Bool) (o : Option A) (v : A) → cond t None o ≡ Some v
    → o ≡ Some v
shown_there true o v e = absurd (none-some v e)
shown_there false o v e = e

-- who goes on is there
pub is_there : {E : Type 0} (b : Bus E) (s : ℕ) (c : Core E) → going b s ≡ Some c
    → slice_get b.side.senders s ≡ Some c
is_there b s c e = shown_there (has_stopped b s) (slice_get b.side.senders s) c e

-- ---- what is refused as a stop is
pub set_there : (l : List Bool) (s : ℕ) → get_or l s false ≡ true → is_set (slice_get l s) ≡ true
set_there [] s e = absurd (let z : false ≡ true = e in cc)
set_there (t ∷ l) zero e = e
set_there (t ∷ l) (suc s) e = set_there l s e
