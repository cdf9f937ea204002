-- What an election promises.
use Rattle.std.specs.Prelude.{◌≡◌, ℕ, Option, Some}

-- all owners are equal, and the owner is a process that has announced itself
pub record OneOwner (announced : ℕ → Option (Unit {0})) (owners : ℕ → Option ℕ) : Type 0 where
  pub equal : (p q v w : ℕ) → owners p ≡ Some v → owners q ≡ Some w → v ≡ w
  pub announcer : (p v : ℕ) → owners p ≡ Some v → announced v ≡ Some tt
