-- The kinds of step that a conciliator takes.
use Rattle.std.specs.Prelude.{◌≡◌, ◌⊎◌}
use Rattle.bus_register.specs.declared.kinds.Kind.{Kind}
use Rattle.bus_register.specs.declared.kinds.Kind.TheVariants as kind

-- one of the four
abbrev pub IsOfConciliator : Kind → Type 0
IsOfConciliator k =
    (k ≡ kind.SetMark) ⊎ ((k ≡ kind.ReadOtherMark) ⊎ ((k ≡ kind.Vote) ⊎ (k ≡ kind.ReadVotes)))
