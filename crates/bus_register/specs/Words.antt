-- What one step reads and leaves.
use Rattle.std.specs.Prelude.{ℕ, ◌+◌, ◌<◌, ◌^◌, ◌==◌, if◌then◌else◌}
use Rattle.bus_register.specs.declared.registers.Op.{Op}
use Rattle.bus_register.specs.declared.registers.Op.TheVariants.{Load, Store, Add, Cas}

-- the place of the word
abbrev pub register : Op → ℕ
register (Load at) = at.0
register (Store at x) = at.0
register (Add at x) = at.0
register (Cas at x y) = at.0

-- the word after the step, from the word before
abbrev pub after : Op → ℕ → ℕ
after (Load at) found = found
after (Store at x) found = x
after (Add at x) found = found + x
after (Cas at x y) found = if found == x then y else found

-- an Add does not pass the word's range
abbrev pub SumFits : Op → ℕ → Type 0
SumFits (Load at) found = Unit {0}
SumFits (Store at x) found = Unit {0}
SumFits (Add at x) found = found + x < 2 ^ 64
SumFits (Cas at x y) found = Unit {0}
