-- Functions that are asked whether to go on, by calls that make one: what a call of it may tell.
use Rattle.std.specs.Prelude.{◌≡◌, Bool, true, false}

-- it waits for nobody
abbrev pub SaysNo : Unit {0} → Bool → Unit {0} → Type 0
SaysNo before told after = told ≡ false

-- it waits as long as it takes
abbrev pub SaysYes : Unit {0} → Bool → Unit {0} → Type 0
SaysYes before told after = told ≡ true

-- it waits as long as there is time, of which nothing is said
abbrev pub SaysEither : Unit {0} → Bool → Unit {0} → Type 0
SaysEither before told after = Unit {0}
