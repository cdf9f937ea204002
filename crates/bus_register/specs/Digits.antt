-- Bits as numbers.
use Rattle.std.specs.Prelude.{ℕ, Bool, true, false}

-- 1 for true
abbrev pub digit : Bool → ℕ
digit false = 0
digit true = 1
