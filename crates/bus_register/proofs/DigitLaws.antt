-- What follows of bits as numbers.
use Rattle.std.proofs.Common.{◌≡◌, ◌≤◌, Bool, true, false, arith, refl}
use Rattle.bus_register.specs.Digits.{digit}

pub digit_le : (b : Bool) → digit b ≤ 1
digit_le true = omega arith
digit_le false = omega arith

-- a digit tells its bit
pub digit_same : (a b : Bool) → digit a ≡ digit b → a ≡ b
digit_same true true e = refl
digit_same true false e = absurd (omega arith)
digit_same false true e = absurd (omega arith)
digit_same false false e = refl
