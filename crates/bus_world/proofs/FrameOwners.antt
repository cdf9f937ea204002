-- What frames say of their owners, and of the numbers of their items.
use Rattle.std.proofs.Common.{◌≡◌, ℕ, zero, suc, ◌+◌, ◌<◌, ◌≤◌, Some, List, [], ◌∷◌, map}
use Rattle.std.proofs.Common.{slice_get, arith, ap, subst}
use Rattle.std.proofs.lemmas.Option.{same_Some}
use Rattle.bus_register.specs.declared.registers.SenderNo.{SenderNo}
use Rattle.bus_batch.specs.Frames.{Frame, AreFramesFrom, tenure_and_owner}
use Rattle.bus_world.specs.Private.Sending.{AreOwned}
use Rattle.bus_world.proofs.Places.{none_in}

pub owner_took : (owners : List ℕ) (fs : List Frame) → AreOwned owners fs → (j t : ℕ) (o : SenderNo)
    → slice_get (map tenure_and_owner fs) j ≡ Some (t, o) → slice_get owners t ≡ Some o.0
owner_took owners [] a j t o e = absurd (none_in j (t, o) e)
owner_took owners (f ∷ fs) a zero t o e =
    let s = same_Some _ _ e in subst (λ z. slice_get owners z.0 ≡ Some z.1.0) s a.0
owner_took owners (f ∷ fs) a (suc j) t o e = owner_took owners fs a.1 j t o e

above : (n least : ℕ) (fs : List Frame) → AreFramesFrom n least fs → (j t : ℕ) (o : SenderNo)
    → slice_get (map tenure_and_owner fs) j ≡ Some (t, o) → least ≤ t
above n least [] a j t o e = absurd (none_in j (t, o) e)
above n least (f ∷ fs) a zero t o e =
    let s = ap (λ (z : ℕ × SenderNo). z.0) (same_Some _ _ e) in let l = a.1 in omega arith
above n least (f ∷ fs) a (suc j) t o e =
    let l = above n (f.tenure + 1) fs a.3 j t o e in let m = a.1 in omega arith

pub rise : (n least : ℕ) (fs : List Frame) → AreFramesFrom n least fs
    → (i j t u : ℕ) (o p : SenderNo) → slice_get (map tenure_and_owner fs) i ≡ Some (t, o)
    → slice_get (map tenure_and_owner fs) j ≡ Some (u, p) → i < j → t < u
rise n least [] a i j t u o p e g l = absurd (none_in i (t, o) e)
rise n least (f ∷ fs) a zero zero t u o p e g l = absurd (omega arith)
rise n least (f ∷ fs) a zero (suc j) t u o p e g l =
    let s = ap (λ (z : ℕ × SenderNo). z.0) (same_Some _ _ e) in
    let m = above n (f.tenure + 1) fs a.3 j u p g in omega arith
rise n least (f ∷ fs) a (suc i) zero t u o p e g l = absurd (omega arith)
rise n least (f ∷ fs) a (suc i) (suc j) t u o p e g l =
    rise n (f.tenure + 1) fs a.3 i j t u o p e g (omega arith)
