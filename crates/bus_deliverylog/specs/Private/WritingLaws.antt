-- What follows of a writer's steps.
use Rattle.std.proofs.Common.{◌≡◌, length, Bool, true, false, Some, None, refl}
use Rattle.std.specs.Prelude.{is_some, if◌then◌else◌, nat_lt, ◌==◌}
use Rattle.bus_deliverylog.specs.Writing.{Writing, writing_kind, writing_op}

same_tests : {A B : Type 0} (b c : Bool) (x y : A) (u v : B)
    → is_some (if b then Some x else if c then Some y else None)
    ≡ is_some (if b then Some u else if c then Some v else None)
same_tests true c x y u v = refl
same_tests false true x y u v = refl
same_tests false false x y u v = refl

-- a kind is named exactly where there is a step
pub writing_named : (w : Writing) → is_some (writing_kind w) ≡ is_some (writing_op w)
writing_named w = same_tests (nat_lt w.stored (length w.frame)) (w.stored == length w.frame) _ _ _ _
