use Rattle.std.proofs.Common.{ℕ, ◌≤◌, List, length, arith, refl, ap}
use Rattle.bus_batch.proofs.Padding.{spared}
use Rattle.bus_batch.proofs.messages.Message.of_bytes.Goals as goal

pub invariant_of-result : goal.invariant_of-result
invariant_of-result c =
    let size = ap (λ (z : List ℕ). length z) c.copy_from_slice.ensures.after in
    let few : length c.args.bytes.now ≤ 56 = omega arith in
    let rest = spared (length c.args.bytes.now) c.copy_from_slice.new.self _ size few refl in
    (few, rest.0, rest.1)
