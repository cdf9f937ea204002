use Rattle.std.proofs.Common.{◌≡◌, ℕ, ◌+◌, ◌*◌, ◌-◌, ◌≤◌, arith}
use Rattle.std.proofs.lemmas.Nat.{mul-le}
use Rattle.bus_ownerbits.proofs.sizes.bound.Goals as goal

-- so many bits and rounds, and so many steps of each ratifier, are few turns
few_turns : (bits rounds steps most n : ℕ) → bits ≤ 6 → rounds ≤ 8 → steps ≡ most → most ≤ 1024
    → n ≤ 64 → bits * (rounds * steps + (rounds - 1) * (2 + 64 * 2) + 1 + n) ≤ 300000
few_turns bits rounds steps most n few_bits few_rounds same few_steps few =
    let ratifiers = mul-le rounds steps 8 1024 few_rounds (omega arith) in
    let conciliators = mul-le (rounds - 1) (2 + 64 * 2) 7 4162 (omega arith) (omega arith) in
    let each : rounds * steps + (rounds - 1) * (2 + 64 * 2) + 1 + n ≤ 37391 = omega arith in
    let all =
    mul-le bits (rounds * steps + (rounds - 1) * (2 + 64 * 2) + 1 + n) 6 37391 few_bits each in
    omega arith

pub overflow_mul-result : goal.overflow_mul-result
overflow_mul-result g c =
    let few = few_turns _ _ _ _ _ (c.bits.ensures.least.least 6 c.requires.few)
    c.requires.rounds_few c.steps.ensures (g.met.Q.Ratifier.quick c.args.n c.requires.few)
    c.requires.few in
    omega arith

pub overflow_add-result-4 : goal.overflow_add-result-4
overflow_add-result-4 g c =
    let few = few_turns _ _ _ _ _ (c.bits.ensures.least.least 6 c.requires.few)
    c.requires.rounds_few c.steps.ensures (g.met.Q.Ratifier.quick c.args.n c.requires.few)
    c.requires.few in
    omega arith
