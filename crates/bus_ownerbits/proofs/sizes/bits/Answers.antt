use Rattle.std.proofs.Common.{arith, inl, inr, ◌<◌}
use Rattle.bus_ownerbits.proofs.NumberLaws.{bits_are, same_bits, tested}
use Rattle.bus_ownerbits.proofs.sizes.bits.Goals as goal

pub overflow_add-bits : goal.overflow_add-bits
overflow_add-bits c = elim (tested 6 c.loop-reach.bits) [
  | inl t ↦ absurd (let h : 64 < c.args.n = c.loop-reach.invariant.less 6 t.1 in
      let f = c.requires.few in omega arith)
  | inr t ↦ let h = t.1 in omega arith
]

pub returns-clause-value : goal.returns-clause-value
returns-clause-value c =
    same_bits c.args.n c.loop-reach.bits _ record {
      enough =
          let p = c.loop-reach.invariant.power in let t = c.loop-reach-test.false in omega arith;
      least = λ k h. elim (tested k c.loop-reach.bits) [
        | inl t ↦ absurd (let l = c.loop-reach.invariant.less k t.1 in omega arith)
        | inr t ↦ t.1
      ];
    } (bits_are c.args.n c.requires.some c.requires.few)
