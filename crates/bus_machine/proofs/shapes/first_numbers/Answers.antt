use Rattle.std.proofs.Common.{arith}
use Rattle.bus_world.proofs.Beginning.{no_bases_are}
use Rattle.bus_machine.proofs.Bases.NewSenders.{no_bases_low}
use Rattle.bus_machine.proofs.shapes.first_numbers.Goals as goal

pub returns-in_default-clause-are : goal.returns-in_default-clause-are
returns-in_default-clause-are c = no_bases_are

pub returns-in_default-clause-low : goal.returns-in_default-clause-low
returns-in_default-clause-low c s =
    no_bases_low c.args.passers c.args.batch s (c.is_batch.ensures.0 c.if-not-is_batch.false)

pub returns-clause-are : goal.returns-clause-are
returns-clause-are c = record {
  many = c.are_low.ensures.many;
  low = λ s.
      let a = c.are_low.ensures.low c.if-not-are_low.false s in
      let b = c.numbers_below.ensures.most in omega arith;
}
