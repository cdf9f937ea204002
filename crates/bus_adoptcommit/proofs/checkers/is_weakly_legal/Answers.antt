use Rattle.bus_adoptcommit.proofs.Tables.{weakly_legal_is}
use Rattle.bus_adoptcommit.proofs.checkers.is_weakly_legal.Goals as goal

pub returns-then-is_valid : goal.returns-then-is_valid
returns-then-is_valid c =
    let is = weakly_legal_is c.args.inputs.now c.args.outputs.now in (
      λ t. is.0 (c.is_valid.ensures.0 c.if-is_valid.true, c.is_convergent.ensures.0 t),
      λ l. c.is_convergent.ensures.1 (is.1 l).1,
    )

pub returns-else-is_valid : goal.returns-else-is_valid
returns-else-is_valid c =
    let is = weakly_legal_is c.args.inputs.now c.args.outputs.now in (
      λ t. absurd (let f = c.if-is_valid.false in cc),
      λ l. c.is_valid.ensures.1 (is.1 l).0,
    )
