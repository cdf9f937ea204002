use Rattle.bus_adoptcommit.proofs.Tables.{legal_is}
use Rattle.bus_adoptcommit.proofs.checkers.is_legal.Goals as goal

pub returns-then-is_weakly_legal : goal.returns-then-is_weakly_legal
returns-then-is_weakly_legal c =
    let is = legal_is c.args.inputs.now c.args.outputs.now in (
      λ t. is.0 (c.is_weakly_legal.ensures.0 c.if-is_weakly_legal.true, c.is_coherent.ensures.0 t),
      λ l. c.is_coherent.ensures.1 (is.1 l).1,
    )

pub returns-else-is_weakly_legal : goal.returns-else-is_weakly_legal
returns-else-is_weakly_legal c =
    let is = legal_is c.args.inputs.now c.args.outputs.now in (
      λ t. absurd (let f = c.if-is_weakly_legal.false in cc),
      λ l. c.is_weakly_legal.ensures.1 (is.1 l).0,
    )
