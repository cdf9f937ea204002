use Rattle.std.proofs.Common.{length, arith, ap, sym, ◌∙◌, eqb-true}
use Rattle.bus_long.proofs.Cutting.{high_is_none, last_may_be, inner_may_be}
use Rattle.bus_long.proofs.joiners.may_be_piece.Goals as goal

pub returns-then-is_empty-clause-some : goal.returns-then-is_empty-clause-some
returns-then-is_empty-clause-some c follow bytes is =
    let none =
    eqb-true (length c.args.message.now) 0 (sym c.is_empty.ensures ∙ c.if-is_empty.true) in
    let some = ap length is in absurd (omega arith)

pub returns-then-message-ge-MOST_PIECES-clause-some
    : goal.returns-then-message-ge-MOST_PIECES-clause-some
returns-then-message-ge-MOST_PIECES-clause-some c follow bytes is =
    high_is_none c.args.message.now follow bytes is c.if-message-ge-MOST_PIECES.true

pub returns-then-message-eq0-clause-some : goal.returns-then-message-eq0-clause-some
returns-then-message-eq0-clause-some c follow bytes is =
    last_may_be c.args.message.now follow bytes is c.if-message-eq0.true

pub returns-else-message-eq0-clause-some : goal.returns-else-message-eq0-clause-some
returns-else-message-eq0-clause-some c follow bytes is =
    inner_may_be c.args.message.now follow bytes is c.if-message-ge-MOST_PIECES.false
    (omega arith)
