use Rattle.std.proofs.Common.{arith}
use Rattle.bus_journal.proofs.Words.{word_there}
use Rattle.bus_journal.proofs.bytes.first_word.Goals as goal

pub returns-clause-some : goal.returns-clause-some
returns-clause-some c =
    word_there c.args.bytes.now c.word_of.result c.if-bytes-lt8.false
    (λ i. omega (arith, c.type_inv.bytes i)) c.word_of.ensures
