use Rattle.std.proofs.Common.{drop, length, ap, sym, subst, ◌∙◌, arith}
use Rattle.bus_journal.specs.Records.{IsRecordHead}
use Rattle.bus_journal.proofs.Words.{one_word, word_first}
use Rattle.bus_journal.proofs.Chunks.{head_fits}
use Rattle.bus_journal.proofs.records.head_count.Goals as goal

pub returns-in_err-head-clause-none : goal.returns-in_err-head-clause-none
returns-in_err-head-clause-none c = rw c.from_residual.ensures (λ head rest e may.
    let short = c.in_err-head.ensures.none in
    let long = ap length e ∙ word_first head rest in
    absurd (omega arith))

pub returns-then-not-is_record_head-clause-none : goal.returns-then-not-is_record_head-clause-none
returns-then-not-is_record_head-clause-none c head rest e may =
    let there = c.in_ok-head.ensures.some in
    let same = one_word head c.in_ok-head.head rest (drop 8 c.args.bytes.now)
    (head_fits c.args.senders c.args.most head may) c.in_ok-head.ensures.fits (sym e ∙ there) in
    let no = c.if-not-is_record_head.ensures.1
    (subst (λ z. IsRecordHead c.args.senders c.args.most z) same.0 may) in
    absurd cc
