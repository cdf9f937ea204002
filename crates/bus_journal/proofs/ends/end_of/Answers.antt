use Rattle.std.proofs.Common.{take, drop, sym, refl}
use Rattle.std.proofs.lemmas.List.{take-append-drop}
use Rattle.std.proofs.Common.{arith}
use Rattle.std.proofs.lemmas.Grind.{common_steps}
use Rattle.bus_journal.proofs.Shorts.{torn_is_short}
use Rattle.bus_journal.proofs.ends.end_of.Goals as goal

pub returns-then-is_short : goal.returns-then-is_short
returns-then-is_short c =
    let n = c.written_len-written.result in (
      (let some = c.if-is_empty.ensures in λ none. absurd (grind (arith, common_steps, none))),
      record {
        written = take n c.args.rest.now;
        zeros = drop n c.args.rest.now;
        parts = sym (take-append-drop n c.args.rest.now);
        short = c.if-is_short.ensures.0 refl;
        nothing = c.written_len-written.ensures.zeros;
      },
    )

pub returns-else-is_short : goal.returns-else-is_short
returns-else-is_short c torn =
    let no = c.if-is_short.ensures.1
    (torn_is_short c.args.senders c.args.most c.args.rest.now c.written_len-written.result
    c.written_len-written.ensures.within c.written_len-written.ensures.last torn) in
    absurd cc
