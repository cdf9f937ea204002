use Rattle.std.proofs.Common.{◌*◌, ◌+◌, length, ap, sym, ◌∙◌, arith, inl, inr}
use Rattle.std.proofs.lemmas.Bool.{ltb-true, lt-ltb}
use Rattle.bus_journal.specs.Records.{count_of}
use Rattle.bus_journal.proofs.Words.{one_word}
use Rattle.bus_journal.proofs.Chunks.{head_fits}
use Rattle.bus_journal.proofs.ends.is_short.Goals as goal

pub returns-in-Some : goal.returns-in-Some
returns-in-Some c =
    let b = c.in-Some.ensures.some in
    let is = b.count_is in
    let long = c.if-bytes-lt8.false in (
      λ below.
          let few = ltb-true (length c.args.bytes.now) (8 * (c.in-Some.count + 1)) below in
          inr (b.head, b.rest, b.parts, b.may, omega arith),
      λ short. elim short [
        | inl few ↦ absurd (omega arith)
        | inr h ↦
            let same = one_word h.0 b.head h.1 b.rest
            (head_fits c.args.senders c.args.most h.0 h.3)
            (head_fits c.args.senders c.args.most b.head b.may) (sym h.2 ∙ b.parts) in
            let counts = ap count_of same.0 in
            let few = h.4 in
            lt-ltb (length c.args.bytes.now) (8 * (c.in-Some.count + 1)) (omega arith)
      ],
    )
