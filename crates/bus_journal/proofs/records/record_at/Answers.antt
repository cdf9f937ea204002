use Rattle.std.proofs.Common.{◌++◌, take, ap, sym, refl, ◌∙◌, arith}
use Rattle.bus_journal.specs.Format.{word_bytes, checksum}
use Rattle.bus_journal.proofs.Chunks.{counted, long_enough, sum_there, begins_with}
use Rattle.bus_journal.proofs.records.record_at.Goals as goal

pub returns-then-count-room-clause-none : goal.returns-then-count-room-clause-none
returns-then-count-room-clause-none c words rest chunk e =
    let size = counted c.args.senders c.args.most c.args.place c.in_ok-count.count c.args.bytes.now
    words rest c.in_ok-count.ensures.some chunk e in
    let long = long_enough c.args.place c.args.bytes.now words rest e in
    elim c.then-count-room.branch [
      | goal.then-count-room-via-then-count-room w ↦
          (let past = w.if-count-room.true in omega arith)
      | goal.then-count-room-via-else-count-room+then-bytes-count w ↦
          (let short = w.if-bytes-count.true in absurd (omega arith))
    ]

pub returns-then-are_same-clause-some : goal.returns-then-are_same-clause-some
returns-then-are_same-clause-some c =
    begins_with c.args.senders c.args.most c.args.place c.args.room c.in_ok-count.count
    c.args.bytes.now c.in_ok-count.ensures.some c.if-count-room.false c.if-bytes-count.false
    (λ i. omega (arith, c.type_inv.bytes i))
    (sym (ap (λ z. take 8 z) c.split_at.ensures.back) ∙ c.if-are_same.ensures.0 refl
    ∙ c.checksum_at.ensures
    ∙ ap (λ z. checksum (word_bytes c.args.place ++ z)) c.split_at.ensures.front)

pub returns-else-are_same-clause-none : goal.returns-else-are_same-clause-none
returns-else-are_same-clause-none c words rest chunk e =
    let size = counted c.args.senders c.args.most c.args.place c.in_ok-count.count c.args.bytes.now
    words rest c.in_ok-count.ensures.some chunk e in
    let no = c.if-are_same.ensures.1
    (ap (λ z. take 8 z) c.split_at.ensures.back
    ∙ sum_there c.args.place c.in_ok-count.count c.args.bytes.now words rest e size
    ∙ sym (c.checksum_at.ensures
    ∙ ap (λ z. checksum (word_bytes c.args.place ++ z)) c.split_at.ensures.front)) in
    absurd cc
