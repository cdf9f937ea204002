use Rattle.std.proofs.Common.{subst}
use Rattle.bus_batch.specs.Frames.{Spells}
use Rattle.bus_deliverylog.specs.Logs.{IsFirstBad}
use Rattle.bus_deliverylog.specs.Orders.{order_held}
use Rattle.bus_journal.specs.Reading.{heading_of}
use Rattle.bus_journal.proofs.Walking.{told_all, told_good}
use Rattle.bus_journal.proofs.reading.read_records.Goals as goal

pub returns-in-Ok-clause-told : goal.returns-in-Ok-clause-told
returns-in-Ok-clause-told c =
    let h = c.args.header.now in
    let w = c.in_ok-walked.walked in
    let log = c.in-Ok.log in
    told_all (heading_of h) c.args.body.now log w.words.items w.size c.in_ok-walked.ensures
    (subst (λ z. Spells h.senders z (order_held log.order) log.owners.items) c.deref.ensures.value
    c.in-Ok.ensures.read)

pub returns-in-Ok-read_log-clause-told : goal.returns-in-Ok-read_log-clause-told
returns-in-Ok-read_log-clause-told c =
    let h = c.args.header.now in
    let w = c.in_ok-walked.walked in
    let v = c.in_ok-walked-in-Err-BadWord.walked in
    let log = c.in-Ok-read_log.log in
    let place = c.in-Err-BadWord.place in
    told_good (heading_of h) c.args.body.now log w.words.items v.words.items w.size v.size place
    c.in_ok-walked.ensures c.in_ok-walked-in-Err-BadWord.ensures
    (subst (λ z. IsFirstBad h.senders z place) c.deref.ensures.value
    (c.in-Err-BadWord.ensures.bad place (let is = c.in-Err-BadWord.field-0-is in cc)))
    (subst (λ z. Spells h.senders z (order_held log.order) log.owners.items)
    c.deref-in-Err-BadWord.ensures.value c.in-Ok-read_log.ensures.read)
