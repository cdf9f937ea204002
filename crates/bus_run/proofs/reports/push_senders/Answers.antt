use Rattle.std.proofs.Common.{◌≡◌, ◌++◌, string_bytes, append-nil, sym, subst, arith}
use Rattle.bus_run.specs.RunText.{sender_lines}
use Rattle.bus_run.proofs.RunTextLemmas.{one_more_sender}
use Rattle.bus_run.proofs.reports.push_senders.Goals as goal

pub loop-number-init : goal.loop-number-init
loop-number-init c = λ order owners spells. sym (append-nil (string_bytes c.args.text.now))

pub loop-number-preserved : goal.loop-number-preserved
loop-number-preserved c = λ order owners spells. one_more_sender order c.loop-number.number
    c.count.result (string_bytes c.args.text.now) (string_bytes c.loop-number.text)
    (string_bytes c.push_sender.new.text) (c.loop-number.invariant order owners spells)
    c.in_ok-push_sender.ensures (c.count.ensures.counts c.requires.whole order owners spells)

pub returns : goal.returns
returns c = λ order owners spells.
    let all : c.loop-number.number ≡ c.args.senders = omega arith in
    subst
    (λ n. string_bytes c.loop-number.text ≡ string_bytes c.args.text.now ++ sender_lines order n)
    all (c.loop-number.invariant order owners spells)
