use Rattle.std.proofs.Common.{All, ◌++◌, string_bytes, arith, ap, sym, ◌∙◌, subst}
use Rattle.bus_tenure.specs.declared.pages.Page.{Page}
use Rattle.bus_run.specs.Audit.{IsFair, IsFirstFault}
use Rattle.bus_run.specs.RunText.{sender_lines, receiver_lines, page_lines}
use Rattle.bus_run.specs.Stops.{IsTextFault}
use Rattle.bus_run.proofs.RunTextLemmas.{three_parts}
use Rattle.bus_run.proofs.StopLemmas.{passed_up}
use Rattle.bus_run.proofs.reports.report_text.Goals as goal

pub returns-clause-fair : goal.returns-clause-fair
returns-clause-fair c = λ order owners spells. subst (All (IsFair order))
    c.as_slice-heards.ensures.value (c.in_ok-audit.ensures.ok order owners spells)

pub returns-clause-text : goal.returns-clause-text
returns-clause-text c = λ order owners spells.
    three_parts (string_bytes c.new-text.result) (string_bytes c.push_senders.new.text)
    (string_bytes c.push_receivers.new.text) (string_bytes c.push_page.new.text)
    (sender_lines order c.args.senders) (receiver_lines 0 c.args.report.now.heards.items)
    (page_lines c.args.report.now.ended.page)
    c.new-text.ensures.bytes
    (c.in_ok-push_senders.ensures order owners spells)
    (c.in_ok-push_receivers.ensures
    ∙ ap (λ hs. string_bytes c.push_senders.new.text ++ receiver_lines 0 hs)
    c.as_slice-heards.ensures.value)
    (c.in_ok-push_page.ensures
    ∙ ap (λ g. string_bytes c.push_receivers.new.text ++ page_lines g) c.page.ensures.page)

pub returns-clause-words : goal.returns-clause-words
returns-clause-words c =
    let words =
    ap (λ (g : Page). g.words) (sym c.page.ensures.page) ∙ c.page.ensures.words in
    let whole = c.args.report.now.whole in
    omega arith

pub returns-in_err-audit-clause-fault : goal.returns-in_err-audit-clause-fault
returns-in_err-audit-clause-fault c =
    passed_up _ _ (IsTextFault c.args.report.now.ended c.args.report.now.heards.items)
    c.from_residual.ensures
    (λ order owners spells. subst (λ hs. IsFirstFault order hs c.in_err-audit.field-0.0)
    c.as_slice-heards.ensures.value (c.in_err-audit.ensures.fault order owners spells))
