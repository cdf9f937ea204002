use Rattle.std.proofs.Common.{◌≡◌, string_bytes, rules, sym, subst, append_assoc, arith}
use Rattle.bus_register.specs.declared.limits.TheConstants.{MOST_MESSAGES}
use Rattle.bus_logtext.specs.Answers.{TellsLog}
use Rattle.bus_logtext.specs.Text.{log_text}
use Rattle.bus_logtext.proofs.AnswerLemmas.{told_so}
use Rattle.bus_logtext.proofs.journals.journal_text.Goals as goal

pub returns : goal.returns
returns c frames lawful words =
    let senders = c.args.read.now.header.senders in
    let told = subst (λ z. TellsLog MOST_MESSAGES senders z (string_bytes c.in-Ok.lines))
    c.deref.ensures.value c.in-Ok.ensures.told in
    let lines : string_bytes c.in-Ok.lines ≡ log_text frames =
    told_so MOST_MESSAGES senders c.args.read.now.words.items (string_bytes c.in-Ok.lines) frames
    (omega arith) lawful (sym words) told in
    search (rules, append_assoc)
