use Rattle.std.proofs.Common.{Bool, ap, ap₂, ◌∙◌, ◌≡◌, codes}
use Rattle.clap.specs.declared.builder.arg.Arg.{Arg}
use Rattle.clap.specs.Words.{app_of, rule_of, new_app, with_rule}
use Rattle.clap.specs.Simple.{app_of_fields}
use Rattle.clap.specs.declared.builder.value_parser.ValueParser.TheVariants.{Unsigned}
use Rattle.bus_commands.specs.CommandLine.{number}
use Rattle.bus_commands.proofs.command_line.run_command.Goals as goal

abbrev is_global : Arg → Bool
is_global a = a.global

pub returns-clause-shape : goal.returns-clause-shape
returns-clause-shape c =
    let begun : app_of c.after_help.result ≡ new_app (codes "run") =
    ap app_of_fields c.after_help.ensures ∙ ap app_of_fields c.about.ensures ∙ c.new.ensures.app in
    let few : c.range-senders.result ≡ Unsigned 1 8 =
    rw c.value_parser.ensures at c.range-senders.ensures in
    let some : c.range-receivers.result ≡ Unsigned 1 8 =
    rw c.value_parser-2.ensures at c.range-receivers.ensures in
    let many : c.range-messages.result ≡ Unsigned 0 400 =
    rw c.value_parser-3.ensures at c.range-messages.ensures in
    let senders : rule_of c.help.result ≡ number (codes "senders") (codes "3") (Unsigned 1 8) =
    ap rule_of c.help.ensures ∙ c.number-2.ensures.rule
    ∙ ap (number (codes "senders") (codes "3")) few in
    let receivers : rule_of c.help-2.result
    ≡ number (codes "receivers") (codes "2") (Unsigned 1 8) =
    ap rule_of c.help-2.ensures ∙ c.number-3.ensures.rule
    ∙ ap (number (codes "receivers") (codes "2")) some in
    let messages : rule_of c.help-3.result
    ≡ number (codes "messages") (codes "100") (Unsigned 0 400) =
    ap rule_of c.help-3.ensures ∙ c.number-4.ensures.rule
    ∙ ap (number (codes "messages") (codes "100")) many in
    let seed : rule_of c.help-seed.result
    ≡ number (codes "seed") (codes "7") (Unsigned 0 18446744073709551615) =
    ap rule_of c.help-seed.ensures ∙ c.number.ensures.rule
    ∙ ap (number (codes "seed") (codes "7")) c.value_parser-4.ensures in
    let one =
    c.in_ok-arg.ensures.shape (ap is_global c.help.ensures ∙ c.number-2.ensures.local)
    ∙ ap₂ with_rule begun senders in
    let two =
    c.in_ok-arg-2.ensures.shape (ap is_global c.help-2.ensures ∙ c.number-3.ensures.local)
    ∙ ap₂ with_rule one receivers in
    let three =
    c.in_ok-arg-3.ensures.shape (ap is_global c.help-3.ensures ∙ c.number-4.ensures.local)
    ∙ ap₂ with_rule two messages in
    let four =
    c.in_ok-arg-4.ensures.shape (ap is_global c.help-seed.ensures ∙ c.number.ensures.local)
    ∙ ap₂ with_rule three seed in
    let five =
    c.in_ok-arg-5.ensures.shape c.log_flag.ensures.local
    ∙ ap₂ with_rule four c.log_flag.ensures.rule in
    c.in_ok-command.ensures.shape c.in_ok-journal_flag.ensures.local
    ∙ ap₂ with_rule five c.in_ok-journal_flag.ensures.rule
