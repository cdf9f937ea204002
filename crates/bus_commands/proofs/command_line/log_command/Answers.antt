use Rattle.std.proofs.Common.{Bool, ap, ap₂, ◌∙◌, ◌≡◌, codes}
use Rattle.clap.specs.declared.builder.arg.Arg.{Arg}
use Rattle.clap.specs.Words.{app_of, rule_of, new_app, with_rule}
use Rattle.clap.specs.Simple.{app_of_fields}
use Rattle.clap.specs.declared.builder.value_parser.ValueParser.TheVariants.{Unsigned}
use Rattle.bus_commands.specs.CommandLine.{number}
use Rattle.bus_commands.proofs.command_line.log_command.Goals as goal

abbrev is_global : Arg → Bool
is_global a = a.global

pub returns-clause-shape : goal.returns-clause-shape
returns-clause-shape c =
    let begun : app_of c.after_help.result ≡ new_app (codes "log") =
    ap app_of_fields c.after_help.ensures ∙ ap app_of_fields c.override_usage.ensures
    ∙ ap app_of_fields c.about.ensures ∙ c.new.ensures.app in
    let few : c.range-senders.result ≡ Unsigned 1 64 =
    rw c.value_parser.ensures at c.range-senders.ensures in
    let many : c.range-batch.result ≡ Unsigned 1 64 =
    rw c.value_parser-2.ensures at c.range-batch.ensures in
    let senders : rule_of c.help.result ≡ number (codes "senders") (codes "3") (Unsigned 1 64) =
    ap rule_of c.help.ensures ∙ c.number.ensures.rule
    ∙ ap (number (codes "senders") (codes "3")) few in
    let batch : rule_of c.help-2.result ≡ number (codes "batch") (codes "16") (Unsigned 1 64) =
    ap rule_of c.help-2.ensures ∙ c.number-2.ensures.rule
    ∙ ap (number (codes "batch") (codes "16")) many in
    let one =
    c.in_ok-arg.ensures.shape (ap is_global c.help.ensures ∙ c.number.ensures.local)
    ∙ ap₂ with_rule begun senders in
    c.in_ok-command.ensures.shape (ap is_global c.help-2.ensures ∙ c.number-2.ensures.local)
    ∙ ap₂ with_rule one batch
