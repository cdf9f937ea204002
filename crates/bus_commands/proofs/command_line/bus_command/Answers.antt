use Rattle.std.proofs.Common.{Bool, ap, ap₂, ◌∙◌, ◌≡◌, ◌||◌, true, codes}
use Rattle.clap.specs.Words.{App, app_of, new_app, with_rule, with_subcommand}
use Rattle.clap.specs.Simple.{app_of_fields}
use Rattle.clap.specs.declared.builder.command.Command.{Command}
use Rattle.clap.specs.declared.builder.command.Command.TheOpen.{Command-F}
use Rattle.bus_commands.specs.CommandLine.{bus_alone, ratify_command, replay_command, trace_command}
use Rattle.bus_commands.proofs.command_line.bus_command.Goals as goal

abbrev has : Command-F Command → Bool
has c = c.has_globals

top_of : (a b : App) → a ≡ b → a.top ≡ b.top
top_of a b e = ap (λ (z : App). z.top) e

-- what each setting changes of what a parse reads
abbrev versioned : App → App
versioned a = record a { top = record a.top { has_version = true } }

abbrev required : App → App
required a = record a { top = record a.top { subcommand_required = true } }

abbrev needed : App → App
needed a = record a { top = record a.top { arg_required_else_help = true } }

abbrev silent : App → App
silent a = record a { top = record a.top { disable_help_subcommand = true } }

pub returns : goal.returns
returns c =
    let ratify : app_of c.after_help-ratify.result ≡ ratify_command =
    ap app_of_fields c.after_help-ratify.ensures ∙ ap app_of_fields c.override_usage.ensures
    ∙ ap app_of_fields c.about.ensures ∙ c.new.ensures.app in
    let replay : app_of c.after_help-replay.result ≡ replay_command =
    ap app_of_fields c.after_help-replay.ensures ∙ ap app_of_fields c.override_usage-2.ensures
    ∙ ap app_of_fields c.about-2.ensures ∙ c.new-2.ensures.app in
    let traced : app_of c.after_help.result ≡ new_app (codes "trace") =
    ap app_of_fields c.after_help.ensures ∙ ap app_of_fields c.override_usage-3.ensures
    ∙ ap app_of_fields c.about-3.ensures ∙ c.new-3.ensures.app in
    let trace : app_of c.in_ok-trace.trace ≡ trace_command =
    c.in_ok-trace.ensures.shape c.in_ok-play_flag.ensures.local
    ∙ ap₂ with_rule (c.in_ok-arg-2.ensures.shape c.in_ok-html_flag.ensures.local
    ∙ ap₂ with_rule (c.in_ok-arg.ensures.shape c.svg_flag.ensures.local
    ∙ ap₂ with_rule traced c.svg_flag.ensures.rule) c.in_ok-html_flag.ensures.rule)
    c.in_ok-play_flag.ensures.rule in
    let named : app_of c.in_ok-bin_name.field-0 ≡ new_app (codes "bus") =
    ap app_of_fields c.in_ok-bin_name.ensures.0 ∙ c.new-4.ensures.app in
    let told : app_of c.after_help-2.result ≡ versioned (new_app (codes "bus")) =
    ap app_of_fields c.after_help-2.ensures ∙ ap app_of_fields c.about-4.ensures
    ∙ ap app_of_fields c.before_help.ensures ∙ ap app_of_fields c.version.ensures
    ∙ ap versioned named in
    let alone : app_of c.disable_help_subcommand.result ≡ bus_alone =
    ap app_of_fields c.disable_help_subcommand.ensures
    ∙ ap silent
    (ap app_of_fields c.arg_required_else_help.ensures
    ∙ ap needed (ap app_of_fields c.subcommand_required.ensures ∙ ap required told)) in
    let ratify_local =
    ap has c.after_help-ratify.ensures ∙ ap has c.override_usage.ensures ∙ ap has c.about.ensures
    ∙ c.new.ensures.local in
    let replay_local =
    ap has c.after_help-replay.ensures ∙ ap has c.override_usage-2.ensures
    ∙ ap has c.about-2.ensures ∙ c.new-2.ensures.local in
    let traced_local =
    ap has c.after_help.ensures ∙ ap has c.override_usage-3.ensures ∙ ap has c.about-3.ensures
    ∙ c.new-3.ensures.local in
    let trace_local = c.in_ok-trace.ensures.globals
    ∙ ap₂ ◌||◌ (c.in_ok-arg-2.ensures.globals
    ∙ ap₂ ◌||◌ (c.in_ok-arg.ensures.globals ∙ ap₂ ◌||◌ traced_local c.svg_flag.ensures.local)
    c.in_ok-html_flag.ensures.local) c.in_ok-play_flag.ensures.local in
    let first =
    c.in_ok-subcommand.ensures.shape ratify_local ∙ ap₂ with_subcommand alone (top_of _ _ ratify) in
    let second =
    c.in_ok-subcommand-2.ensures.shape replay_local
    ∙ ap₂ with_subcommand first (top_of _ _ replay) in
    let third =
    c.in_ok-subcommand-3.ensures.shape trace_local
    ∙ ap₂ with_subcommand second (top_of _ _ trace) in
    let fourth =
    c.in_ok-subcommand-4.ensures.shape c.in_ok-run_command.ensures.local
    ∙ ap₂ with_subcommand third (top_of _ _ c.in_ok-run_command.ensures.shape) in
    let fifth =
    c.in_ok-subcommand-5.ensures.shape c.in_ok-log_command.ensures.local
    ∙ ap₂ with_subcommand fourth (top_of _ _ c.in_ok-log_command.ensures.shape) in
    c.in_ok-bus.ensures.shape c.in_ok-journal_command.ensures.local
    ∙ ap₂ with_subcommand fifth (top_of _ _ c.in_ok-journal_command.ensures.shape)
