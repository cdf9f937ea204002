use Rattle.std.proofs.Common.{◌++◌, ◌∙◌, Some, string_bytes, sym, ap, subst}
use Rattle.std.specs.Option.{option_map}
use Rattle.bus_tenure.specs.Elections.{election_with}
use Rattle.bus_script.specs.declared.line_numbers.LineNumber.TheVariants.{AtLine}
use Rattle.bus_script.specs.LineNumbers.{refusal_line}
use Rattle.bus_replay.specs.Told.{command_told}
use Rattle.bus_replay.proofs.AskLemmas.{asks_some}
use Rattle.bus_trace.specs.Words.{sizes_told}
use Rattle.bus_trace.specs.Obeying.{IsDone}
use Rattle.bus_trace.proofs.PlayRows.{answered, refused}
use Rattle.bus_trace.proofs.playing.trace_line.Goals as goal

pub trace_command-requires-clause-some : goal.trace_command-requires-clause-some
trace_command-requires-clause-some g c = λ event times is.
    asks_some c.args.line.bytes.now event times
    (sym c.in_ok-command.ensures ∙ ap (option_map command_told) c.in-Some.is ∙ ap Some is)

pub returns-in-None-clause-obeyed : goal.returns-in-None-clause-obeyed
returns-in-None-clause-obeyed g c =
    let P = g.Q.Ratifier.protocol in
    let X = election_with g.Q.Machine.kind_of g.Q.Machine.op g.Q.Machine.fed P in
    let p = sizes_told c.args.memory_map in
    let command = command_told c.in-Some.command in
    let old = string_bytes c.args.sheet.now.text in
    let new = string_bytes c.trace_command.new.sheet.text in
    answered X P p c.args.bus.now (c.args.line.number, c.args.line.bytes.now)
    c.trace_command.new.bus old c.args.sheet.now.lines command new c.trace_command.new.sheet.lines
    (sym (ap (option_map command_told) c.in-Some.is) ∙ c.in_ok-command.ensures)
    (subst (λ f. IsDone X P p c.args.line.number c.args.bus.now command old
    c.args.sheet.now.lines new c.trace_command.new.sheet.lines f c.trace_command.new.bus)
    c.in-None.is c.in_ok-trace_command.ensures.done)

pub returns-clause-obeyed : goal.returns-clause-obeyed
returns-clause-obeyed g c =
    let P = g.Q.Ratifier.protocol in
    let X = election_with g.Q.Machine.kind_of g.Q.Machine.op g.Q.Machine.fed P in
    let p = sizes_told c.args.memory_map in
    let command = command_told c.in-Some.command in
    let old = string_bytes c.args.sheet.now.text in
    let new = string_bytes c.trace_command.new.sheet.text in
    refused X P p c.args.bus.now (c.args.line.number, c.args.line.bytes.now)
    c.trace_command.new.bus old c.args.sheet.now.lines c.in-Some-2.fault new
    c.trace_command.new.sheet.lines command (string_bytes c.push_refusal-in-Some-2.new.text)
    c.trace_command.new.sheet.lines
    (sym (ap (option_map command_told) c.in-Some.is) ∙ c.in_ok-command.ensures)
    (subst (λ f. IsDone X P p c.args.line.number c.args.bus.now command old
    c.args.sheet.now.lines new c.trace_command.new.sheet.lines f c.trace_command.new.bus)
    c.in-Some-2.is c.in_ok-trace_command.ensures.done)
    (c.in_ok-push_refusal-in-Some-2.ensures
    ∙ ap (λ n. new ++ refusal_line (AtLine c.args.line.number) n) c.step_fault_name-name.ensures)
