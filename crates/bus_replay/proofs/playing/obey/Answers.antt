use Rattle.std.proofs.Common.{◌≡◌, ℕ, List, Option, Some, ◌-◌, string_bytes, sym, ap}
use Rattle.std.proofs.Common.{◌∙◌}
use Rattle.std.specs.Option.{option_map}
use Rattle.bus_tenure.specs.Elections.{election_with}
use Rattle.bus_world.specs.Playing.{event_told}
use Rattle.bus_machine.specs.Playing.{Refused}
use Rattle.bus_replay.specs.Lines.{Command, command_of}
use Rattle.bus_replay.specs.Text.{answer_line, fork_line}
use Rattle.bus_replay.specs.Told.{IsRepeated, command_told}
use Rattle.bus_replay.specs.declared.commands.Command.{Command as Told}
use Rattle.bus_replay.proofs.AskLemmas.{asks_some}
use Rattle.bus_replay.proofs.PlayLemmas.{one_obeyed, one_forked, play_refused, fork_refused}
use Rattle.bus_replay.proofs.PlayLemmas.{refused_so}
use Rattle.bus_replay.proofs.RepeatLemmas.{when_ok, when_err}
use Rattle.bus_replay.proofs.playing.obey.Goals as goal

-- what the line asks for
asked : (line : List ℕ) (o : Option Told) (command : Told) (c : Command)
    → option_map command_told o ≡ command_of line → o ≡ Some command → command_told command ≡ c
    → command_of line ≡ Some c
asked line o command c told is named =
    sym told ∙ ap (λ (x : Option Told). option_map command_told x) is ∙ ap Some named

pub repeat-requires-clause-some : goal.repeat-requires-clause-some
repeat-requires-clause-some g c =
    asks_some c.args.line.bytes.now (event_told c.in-Play.event) c.in-Play.times
    (asked c.args.line.bytes.now c.in_ok-command.field-0 c.in-Some.command _
    c.in_ok-command.ensures c.in-Some.is (ap command_told c.in-Play.is))

pub returns-in-Ok : goal.returns-in-Ok
returns-in-Ok g c =
    let X =
    election_with g.Q.Machine.kind_of g.Q.Machine.op g.Q.Machine.fed g.Q.Ratifier.protocol in
    let event = event_told c.in-Play.event in (
      answer_line event c.in-Ok.answer,
      one_obeyed X g.Q.Ratifier.protocol c.args.bus.now c.repeat.new.bus c.args.history.now
          c.repeat.new.history (c.args.line.number, c.args.line.bytes.now) event c.in-Play.times
          c.in-Ok.answer
          (asked c.args.line.bytes.now c.in_ok-command.field-0 c.in-Some.command _
          c.in_ok-command.ensures c.in-Some.is (ap command_told c.in-Play.is))
          (when_ok (λ last. IsRepeated X g.Q.Ratifier.protocol c.args.bus.now c.args.history.now
          event (c.in-Play.times - 1) last c.repeat.new.bus c.repeat.new.history)
          c.in_ok-answer-in-Play.field-0 c.in-Ok.answer c.in-Ok.is
          c.in_ok-answer-in-Play.ensures.last),
      c.in_ok-push_answer_line-in-Ok.ensures,
    )

pub returns-in-Play : goal.returns-in-Play
returns-in-Play g c =
    let X =
    election_with g.Q.Machine.kind_of g.Q.Machine.op g.Q.Machine.fed g.Q.Ratifier.protocol in
    let event = event_told c.in-Play.event in
    let name = c.step_fault_name.result.now in
    refused_so X g.Q.Ratifier.protocol c.args.bus.now _ c.args.history.now _
    (c.args.line.number, c.args.line.bytes.now) name
    (string_bytes c.args.text.now) (string_bytes c.refuse-in-Err.new.text) c.refuse-in-Err.result
    c.refuse-in-Err.ensures.outcome c.refuse-in-Err.ensures.text
    (play_refused X g.Q.Ratifier.protocol c.args.bus.now c.args.bus.now c.args.history.now
    c.args.history.now (c.args.line.number, c.args.line.bytes.now) event c.in-Play.times name
    c.in-Err.fault
    (asked c.args.line.bytes.now c.in_ok-command.field-0 c.in-Some.command _
    c.in_ok-command.ensures c.in-Some.is (ap command_told c.in-Play.is))
    (when_err (Refused c.args.bus.now event) c.in_ok-answer-in-Play.field-0 c.in-Err.fault
    c.in-Err.is c.in_ok-answer-in-Play.ensures.fault) c.step_fault_name.ensures)

pub returns-in-Ok-fork_noted : goal.returns-in-Ok-fork_noted
returns-in-Ok-fork_noted g c =
    let X =
    election_with g.Q.Machine.kind_of g.Q.Machine.op g.Q.Machine.fed g.Q.Ratifier.protocol in
    let i = c.in-Fork.receiver in
    let j = c.in-Fork.number in (
      fork_line i j c.in-Ok-fork_noted.did,
      one_forked X g.Q.Ratifier.protocol c.args.bus.now c.fork_noted.new.bus c.args.history.now
          c.fork_noted.new.history (c.args.line.number, c.args.line.bytes.now) i j
          c.in-Ok-fork_noted.did
          (asked c.args.line.bytes.now c.in_ok-command.field-0 c.in-Some.command _
          c.in_ok-command.ensures c.in-Some.is (ap command_told c.in-Fork.is))
          c.in-Ok-fork_noted.ensures.forked c.in-Ok-fork_noted.ensures.noted,
      c.in_ok-push_fork_line-in-Ok-fork_noted.ensures,
    )

pub returns : goal.returns
returns g c =
    let X =
    election_with g.Q.Machine.kind_of g.Q.Machine.op g.Q.Machine.fed g.Q.Ratifier.protocol in
    let i = c.in-Fork.receiver in
    let j = c.in-Fork.number in
    let name = c.step_fault_name-in-Err-fork_noted.result.now in
    refused_so X g.Q.Ratifier.protocol c.args.bus.now _ c.args.history.now _
    (c.args.line.number, c.args.line.bytes.now) name
    (string_bytes c.args.text.now) (string_bytes c.refuse-in-Err-fork_noted.new.text)
    c.refuse-in-Err-fork_noted.result c.refuse-in-Err-fork_noted.ensures.outcome
    c.refuse-in-Err-fork_noted.ensures.text
    (fork_refused X g.Q.Ratifier.protocol c.args.bus.now c.args.bus.now c.args.history.now
    c.args.history.now (c.args.line.number, c.args.line.bytes.now) i j name
    c.in-Err-fork_noted.fault
    (asked c.args.line.bytes.now c.in_ok-command.field-0 c.in-Some.command _
    c.in_ok-command.ensures c.in-Some.is (ap command_told c.in-Fork.is))
    c.in-Err-fork_noted.ensures.fault c.step_fault_name-in-Err-fork_noted.ensures)
