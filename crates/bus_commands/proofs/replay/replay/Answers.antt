use Rattle.std.proofs.Common.{ℕ, List, string_bytes, sym, subst}
use Rattle.std.specs.Io.KnownBytes.{Appends}
use Rattle.bus_tenure.specs.Elections.{election_with}
use Rattle.bus_script.specs.declared.answers.Outcome.{Outcome}
use Rattle.bus_run.specs.declared.faults.RunFault.{RunFault}
use Rattle.bus_commands.specs.declared.streams.TheConstants.{SCRIPT_LIMIT}
use Rattle.bus_commands.specs.Streams.{WritesPart, IsScriptFault}
use Rattle.bus_run.proofs.StopLemmas.{passed_up}
use Rattle.bus_replay.specs.Answers.{IsReplay}
use Rattle.bus_commands.proofs.replay.replay.Goals as goal

pub returns-in_err-write_whole-clause-fault : goal.returns-in_err-write_whole-clause-fault
returns-in_err-write_whole-clause-fault g c =
    let P = g.Q.Ratifier.protocol in
    let X = election_with g.Q.Machine.kind_of g.Q.Machine.op g.Q.Machine.fed P in
    let IsAnswered : List ℕ → List ℕ → Type 0 =
    λ input text. (outcome : Outcome) × IsReplay X P input outcome text in
    let Fails : RunFault → Type 0 =
    IsScriptFault SCRIPT_LIMIT IsAnswered (g.R.Read.remaining c.args.reader.now)
    (g.R.Read.remaining c.read_whole.new.reader) (g.W.Write.contents c.args.writer.now)
    (g.W.Write.contents c.write_whole.new.writer) in
    let answer = c.in_ok-answer.answer in
    passed_up _ _ Fails c.from_residual-in_err-write_whole.ensures
    (subst Fails (sym c.in_err-write_whole.ensures.err) (
      c.in_ok-input.input.items,
      string_bytes answer.text,
      c.in_ok-input.ensures.ok,
      c.in_ok-input.ensures.end,
      (
        answer.outcome,
        subst (λ i. IsReplay X P i answer.outcome (string_bytes answer.text))
            c.as_slice.ensures.value c.in_ok-answer.ensures,
      ),
      subst (λ t. WritesPart (g.W.Write.contents c.args.writer.now)
          (g.W.Write.contents c.write_whole.new.writer) t) c.as_bytes.ensures.value
          c.in_err-write_whole.ensures.part,
    ))

pub returns-clause-ok : goal.returns-clause-ok
returns-clause-ok g c =
    let P = g.Q.Ratifier.protocol in
    let X = election_with g.Q.Machine.kind_of g.Q.Machine.op g.Q.Machine.fed P in
    let answer = c.in_ok-answer.answer in (
      c.in_ok-input.input.items,
      string_bytes answer.text,
      c.in_ok-input.ensures.ok,
      subst (λ i. IsReplay X P i answer.outcome (string_bytes answer.text)) c.as_slice.ensures.value
          c.in_ok-answer.ensures,
      subst (λ t. Appends (g.W.Write.contents c.args.writer.now)
          (g.W.Write.contents c.write_whole.new.writer) t) c.as_bytes.ensures.value
          c.in_ok-write_whole.ensures.ok,
    )
