use Rattle.std.proofs.Common.{◌≡◌, ℕ, List, string_bytes, sym, subst, ap, ◌∙◌}
use Rattle.std.specs.Io.KnownBytes.{Appends}
use Rattle.bus_tenure.specs.Elections.{election_with}
use Rattle.bus_script.specs.declared.answers.Outcome.{Outcome}
use Rattle.bus_run.specs.declared.faults.RunFault.{RunFault}
use Rattle.bus_commands.specs.declared.streams.TheConstants.{SCRIPT_LIMIT}
use Rattle.bus_commands.specs.Streams.{WritesPart, IsScriptFault}
use Rattle.bus_run.proofs.StopLemmas.{passed_up}
use Rattle.bus_trace.specs.Traces.{IsTrace}
use Rattle.bus_picture.specs.Pictures.{picture}
use Rattle.bus_commands.proofs.picture.picture.Goals as goal

pub returns-in_err-write_whole-clause-fault : goal.returns-in_err-write_whole-clause-fault
returns-in_err-write_whole-clause-fault g c =
    let X =
    election_with g.Q.Machine.kind_of g.Q.Machine.op g.Q.Machine.fed g.Q.Ratifier.protocol in
    let P = g.Q.Ratifier.protocol in
    let IsAnswered : List ℕ → List ℕ → Type 0 = λ input text.
    (outcome : Outcome) × (trace : List ℕ) × IsTrace X P input outcome trace
    × (text ≡ picture trace) in
    let Fails : RunFault → Type 0 =
    IsScriptFault SCRIPT_LIMIT IsAnswered (g.R.Read.remaining c.args.reader.now)
    (g.R.Read.remaining c.read_whole.new.reader) (g.W.Write.contents c.args.writer.now)
    (g.W.Write.contents c.write_whole.new.writer) in
    let answer = c.in_ok-answer.answer in
    passed_up _ _ Fails c.from_residual-in_err-write_whole.ensures
    (subst Fails (sym c.in_err-write_whole.ensures.err) (
      c.in_ok-input.input.items,
      string_bytes c.in_ok-drawn.drawn,
      c.in_ok-input.ensures.ok,
      c.in_ok-input.ensures.end,
      (
        answer.outcome,
        string_bytes answer.text,
        subst (λ i. IsTrace X P i answer.outcome (string_bytes answer.text))
            c.as_slice.ensures.value c.in_ok-answer.ensures,
        c.in_ok-drawn.ensures ∙ ap picture c.deref.ensures,
      ),
      subst (λ t. WritesPart (g.W.Write.contents c.args.writer.now)
          (g.W.Write.contents c.write_whole.new.writer) t) c.as_bytes.ensures.value
          c.in_err-write_whole.ensures.part,
    ))

pub returns-clause-ok : goal.returns-clause-ok
returns-clause-ok g c =
    let X =
    election_with g.Q.Machine.kind_of g.Q.Machine.op g.Q.Machine.fed g.Q.Ratifier.protocol in
    let P = g.Q.Ratifier.protocol in
    let answer = c.in_ok-answer.answer in (
      c.in_ok-input.input.items,
      c.in_ok-input.ensures.ok,
      subst (λ i. IsTrace X P i answer.outcome (string_bytes answer.text)) c.as_slice.ensures.value
          c.in_ok-answer.ensures,
      subst (λ t. Appends (g.W.Write.contents c.args.writer.now)
          (g.W.Write.contents c.write_whole.new.writer) t)
          (c.as_bytes.ensures.value ∙ c.in_ok-drawn.ensures ∙ ap picture c.deref.ensures)
          c.in_ok-write_whole.ensures.ok,
    )
