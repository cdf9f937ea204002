use Rattle.std.proofs.Common.{string_bytes, refl, ◌∙◌, ap, subst}
use Rattle.std.specs.Io.KnownBytes.{Appends}
use Rattle.bus_logtext.specs.Words.{words_text}
use Rattle.bus_commands.specs.Streams.{WritesPart}
use Rattle.bus_commands.proofs.PrintLemmas.{is_run_log}
use Rattle.bus_commands.proofs.printing.print_log.Goals as goal

pub returns-in_err-write_whole-clause-write : goal.returns-in_err-write_whole-clause-write
returns-in_err-write_whole-clause-write g c is = (
  c.in_ok-report.ensures.served,
  string_bytes c.in_ok-text.text,
  is_run_log _ _ _ c.in_ok-report.report.ended c.in_ok-report.report.heards.items _
      c.in_ok-report.ensures.report (c.in_ok-text.ensures.text ∙ ap words_text c.log.ensures.log),
  subst (λ t. WritesPart (g.W.Write.contents c.args.writer.now)
      (g.W.Write.contents c.write_whole.new.writer) t) c.as_bytes.ensures.value
      c.in_err-write_whole.ensures.part,
)

pub returns-clause-ok : goal.returns-clause-ok
returns-clause-ok g c = (
  refl,
  string_bytes c.in_ok-text.text,
  is_run_log _ _ _ c.in_ok-report.report.ended c.in_ok-report.report.heards.items _
      c.in_ok-report.ensures.report (c.in_ok-text.ensures.text ∙ ap words_text c.log.ensures.log),
  subst (λ t. Appends (g.W.Write.contents c.args.writer.now)
      (g.W.Write.contents c.write_whole.new.writer) t) c.as_bytes.ensures.value
      c.in_ok-write_whole.ensures.ok,
)
