use Rattle.std.proofs.Common.{refl, sym, subst, ◌∙◌}
use Rattle.std.specs.Io.KnownBytes.{Appends}
use Rattle.bus_commands.specs.Streams.{WritesPart}
use Rattle.bus_commands.proofs.PrintLemmas.{is_run_journal}
use Rattle.bus_commands.proofs.printing.print_journal.Goals as goal

pub returns-in_err-write_whole-clause-write : goal.returns-in_err-write_whole-clause-write
returns-in_err-write_whole-clause-write g c is = (
  c.in_ok-report.ensures.served,
  c.in_ok-bytes.bytes.items,
  is_run_journal _ _ _ c.in_ok-report.report.ended c.in_ok-report.report.heards.items _
      c.in_ok-report.ensures.report
      (λ frames lawful words. c.in_ok-bytes.ensures frames lawful (words ∙ sym c.log.ensures.log)),
  subst (λ t. WritesPart (g.W.Write.contents c.args.writer.now)
      (g.W.Write.contents c.write_whole.new.writer) t) c.as_slice.ensures.value
      c.in_err-write_whole.ensures.part,
)

pub returns-clause-ok : goal.returns-clause-ok
returns-clause-ok g c = (
  refl,
  c.in_ok-bytes.bytes.items,
  is_run_journal _ _ _ c.in_ok-report.report.ended c.in_ok-report.report.heards.items _
      c.in_ok-report.ensures.report
      (λ frames lawful words. c.in_ok-bytes.ensures frames lawful (words ∙ sym c.log.ensures.log)),
  subst (λ t. Appends (g.W.Write.contents c.args.writer.now)
      (g.W.Write.contents c.write_whole.new.writer) t) c.as_slice.ensures.value
      c.in_ok-write_whole.ensures.ok,
)
