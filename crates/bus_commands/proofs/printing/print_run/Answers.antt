use Rattle.std.proofs.Common.{◌≡◌, ◌⊎◌, inr, length, string_bytes, refl, subst}
use Rattle.std.specs.Io.KnownBytes.{Appends}
use Rattle.bus_commands.specs.Streams.{WritesPart}
use Rattle.bus_commands.proofs.PrintLemmas.{is_run_text, passed_on, no_stop_is_write}
use Rattle.bus_commands.proofs.PrintLemmas.{no_run_fault_is_write}
use Rattle.bus_run.specs.Stops.{IsStop, IsRunFault}
use Rattle.bus_run.specs.declared.faults.RunFault.{RunFault}
use Rattle.bus_run.specs.declared.faults.RunFault.TheVariants as run
use Rattle.bus_run.proofs.StopLemmas.{passed_up, text_stop}
use Rattle.bus_commands.proofs.printing.print_run.Goals as goal

pub returns-in_err-report-clause-write : goal.returns-in_err-report-clause-write
returns-in_err-report-clause-write g c is = absurd
    (no_run_fault_is_write _ _ _ c.in_err-report.ensures.fault
    (passed_on _ _ c.from_residual.ensures is))

pub returns-in_err-text-clause-write : goal.returns-in_err-text-clause-write
returns-in_err-text-clause-write g c is =
    let report = c.in_ok-report.report in
    let fault = c.in_err-text.field-0.0 in
    let stop = text_stop c.args.request.senders report.ended report.heards.items fault
    c.in_ok-report.ensures.report.spelled c.in_err-text.ensures.fault in
    absurd (no_stop_is_write c.args.request.senders (length report.heards.items) fault stop
    (passed_on _ _ c.from_residual-in_err-text.ensures is))

pub returns-in_err-text-clause-fault : goal.returns-in_err-text-clause-fault
returns-in_err-text-clause-fault g c =
    let report = c.in_ok-report.report in
    let fault = c.in_err-text.field-0.0 in
    let made = c.in_ok-report.ensures.report in
    let stop = text_stop c.args.request.senders report.ended report.heards.items fault made.spelled
    c.in_err-text.ensures.fault in
    let Fails : RunFault → Type 0 =
    λ e. (e ≡ run.Write) ⊎ IsRunFault c.args.request.senders c.args.request.receivers e in
    passed_up _ _ Fails c.from_residual-in_err-text.ensures
    (inr (inr (
      subst (λ n. IsStop c.args.request.senders n fault) made.each stop,
      c.in_ok-report.ensures.served,
    )))

pub returns-in_err-write_whole-clause-write : goal.returns-in_err-write_whole-clause-write
returns-in_err-write_whole-clause-write g c is = (
  c.in_ok-report.ensures.served,
  string_bytes c.in_ok-text.text,
  is_run_text _ _ _ c.in_ok-report.report.ended c.in_ok-report.report.heards.items _
      c.in_ok-report.ensures.report c.in_ok-text.ensures.text,
  subst (λ t. WritesPart (g.W.Write.contents c.args.writer.now)
      (g.W.Write.contents c.write_whole.new.writer) t) c.as_bytes.ensures.value
      c.in_err-write_whole.ensures.part,
)

pub returns-clause-ok : goal.returns-clause-ok
returns-clause-ok g c = (
  refl,
  string_bytes c.in_ok-text.text,
  is_run_text _ _ _ c.in_ok-report.report.ended c.in_ok-report.report.heards.items _
      c.in_ok-report.ensures.report c.in_ok-text.ensures.text,
  subst (λ t. Appends (g.W.Write.contents c.args.writer.now)
      (g.W.Write.contents c.write_whole.new.writer) t) c.as_bytes.ensures.value
      c.in_ok-write_whole.ensures.ok,
)
