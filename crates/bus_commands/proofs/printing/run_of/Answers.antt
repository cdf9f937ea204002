use Rattle.std.proofs.Common.{subst}
use Rattle.std.specs.Prelude.{IfOk}
use Rattle.bus_run.specs.Audit.{shape_of_run}
use Rattle.bus_run.specs.Reports.{IsRunReport}
use Rattle.bus_run.specs.declared.reports.Report.{Report}
use Rattle.bus_commands.proofs.printing.run_of.Goals as goal

pub returns-clause-report : goal.returns-clause-report
returns-clause-report g c =
    subst (λ n. IfOk c.run.result (λ (report : Report). IsRunReport
    (shape_of_run c.args.request.senders c.args.request.receivers) n report.ended
    report.heards.items)) c.min-messages.ensures c.run.ensures.report
