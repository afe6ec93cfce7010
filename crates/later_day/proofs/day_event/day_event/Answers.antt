use Rattle.at_day.proofs.OutcomeLemmas.{on_err}
use Rattle.at_day.specs.Machines.{machine}
use Rattle.later_day.specs.LaterMachines.{later_machine}
use Rattle.later_day.proofs.UnreportedLemmas.{report_lost, unreported_on_day}
use Rattle.later_day.proofs.day_event.day_event.Goals as goal

pub returns-in_err-report-clause-unreported : goal.returns-in_err-report-clause-unreported
returns-in_err-report-clause-unreported c =
    on_err c.from_residual.result
    (unreported_on_day c.args.event.now (later_machine c.args.host.now c.args.daemon.now c.args.post.now)
    (machine c.one_event.new.host c.one_event.new.daemon) c.in_err-report.ensures.unreported)

pub returns-in_err-renew_post-clause-unreported : goal.returns-in_err-renew_post-clause-unreported
returns-in_err-renew_post-clause-unreported c =
    on_err c.from_residual-in_err-renew_post.result
    (report_lost c.args.event.now c.in_ok-report.report (later_machine c.args.host.now c.args.daemon.now c.args.post.now)
    (machine c.one_event.new.host c.one_event.new.daemon) c.in_ok-report.ensures.happens)
