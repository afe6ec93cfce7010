use Rattle.std.proofs.Common.{List, sym, subst}
use Rattle.at_day.specs.declared.events_report.EventReport.{EventReport}
use Rattle.at_day.specs.Days.{IsDayOf, first_machine}
use Rattle.at_day.proofs.OutcomeLemmas.{on_err}
use Rattle.at_day.proofs.days.day.Goals as goal

pub returns-in_err-reports-clause-cut : goal.returns-in_err-reports-clause-cut
returns-in_err-reports-clause-cut c = on_err c.from_residual.result c.in_err-reports.ensures.cut

pub returns-clause-outside : goal.returns-clause-outside
returns-clause-outside c = c.counts.ensures.left.outside

pub returns-clause-day : goal.returns-clause-day
returns-clause-day c = record {
  between = c.event_reports.new.host;
  day = subst (λ (of : List EventReport). IsDayOf c.args.events.now of (first_machine c.args.host.now) c.event_reports.new.host)
      (sym c.from.ensures) c.in_ok-reports.ensures.day;
  counted = c.counts.ensures;
}
