use Rattle.std.proofs.Common.{◌≡◌, ◌++◌, [], ◌∷◌, arith}
use Rattle.std.proofs.lemmas.List.{take_all}
use Rattle.headline.proofs.HeadlineLemmas.{events_hand_once}
use Rattle.at_day.specs.Days.{first_machine}
use Rattle.at_day.specs.Machines.{machine}
use Rattle.at_day.proofs.OutcomeLemmas.{cut_at, cut_after, day_event_at, day_of, on_err, outside_after, so_far_at_first, so_far_more, unchanged_same}
use Rattle.at_day.proofs.days.event_reports.Goals as goal

pub loop-event-init : goal.loop-event-init
loop-event-init c =
    so_far_at_first c.args.events.now c.args.host.now _ _ c.new-reports.ensures.items c.new-daemon.ensures c.requires.outside

pub returns-in_err-reserve-clause-outside : goal.returns-in_err-reserve-clause-outside
returns-in_err-reserve-clause-outside c = c.loop-event.invariant.ready.outside

pub returns-in_err-reserve-clause-cut : goal.returns-in_err-reserve-clause-cut
returns-in_err-reserve-clause-cut c =
    on_err c.from_residual.result
    (cut_after events_hand_once c.args.events.now c.loop-event.event-index c.loop-event.reports.items (first_machine c.args.host.now)
    (machine c.loop-event.host c.loop-event.daemon) c.loop-event.invariant c.loop-event.host (unchanged_same c.loop-event.host))

pub one_event-requires-clause-of_day : goal.one_event-requires-clause-of_day
one_event-requires-clause-of_day c =
    day_event_at c.args.events.now c.requires.of_day c.loop-event.event-index c.event-item.result (omega arith) c.event-item.is

pub one_event-requires-clause-outside : goal.one_event-requires-clause-outside
one_event-requires-clause-outside c = c.loop-event.invariant.ready.outside

pub returns-in_err-report-clause-outside : goal.returns-in_err-report-clause-outside
returns-in_err-report-clause-outside c =
    outside_after c.event-item.result (machine c.loop-event.host c.loop-event.daemon)
    (machine c.one_event.new.host c.one_event.new.daemon) c.loop-event.invariant.ready c.in_err-report.ensures.unreported

pub returns-in_err-report-clause-cut : goal.returns-in_err-report-clause-cut
returns-in_err-report-clause-cut c =
    on_err c.from_residual-in_err-report.result
    (cut_at events_hand_once c.args.events.now c.loop-event.event-index c.loop-event.reports.items (first_machine c.args.host.now)
    (machine c.loop-event.host c.loop-event.daemon) c.loop-event.invariant c.event-item.result (omega arith) c.event-item.is
    (machine c.one_event.new.host c.one_event.new.daemon) c.in_err-report.ensures.unreported)

pub loop-event-preserved : goal.loop-event-preserved
loop-event-preserved c =
    let put : c.push_reserved.new.self.items ≡ c.loop-event.reports.items ++ c.in_ok-report.report ∷ [] =
    cc (c.push_reserved.ensures.items, c.in_ok-reserve.ensures.items) in
    so_far_more c.args.events.now c.loop-event.event-index c.loop-event.reports.items c.push_reserved.new.self.items
    (first_machine c.args.host.now) (machine c.loop-event.host c.loop-event.daemon) c.loop-event.invariant
    c.event-item.result (omega arith) c.event-item.is c.in_ok-report.report (machine c.one_event.new.host c.one_event.new.daemon)
    c.in_ok-report.ensures.happens put

pub returns-clause-outside : goal.returns-clause-outside
returns-clause-outside c = c.loop-event.invariant.ready.outside

pub returns-clause-day : goal.returns-clause-day
returns-clause-day c =
    day_of events_hand_once c.args.events.now c.loop-event.event-index c.loop-event.reports.items (first_machine c.args.host.now)
    (machine c.loop-event.host c.loop-event.daemon) c.loop-event.invariant
    (take_all c.loop-event.event-index c.args.events.now (omega arith))
