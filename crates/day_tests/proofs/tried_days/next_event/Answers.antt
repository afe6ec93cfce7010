use Rattle.at_day.specs.Machines.{machine}
use Rattle.at_day.proofs.OutcomeLemmas.{ready_after}
use Rattle.day_tests.proofs.tried_days.next_event.Goals as goal

pub returns : goal.returns
returns g c =
    ready_after c.args.event.now c.in_ok-report.report (machine c.args.stepped.now.host c.args.stepped.now.daemon)
    (machine c.one_event.new.host c.one_event.new.daemon) c.in_ok-report.ensures.happens c.requires
