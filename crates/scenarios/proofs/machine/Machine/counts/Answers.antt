use Rattle.scenarios.proofs.DayLemmas.{have_after_days}
use Rattle.scenarios.proofs.machine.Machine.counts.Goals as goal

pub invariant_of-self : goal.invariant_of-self
invariant_of-self c = record {
  outside = c.day.ensures.outside;
  children = have_after_days c.args.self.now.host c.day.new.host c.args.self.now.daemon.kids c.day.result c.day.ensures.day
      c.day.ensures.cut c.args.self.now.children;
}
