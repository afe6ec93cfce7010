use Rattle.scenarios.proofs.ChildLemmas.{are_children, have_children}
use Rattle.scenarios.proofs.machine.Machine.turn.Goals as goal

-- src/machine.rt:68:22
pub turn-report-requires-clause-children : goal.turn-report-requires-clause-children
turn-report-requires-clause-children c =
    are_children c.args.self.now.host.children.items c.args.self.now.daemon.kids c.args.self.now.children

-- src/machine.rt:68:22
pub invariant_of-self : goal.invariant_of-self
invariant_of-self c = record {
  outside = c.turn-report.ensures.outside;
  children = have_children c.turn-report.new.host.children.items c.turn-report.new.self.kids c.turn-report.ensures.children;
}
