use Rattle.scenarios.proofs.ChildLemmas.{children_kept}
use Rattle.scenarios.proofs.machine.Machine.run.Goals as goal

pub invariant_of-self : goal.invariant_of-self
invariant_of-self c = record {
  outside = c.program-status.ensures.session.outside;
  children = children_kept c.args.self.now.host.children.items c.program-status.new.host.children.items c.args.self.now.daemon.kids
      c.program-status.ensures.session.kept c.args.self.now.children;
}
