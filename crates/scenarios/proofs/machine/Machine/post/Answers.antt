use Rattle.scenarios.proofs.ChildLemmas.{children_kept}
use Rattle.scenarios.proofs.machine.Machine.post.Goals as goal

pub invariant_of-self : goal.invariant_of-self
invariant_of-self c = record {
  outside = c.post_program-status.ensures.posts.outside;
  children = children_kept c.args.self.now.host.children.items c.post_program-status.new.host.children.items
      c.args.self.now.daemon.kids c.post_program-status.ensures.posts.kept c.args.self.now.children;
}
