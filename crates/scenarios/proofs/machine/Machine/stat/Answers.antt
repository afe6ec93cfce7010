use Rattle.std.proofs.Common.{sym, subst}
use Rattle.std.specs.Prelude.{List}
use Rattle.host_calls.specs.declared.child.Child.{Child}
use Rattle.scenarios.specs.Machine.{HaveChildren}
use Rattle.scenarios.proofs.machine.Machine.stat.Goals as goal

pub invariant_of-self : goal.invariant_of-self
invariant_of-self c = record {
  outside = c.stat_program-status.ensures.stating.ended.left.outside;
  children = subst (λ (children : List Child). HaveChildren children c.args.self.now.daemon.kids)
      (sym c.stat_program-status.ensures.stating.ended.left.children) c.args.self.now.children;
}
