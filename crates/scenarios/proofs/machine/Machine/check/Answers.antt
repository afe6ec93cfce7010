use Rattle.std.proofs.Common.{sym, subst}
use Rattle.std.specs.Prelude.{List}
use Rattle.host_calls.specs.declared.child.Child.{Child}
use Rattle.scenarios.specs.Machine.{HaveChildren}
use Rattle.scenarios.proofs.machine.Machine.check.Goals as goal

pub invariant_of-self : goal.invariant_of-self
invariant_of-self c = record {
  outside = c.check_program-status.ensures.from.outside;
  children = subst (λ (children : List Child). HaveChildren children c.args.self.now.daemon.kids)
      (sym c.check_program-status.ensures.from.children) c.args.self.now.children;
}
