use Rattle.std.proofs.Common.{sym, subst}
use Rattle.std.specs.Prelude.{List}
use Rattle.host_calls.specs.declared.child.Child.{Child}
use Rattle.scenarios.specs.Machine.{HaveChildren}
use Rattle.scenarios.proofs.machine.Machine.account.Goals as goal

pub invariant_of-self : goal.invariant_of-self
invariant_of-self c = record {
  outside = c.account_program-status.ensures.accounting.left.outside;
  children = subst (λ (children : List Child). HaveChildren children c.args.self.now.daemon.kids)
      (sym c.account_program-status.ensures.accounting.left.children) c.args.self.now.children;
}
