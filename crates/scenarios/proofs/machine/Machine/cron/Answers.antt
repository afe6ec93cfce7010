use Rattle.std.proofs.Common.{sym, subst}
use Rattle.std.specs.Prelude.{List}
use Rattle.host_calls.specs.declared.child.Child.{Child}
use Rattle.scenarios.specs.Machine.{HaveChildren}
use Rattle.scenarios.proofs.machine.Machine.cron.Goals as goal

pub invariant_of-self : goal.invariant_of-self
invariant_of-self c = record {
  outside = c.cron_program-status.ensures.stays.left.outside;
  children = subst (λ (children : List Child). HaveChildren children c.args.self.now.daemon.kids)
      (sym c.cron_program-status.ensures.stays.left.children) c.args.self.now.children;
}
