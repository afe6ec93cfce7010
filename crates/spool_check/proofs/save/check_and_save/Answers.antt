use Rattle.tool_output.specs.Outside.{directory_at, stream_at}
use Rattle.spool_check.specs.inside.CheckParts.{cause_by}
use Rattle.spool_check.proofs.CheckLemmas.{entry_stop, leaves_same, look_stopped, visit_made, visit_refused}
use Rattle.std.proofs.Common.{true}
use Rattle.spool_check.proofs.save.check_and_save.Goals as goal

pub returns-in_err-enter-clause-checked : goal.returns-in_err-enter-clause-checked
returns-in_err-enter-clause-checked g c = record {
  visit = visit_refused (directory_at g.H.Host c.args.from.now) (directory_at g.H.Host c.enter.new.self)
      c.enter.ensures.goes_on c.enter.ensures.alone;
  checks = look_stopped true g.H.Host.tells (g.H.Host.world c.enter.new.self) (g.H.Host.world c.enter.new.self)
      (directory_at g.G.Host c.args.to.now) (stream_at g.O.Sink c.args.out.now) (cause_by c.from_residual.result)
      (λ tells. leaves_same (g.H.Host.world c.enter.new.self))
      (entry_stop c.from_residual.result c.in_err-enter.field-0.0 c.from_residual.ensures.1);
}

pub returns-clause-checked : goal.returns-clause-checked
returns-clause-checked g c = record {
  visit = visit_made (directory_at g.H.Host c.args.from.now) (directory_at g.H.Host c.leave.new.self)
      (g.H.Host.world c.enter.new.self) (g.H.Host.world c.tell_and_save-ended.new.from) c.enter.ensures.goes_on c.enter.ensures.alone
      c.leave.ensures.goes_on c.leave.ensures.alone;
  checks = c.tell_and_save-ended.ensures.checks;
}
