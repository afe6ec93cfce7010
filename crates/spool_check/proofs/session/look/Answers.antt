use Rattle.std.proofs.Common.{◌≡◌}
use Rattle.tool_output.specs.Outside.{directory_at}
use Rattle.spool_faults.specs.declared.diagnosis.Diagnosis.{Diagnosis}
use Rattle.spool_faults.specs.Faults.{faults_of}
use Rattle.host_calls.specs.World.{reading}
use Rattle.spool_check.proofs.CheckLemmas.{leaves_same, not_ok, visit_made, visit_refused}
use Rattle.spool_check.proofs.session.look.Goals as goal

pub returns-in_err-enter-clause-looks : goal.returns-in_err-enter-clause-looks
returns-in_err-enter-clause-looks g c = record {
  visit = visit_refused (directory_at g.H.Host c.args.from.now) (directory_at g.H.Host c.enter.new.self)
      c.enter.ensures.goes_on c.enter.ensures.alone;
  leaves = λ tells. leaves_same (g.H.Host.world c.enter.new.self);
  found = λ tells. not_ok c.from_residual.result
      (λ (diagnosis : Diagnosis). diagnosis.faults ≡ faults_of (reading (g.H.Host.world c.enter.new.self))) c.from_residual.ensures.0;
}

pub returns-in_err-found-clause-looks : goal.returns-in_err-found-clause-looks
returns-in_err-found-clause-looks g c = record {
  visit = visit_made (directory_at g.H.Host c.args.from.now) (directory_at g.H.Host c.leave.new.self)
      (g.H.Host.world c.enter.new.self) (g.H.Host.world c.diagnose-found.new.host) c.enter.ensures.goes_on c.enter.ensures.alone
      c.leave.ensures.goes_on c.leave.ensures.alone;
  leaves = c.diagnose-found.ensures.leaves;
  found = λ tells. not_ok c.from_residual-in_err-found.result (λ (diagnosis : Diagnosis). diagnosis.faults
      ≡ faults_of (reading (g.H.Host.world c.enter.new.self))) c.from_residual-in_err-found.ensures.0;
}

pub returns-clause-looks : goal.returns-clause-looks
returns-clause-looks g c = record {
  visit = visit_made (directory_at g.H.Host c.args.from.now) (directory_at g.H.Host c.leave.new.self)
      (g.H.Host.world c.enter.new.self) (g.H.Host.world c.diagnose-found.new.host) c.enter.ensures.goes_on c.enter.ensures.alone
      c.leave.ensures.goes_on c.leave.ensures.alone;
  leaves = c.diagnose-found.ensures.leaves;
  found = λ tells. c.in_ok-found.ensures.faults tells;
}
