use Rattle.std.proofs.Common.{List, subst, ◌≡◌}
use Rattle.std.specs.Prelude.{IfOk}
use Rattle.spool_model.specs.declared.turn_step.TurnStep.{TurnStep}
use Rattle.daemon_turn.proofs.PlanLemmas.{lost_listed}
use Rattle.daemon_turn.proofs.plan.interrupted_steps.Goals as goal

pub returns : goal.returns
returns c =
    subst (λ (steps : List TurnStep). IfOk c.interrupts.result (λ made. made.items ≡ steps))
    (lost_listed c.args.store.now.table c.rows.result.now c.args.kids.now c.rows.ensures.rows) c.interrupts.ensures
