use Rattle.std.proofs.Common.{◌≡◌, ℤ, true, ap, sym, ◌∙◌}
use Rattle.std.specs.Prelude.{Option}
use Rattle.queue_rules.specs.Queues.{may_start_batch}
use Rattle.daemon_turn.proofs.PlanLemmas.{batch_in_line, clock_same}
use Rattle.daemon_turn.proofs.plan.batch_job.Goals as goal

pub returns-then-may_start_batch : goal.returns-then-may_start_batch
returns-then-may_start_batch c =
    let table = c.args.store.now.table in
    let at = c.args.at in
    let may : may_start_batch at.load c.args.limit table.last_batch at.now c.args.interval ≡ true =
    ap (λ (last : Option ℤ). may_start_batch at.load c.args.limit last at.now c.args.interval) (sym c.last_batch.ensures.last_batch)
    ∙ ap (λ (now : ℤ). may_start_batch at.load c.args.limit c.last_batch.result now c.args.interval) (sym (clock_same at.now c.requires))
    ∙ sym c.if-may_start_batch.ensures in
    batch_in_line table c.due_batch.result.now at.now _
    (may_start_batch at.load c.args.limit table.last_batch at.now c.args.interval) c.first_of.result
    (clock_same at.now c.requires) may c.due_batch.ensures c.first_of.ensures.some c.first_of.ensures.none
