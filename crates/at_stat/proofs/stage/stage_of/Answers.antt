use Rattle.at_stat.proofs.StageLemmas.{done_stage}
use Rattle.at_stat.proofs.stage.stage_of.Goals as goal

pub returns-in-Some-clause-shown : goal.returns-in-Some-clause-shown
returns-in-Some-clause-shown c = c.rows.ensures.ranges c.in-Some.row.now c.in-Some.ensures.held

pub returns-in-None-clause-stage : goal.returns-in-None-clause-stage
returns-in-None-clause-stage c =
    done_stage c.args.store.now.table c.rows.result.now c.decided.result.now c.args.number c.done_stage.result
    c.rows.ensures.rows c.decided.ensures
    c.in-None.ensures.absent c.done_stage.ensures.stage
