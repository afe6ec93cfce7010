use Rattle.std.proofs.Common.{◌≡◌, ◌++◌, rules}
use Rattle.std.specs.Option.{option_to_list}
use Rattle.daemon_turn.specs.StartOrder.{turn_of}
use Rattle.daemon_turn.proofs.PlanLemmas.{clock_same, order_in_line}
use Rattle.daemon_turn.proofs.plan.full_order.Goals as goal
use Rattle.daemon_turn.proofs.plan.full_order.Goals.{in-Some+in_ok-push, in_default}

pub returns : goal.returns
returns c = λ kids.
    let both : c.match-batch_job.numbers.items ≡ c.in_ok-numbers.numbers.items ++ option_to_list c.batch_job.result =
    elim c.match-batch_job.branch [ in-Some+in_ok-push w ↦ search rules | in_default w ↦ search rules ] in
    order_in_line (turn_of (record { kids = kids; limit = c.args.limit; interval = c.args.interval }) c.args.at)
    c.args.store.now.table c.due.result.now _
    c.in_ok-numbers.numbers.items c.batch_job.result c.match-batch_job.numbers.items (clock_same c.args.at.now c.requires) c.due.ensures
    c.in_ok-numbers.ensures c.batch_job.ensures both
