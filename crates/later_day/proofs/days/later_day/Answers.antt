use Rattle.at_day.proofs.OutcomeLemmas.{on_err}
use Rattle.later_day.proofs.LaterLoop.{later_cut_at_first}
use Rattle.later_day.proofs.PromiseLemmas.{later_outcomes_keep_their_promise}
use Rattle.later_day.proofs.days.later_day.Goals as goal

pub returns-in_err-post-clause-cut : goal.returns-in_err-post-clause-cut
returns-in_err-post-clause-cut c =
    on_err c.from_residual.result
    (later_cut_at_first later_outcomes_keep_their_promise c.args.program.now c.args.events.now c.args.host.now)

pub returns-in_err-entries-clause-cut : goal.returns-in_err-entries-clause-cut
returns-in_err-entries-clause-cut c = on_err c.from_residual-in_err-entries.result c.in_err-entries.ensures.cut
