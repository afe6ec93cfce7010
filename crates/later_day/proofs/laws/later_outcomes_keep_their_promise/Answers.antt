use Rattle.later_day.proofs.PromiseLemmas.{later_outcomes_keep_their_promise}
use Rattle.later_day.proofs.laws.later_outcomes_keep_their_promise.Goals as goal

pub returns : goal.returns
returns c = later_outcomes_keep_their_promise
