use Rattle.queue_rules.proofs.DueOrderLemmas.{added_in_line, added_one}
use Rattle.queue_rules.proofs.line.DueLine.add.Goals as goal

pub invariant_of-self-2 : goal.invariant_of-self-2
invariant_of-self-2 c =
    added_in_line c.self.inside.due_jobs.items _ _ c.args.due c.place_in_line-place.result c.deref.ensures.value c.self.invariant
    c.place_in_line-place.ensures.bound c.place_in_line-place.ensures.place c.in_ok-insert.ensures.items

pub returns-clause-added : goal.returns-clause-added
returns-clause-added c =
    added_one c.self.inside.due_jobs.items _ _ c.args.due c.place_in_line-place.result c.self.view_is c.in_ok-insert.ensures.items

pub returns-clause-in_line : goal.returns-clause-in_line
returns-clause-in_line c = invariant_of-self-2 c
