use Rattle.std.proofs.Common.{List, Contains, subst, sym, arith}
use Rattle.queue_rules.specs.declared.due.Due.{Due}
use Rattle.queue_rules.proofs.DueOrderLemmas.{found_at, taken_in_line, taken_one}
use Rattle.queue_rules.proofs.line.DueLine.take.Goals as goal

pub remove-requires : goal.remove-requires
remove-requires c =
    let at = found_at c.self.inside.due_jobs.items _ c.args.due c.place_in_line-place.result c.deref.ensures.value c.self.invariant
    c.place_in_line-place.ensures.place (subst (λ (old : List Due). Contains old c.args.due) (sym c.self.view_is) c.requires) in
    omega (arith, at.0, c.self.inside.due_jobs.ok.0)

pub invariant_of-self : goal.invariant_of-self
invariant_of-self c =
    let at = found_at c.self.inside.due_jobs.items _ c.args.due c.place_in_line-place.result c.deref.ensures.value c.self.invariant
    c.place_in_line-place.ensures.place (subst (λ (old : List Due). Contains old c.args.due) (sym c.self.view_is) c.requires) in
    taken_in_line c.self.inside.due_jobs.items _ c.place_in_line-place.result at.0 c.self.invariant c.remove.ensures.items

pub returns-clause-taken : goal.returns-clause-taken
returns-clause-taken c =
    let at = found_at c.self.inside.due_jobs.items _ c.args.due c.place_in_line-place.result c.deref.ensures.value c.self.invariant
    c.place_in_line-place.ensures.place (subst (λ (old : List Due). Contains old c.args.due) (sym c.self.view_is) c.requires) in
    taken_one c.self.inside.due_jobs.items _ _ c.args.due c.place_in_line-place.result c.self.view_is at c.remove.ensures.items

pub returns-clause-in_line : goal.returns-clause-in_line
returns-clause-in_line c = invariant_of-self c
