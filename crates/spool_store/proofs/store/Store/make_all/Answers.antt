use Rattle.std.proofs.Common.{arith, rules}
use Rattle.std.proofs.lemmas.Result.{err_from_is_err_and}
use Rattle.spool_store.proofs.MakeLemmas.{all_made, may_step, next_changes, none_made, one_made, one_stopped}
use Rattle.spool_store.proofs.store.Store.make_all.Goals as goal

pub loop-step-init : goal.loop-step-init
loop-step-init g c = record { inside = search rules; has = none_made c.requires; counted = search rules }

pub make-requires-clause-may : goal.make-requires-clause-may
make-requires-clause-may g c =
    may_step c.requires c.step-item.result c.loop-step-test.true c.step-item.is c.loop-step.invariant.has
    c.loop-step.invariant.inside.inside

pub make-requires-clause-change : goal.make-requires-clause-change
make-requires-clause-change g c = next_changes c.requires c.step-item.result c.loop-step-test.true c.step-item.is c.loop-step.invariant.has

pub returns-in_err-store : goal.returns-in_err-store
returns-in_err-store g c =
    let p = err_from_is_err_and c.from_residual.result c.from_residual.ensures.1 in
    rw (p.1, p.2, c.loop-step.invariant.counted)
    (one_stopped c.requires c.step-item.result c.loop-step-test.true c.step-item.is c.loop-step.invariant.has (search rules)
    c.in_err-store.ensures.makes)

pub loop-step-preserved : goal.loop-step-preserved
loop-step-preserved g c = record {
  inside = search rules;
  has = one_made c.requires c.step-item.result c.loop-step-test.true c.step-item.is c.loop-step.invariant.has c.in_ok-store.ensures.makes;
  counted = search rules;
}

pub returns : goal.returns
returns g c = rw c.loop-step.invariant.counted (all_made c.requires (omega arith) c.loop-step.invariant.inside c.loop-step.invariant.has)
