use Rattle.std.proofs.Common.{sym, ◌∙◌}
use Rattle.spool_store.proofs.StartLemmas.{starts_found, starts_pass}
use Rattle.spool_store.proofs.starts.starts_fault.Goals as goal

pub returns-then-is_some : goal.returns-then-is_some
returns-then-is_some c = λ files tells are.
    starts_found c.args.marks.now files c.loop-place.place _ c.start_mark_damage-fault.result c.loop-place-test.true
    (c.start_mark_damage-fault.ensures c.args.marks.now files tells are) (sym c.is_some.ensures ∙ c.if-is_some.true)
    (c.loop-place.invariant files tells are)

pub loop-place-preserved : goal.loop-place-preserved
loop-place-preserved c = λ files tells are.
    starts_pass c.args.marks.now files c.loop-place.place _ c.start_mark_damage-fault.result c.loop-place-test.true
    (c.start_mark_damage-fault.ensures c.args.marks.now files tells are) (sym c.is_some.ensures ∙ c.if-is_some.false)
    (c.loop-place.invariant files tells are)
