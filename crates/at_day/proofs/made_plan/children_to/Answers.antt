use Rattle.at_day.proofs.EventsMadeLemmas.{children_more, no_children}
use Rattle.at_day.proofs.made_plan.children_to.Goals as goal

pub loop-number-init : goal.loop-number-init
loop-number-init c = no_children _ c.new-plans.ensures

pub loop-number-preserved : goal.loop-number-preserved
loop-number-preserved c =
    children_more _ _ _ c.loop-number.number c.loop-number.invariant c.in_ok-push.ensures c.made_child.ensures.plan
