use Rattle.std.proofs.Common.{◌≡◌}
use Rattle.at_day.specs.Plans.{made_children}
use Rattle.at_day.proofs.made_plan.children_to.Given as goal

-- the plans so far
abbrev pub invariant-loop-number : goal.invariant-loop-number
invariant-loop-number l = l.plans ≡ made_children l.number
