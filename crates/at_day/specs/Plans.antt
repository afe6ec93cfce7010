-- The plan of a simulated run (own): nothing fails, and how each child ends.
use Rattle.std.specs.Prelude.{◌%◌, ◌++◌, [], ◌∷◌, ℕ, zero, suc, List}
use Rattle.host_calls.specs.declared.child.Ending.TheVariants.{Exit}
use Rattle.memory_host.specs.declared.child_plans.ChildPlan.{ChildPlan}
use Rattle.memory_host.specs.Plan.{quiet_plan}
use Rattle.memory_host.specs.declared.plan.Plan.{Plan}

-- the child of the number is asked up to two times in vain, and ends well or with status 1
abbrev pub made_child : ℕ → ChildPlan
made_child number = record { asks = number % 3; ending = Exit (number % 2) }

-- so many children, by their numbers from 0 on
unfoldable pub made_children : ℕ → List ChildPlan
made_children zero = []
made_children (suc number) = made_children number ++ made_child number ∷ []

-- nothing fails, and the children end so
abbrev pub made_plan : ℕ → Plan
made_plan count = record quiet_plan { children = made_children count }
