-- What a host is made as: its plan and the fuses that its reboots have set, spelled as numbers (own).
use Rattle.std.specs.Prelude.{◌++◌, [], ◌∷◌, ℕ, List, Option, Some, None, length}
use Rattle.host_calls.specs.declared.child.Ending.{Ending}
use Rattle.host_calls.specs.declared.child.Ending.TheVariants.{Exit, Signal, NotStarted}
use Rattle.memory_host.specs.declared.child_plans.ChildPlan.{ChildPlan}
use Rattle.memory_host.specs.declared.failing_list.Failing.{Failing}
use Rattle.memory_host.specs.declared.failing_list.Part.{Part}
use Rattle.memory_host.specs.declared.failing_list.Part.TheVariants.{Nothing, All}
use Rattle.memory_host.specs.declared.plan.Plan.{Plan}

-- how much a failing call does
abbrev pub spelled_part : Part → ℕ
spelled_part Nothing = 0
spelled_part All = 1

-- the failing calls
abbrev pub spelled_failing : List Failing → List ℕ
spelled_failing [] = []
spelled_failing (failing ∷ others) = failing.call ∷ spelled_part failing.part ∷ spelled_failing others

-- how a child ends
abbrev pub spelled_ending : Ending → List ℕ
spelled_ending (Exit status) = 0 ∷ status ∷ []
spelled_ending (Signal signal) = 1 ∷ signal ∷ []
spelled_ending NotStarted = 2 ∷ 0 ∷ []

-- the plans of children
abbrev pub spelled_children : List ChildPlan → List ℕ
spelled_children [] = []
spelled_children (plan ∷ others) = plan.asks ∷ spelled_ending plan.ending ++ spelled_children others

-- a fuse, if there is one
abbrev pub spelled_fuse : Option ℕ → List ℕ
spelled_fuse None = []
spelled_fuse (Some first) = first ∷ []

-- the numbers of a list, after how many they are
abbrev pub counted : List ℕ → List ℕ
counted numbers = length numbers ∷ numbers

-- the plan and the fuses
unfoldable pub spelled : Plan → List ℕ → List ℕ
spelled plan fuses =
    counted (spelled_failing plan.failing)
    ++ counted plan.taken
    ++ counted plan.failing_starts
    ++ counted (spelled_children plan.children)
    ++ counted (spelled_fuse plan.fuse)
    ++ fuses
