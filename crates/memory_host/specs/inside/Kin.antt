-- How what is kept of the children belongs to their plans.
use Rattle.std.specs.Prelude.{◌≡◌, ◌≢◌, ◌-◌, ◌<◌, ℕ, List, Contains, length, slice_index_or}
use Rattle.std.specs.List.{All}
use Rattle.host_calls.specs.declared.child.Asked.{Asked}
use Rattle.host_calls.specs.declared.child.Child.{Child}
use Rattle.host_calls.specs.declared.child.Ending.TheVariants.{NotStarted}
use Rattle.memory_host.specs.Children.{AreAnswers, plan_of, questions_to}
use Rattle.memory_host.specs.declared.child_plans.ChildPlan.{ChildPlan}

-- each planned child ends: that it was not started is no ending of one that was
abbrev pub AreEndings : List ChildPlan → Type 0
AreEndings plans = All (λ plan. plan.ending ≢ NotStarted) plans

-- how often each child will still be asked in vain
abbrev pub AreWaits : List ChildPlan → List Asked → List ℕ → Type 0
AreWaits plans asked waits =
    (child : ℕ) → child < length waits
    → slice_index_or waits child 0 ≡ (plan_of plans child).asks - questions_to child asked

-- each child was started
abbrev pub AreChildrenStarted : List Child → ℕ → Type 0
AreChildrenStarted children starts = (child : Child) → Contains children child → child.id < starts

-- what is kept of the children belongs to their plans
pub record AreChildrenAsPlanned (plans : List ChildPlan) (asked : List Asked) (waits : List ℕ)
    (children : List Child) : Type 0 where
  pub started : AreChildrenStarted children (length waits)
  pub questioned : All (λ one. one.child.id < length waits) asked
  pub waiting : AreWaits plans asked waits
  pub answered : AreAnswers plans asked
