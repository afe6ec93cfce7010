-- How children end, by the plans of a host in memory (own).
use Rattle.std.specs.Prelude.{◌≡◌, ◌+◌, ◌<◌, ◌==◌, [], ◌∷◌, ℕ, List, Option, Some, None, length, nat_lt, slice_index_or, take, if◌then◌else◌}
use Rattle.host_calls.specs.declared.child.Asked.{Asked}
use Rattle.host_calls.specs.declared.child.Ending.{Ending}
use Rattle.host_calls.specs.declared.child.Ending.TheVariants.{Exit}
use Rattle.memory_host.specs.declared.child_plans.ChildPlan.{ChildPlan}

-- the plan of the child of this number: beyond the list it has ended well
abbrev pub plan_of : List ChildPlan → ℕ → ChildPlan
plan_of plans child = slice_index_or plans child (record { asks = 0; ending = Exit 0 })

-- the answer of a child after so many questions
abbrev pub answer_of : List ChildPlan → ℕ → ℕ → Option Ending
answer_of plans child questions =
    if nat_lt questions (plan_of plans child).asks then None else Some (plan_of plans child).ending

-- how often the child was asked
abbrev pub questions_to : ℕ → List Asked → ℕ
questions_to child [] = 0
questions_to child (one ∷ others) = (if one.child.id == child then 1 else 0) + questions_to child others

-- the answer is the one that the plans give after these questions
abbrev pub IsAnswerAfter : List ChildPlan → List Asked → Asked → Type 0
IsAnswerAfter plans before one = one.answer ≡ answer_of plans one.child.id (questions_to one.child.id before)

-- each answer is the one that the plans give after the questions before it
abbrev pub AreAnswers : List ChildPlan → List Asked → Type 0
AreAnswers plans asked =
    (place : ℕ) (none : Asked) → place < length asked → IsAnswerAfter plans (take place asked) (slice_index_or asked place none)
