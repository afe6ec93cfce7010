-- The steps of a turn (own).
use Rattle.std.specs.Prelude.{◌≡◌, ◌⊎◌, ◌≤◌, ◌++◌, [], ℕ, Bool, List, Option, length}
use Rattle.host_calls.specs.declared.child.Ending.{Ending}
use Rattle.spool_model.specs.JobTable.{JobTable}
use Rattle.spool_model.specs.Steps.{after_steps}
use Rattle.spool_model.specs.declared.turn_step.TurnStep.{TurnStep}
use Rattle.daemon_turn.specs.Decisions.{asked_kids, decisions}
use Rattle.daemon_turn.specs.StartOrder.{IsOrder, Turn, forgotten_steps, steps_of_starts}
use Rattle.spool_model.specs.StepsOf.{steps_of_turn}

-- the steps, and after them those that forget what is too much then
abbrev pub with_forgets : JobTable → List TurnStep → List TurnStep
with_forgets table steps = steps ++ forgotten_steps (after_steps table (steps_of_turn steps))

-- The steps of a turn on the table, by the answers of the children that are asked and by whether a child came of each
-- start: what is finished of running jobs, the starts, and what is forgotten then.
pub record AreTurnSteps (turn : Turn) (table : JobTable) (answers : List (Option Ending)) (flags : List Bool)
    (steps : List TurnStep) : Type 0 where
  pub order : List ℕ
  pub ordered : IsOrder turn table order
  pub asked : length answers ≡ length (asked_kids table turn.kids)
  pub started : length flags ≡ length order
  pub all : steps ≡ with_forgets table (decisions table turn.kids answers ++ steps_of_starts order turn.now flags)

-- the first steps are a prefix of the others
abbrev pub IsStepsPrefix : List TurnStep → List TurnStep → Type 0
IsStepsPrefix prefix steps = (after : List TurnStep) × (steps ≡ prefix ++ after)

-- The first of the steps that are finished of running jobs, by the answers of the children so far. No job was
-- started.
pub record AreFirstDecisions (turn : Turn) (table : JobTable) (answers : List (Option Ending)) (flags : List Bool)
    (steps : List TurnStep) : Type 0 where
  pub few : length answers ≤ length (asked_kids table turn.kids)
  pub none : flags ≡ []
  pub prefix : IsStepsPrefix steps (decisions table turn.kids answers)

-- The first of the steps up to the next start, once all children have answered.
pub record AreFirstStarts (turn : Turn) (table : JobTable) (answers : List (Option Ending)) (flags : List Bool)
    (steps : List TurnStep) : Type 0 where
  pub order : List ℕ
  pub ordered : IsOrder turn table order
  pub asked : length answers ≡ length (asked_kids table turn.kids)
  pub few : length flags ≤ length order
  pub prefix : IsStepsPrefix steps (decisions table turn.kids answers ++ steps_of_starts order turn.now flags)

-- the first steps of a turn, where it was stopped, by the answers that it had by then
abbrev pub AreFirstSteps : Turn → JobTable → List (Option Ending) → List Bool → List TurnStep → Type 0
AreFirstSteps turn table answers flags steps =
    AreFirstDecisions turn table answers flags steps
    ⊎ (AreFirstStarts turn table answers flags steps
    ⊎ ((all : List TurnStep) × AreTurnSteps turn table answers flags all × IsStepsPrefix steps all))
