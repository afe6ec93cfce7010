-- Numbers of jobs that wait to be started (own).
use Rattle.std.specs.Prelude.{[], ◌∷◌, ℕ, Bool, true, false, List, All}
use Rattle.spool_model.specs.JobTable.{IsPending, JobTable}
use Rattle.queue_rules.specs.Order.{Differ}

-- the jobs of the numbers wait, and no number occurs twice
pub record ArePendingNumbers (table : JobTable) (numbers : List ℕ) : Type 0 where
  pub each : All (IsPending table) numbers
  pub apart : Differ numbers

-- the numbers of which a child came
abbrev pub started_of : List ℕ → List Bool → List ℕ
started_of [] flags = []
started_of (number ∷ numbers) [] = []
started_of (number ∷ numbers) (true ∷ flags) = number ∷ started_of numbers flags
started_of (number ∷ numbers) (false ∷ flags) = started_of numbers flags
