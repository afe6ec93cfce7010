-- What follows of stages.
use Rattle.std.specs.Prelude.{◌≡◌, ℕ, None}
use Rattle.step_runs.specs.WithoutScripts.{without_scripts}
use Rattle.spool_model.specs.declared.fate.Fate.{Fate}
use Rattle.spool_model.specs.declared.row.Row.{Row}
use Rattle.spool_model.specs.JobTable.{IsDone, JobTable, entry_at}
use Rattle.spool_store.specs.Listed.{IsLive}
use Rattle.at_stat.specs.declared.stage.JobStage.TheVariants.{Live, Done, Forgotten}
use Rattle.at_stat.specs.Stages.{stage_of_number}

-- the stage of a number is the same on a table and on that table without its scripts
abbrev pub ScriptsDecideNoStage : Type 0
ScriptsDecideNoStage = (table : JobTable) (number : ℕ) → stage_of_number (without_scripts table) number ≡ stage_of_number table number

-- each stage is that of what the table has under the number
pub record StageSays (table : JobTable) (number : ℕ) : Type 0 where
  pub live : (row : Row) → stage_of_number table number ≡ Live row → IsLive table number
  pub done : (fate : Fate) → stage_of_number table number ≡ Done fate → IsDone table number
  pub forgotten : stage_of_number table number ≡ Forgotten → entry_at table number ≡ None

abbrev pub StagesExcludeEachOther : Type 0
StagesExcludeEachOther = (table : JobTable) (number : ℕ) → StageSays table number
