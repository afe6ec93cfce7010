-- Another line after a text, of a stage (own).
use Rattle.std.specs.Prelude.{ℕ, List}
use Rattle.civil_minute.specs.declared.zone.Zone.{Zone}
use Rattle.job_listing.specs.LinePut.{IsLinePut}
use Rattle.spool_model.specs.declared.row.Row.{Row}
use Rattle.spool_model.specs.JobTable.{JobTable}
use Rattle.at_stat.specs.declared.form.Form.{Form}
use Rattle.at_stat.specs.declared.stage.JobStage.TheVariants.{Live}
use Rattle.at_stat.specs.Reports.{IsLine}
use Rattle.at_stat.specs.Stages.{stage_of_number}

-- a line that shows the live job was put after the old text
abbrev pub IsLiveLinePut : Form → Zone → Row → List ℕ → List ℕ → Type 0
IsLiveLinePut form zone row old new = IsLinePut (IsLine form zone row.number (Live row)) old new

-- and one that shows the stage of the number
abbrev pub IsNumberPut : Form → Zone → JobTable → ℕ → List ℕ → List ℕ → Type 0
IsNumberPut form zone table number old new = IsLinePut (IsLine form zone number (stage_of_number table number)) old new
