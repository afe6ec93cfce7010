-- The file of a live job (own): its name, the script that it holds, and the header of that.
use Rattle.std.specs.Prelude.{◌≡◌, ℕ, List, Some}
use Rattle.std.specs.FinMap as finite
use Rattle.host_calls.specs.Directory.{Directory, reading_of}
use Rattle.job_name.specs.JobName.{SpellsJobName}
use Rattle.job_script.specs.declared.headers.JobHeader.{JobHeader}
use Rattle.job_script.specs.HeaderIn.{header_in}
use Rattle.spool_model.specs.declared.entry.Entry.TheVariants.{Live}
use Rattle.spool_model.specs.declared.job.Job.{Job}
use Rattle.spool_model.specs.JobTable.{JobState, JobTable, entry_at}
use Rattle.step_runs.specs.Current.{is_new_form}

-- the name is that of the live job's file, in the form that is kept for its number
pub record IsLiveFileName (table : JobTable) (old_form : List ℕ) (number : ℕ) (name : List ℕ) : Type 0 where
  pub job : Job
  pub state : JobState
  pub lives : entry_at table number ≡ Some (Live job state)
  pub spelled : SpellsJobName name job.queue number job.minute (is_new_form old_form number)

-- the bytes are the script of the live job
pub record IsScriptOf (table : JobTable) (number : ℕ) (bytes : List ℕ) : Type 0 where
  pub job : Job
  pub state : JobState
  pub lives : entry_at table number ≡ Some (Live job state)
  pub script : bytes ≡ job.script

-- the header is that of the script of the live job, and says that it is its user's
pub record IsHeaderOn (table : JobTable) (number : ℕ) (found : JobHeader) : Type 0 where
  pub job : Job
  pub state : JobState
  pub lives : entry_at table number ≡ Some (Live job state)
  pub header : header_in job.script ≡ Some (found.user, found.mail)
  pub user_is : found.user ≡ job.user

-- the file of that name holds the script of the live job
pub record HoldsScript (table : JobTable) (directory : Directory) (number : ℕ) (name : List ℕ) : Type 0 where
  pub bytes : List ℕ
  pub held : finite.get (reading_of directory) name ≡ Some bytes
  pub script : IsScriptOf table number bytes
