-- A submission (own): whether there is room for its job, and the steps that it makes.
use Rattle.std.specs.Prelude.{◌≡◌, ◌≤◌, ◌<◌, ◌+◌, ℕ, true, List, Some, Result, Ok, Err}
use Rattle.std.specs.FinMap as finite
use Rattle.host_calls.specs.Directory.{Directory, reading_of}
use Rattle.job_name.specs.JobName.{SpellsJobName}
use Rattle.job_script.specs.HeaderIn.{header_in}
use Rattle.spool_model.specs.declared.job.Job.{Job}
use Rattle.spool_model.specs.declared.number.TheConstants.{LAST_NUMBER}
use Rattle.spool_model.specs.JobTable.{JobTable}
use Rattle.spool_model.specs.Steps.{after_steps, submission}
use Rattle.spool_shows.specs.Shown.{user_of}
use Rattle.step_runs.specs.WithoutScripts.{job_without_script}
use Rattle.step_runs.specs.Current.{IsCurrent, Kept}
use Rattle.host_calls.specs.declared.store_fault.StoreFault.{StoreFault}
use Rattle.host_calls.specs.declared.store_fault.StoreFault.TheVariants.{FileFault, Memory, NumbersUsedUp, QueueFull, Damaged}
use Rattle.spool_model.specs.declared.row.TheConstants.{MAX_LIVE}
use Rattle.spool_store.specs.Stored.{IsStored}
use Rattle.spool_model.specs.Lists.{live_count}

-- 10,000 jobs or more live: there is no room for one more
abbrev pub IsFull : JobTable → Type 0
IsFull table = MAX_LIVE ≤ live_count table

-- there is room, and the greatest number was drawn
pub record IsUsedUp (table : JobTable) : Type 0 where
  pub room : live_count table < MAX_LIVE
  pub greatest : table.last ≡ LAST_NUMBER

-- there is room for one more job, and a number for it
pub record HasRoom (table : JobTable) : Type 0 where
  pub room : live_count table < MAX_LIVE
  pub more : table.last < LAST_NUMBER

-- why a submission is refused: there is no room, or no number
abbrev pub IsRefusal : JobTable → StoreFault → Type 0
IsRefusal table QueueFull = IsFull table
IsRefusal table NumbersUsedUp = IsUsedUp table
IsRefusal table _ = ⊥

-- there is room, and this is the next number
pub record IsNextNumber (table : JobTable) (number : ℕ) : Type 0 where
  pub room : HasRoom table
  pub next : number ≡ table.last + 1

-- the job of a script: its user is that of the script's header
abbrev pub job_of_script : ℕ → ℕ → List ℕ → Job
job_of_script queue minute script = record { queue = queue; minute = minute; user = user_of (header_in script); script = script }

-- What is kept is current with the table, and this is the number after its last one.
pub record IsNextOn (kept : Kept) (directory : Directory) (table : JobTable) (number : ℕ) : Type 0 where
  pub stored : IsStored kept
  pub current : IsCurrent kept directory table
  pub number_is : number ≡ table.last + 1

-- what is kept, with one more job
abbrev pub with_job : Kept → Job → Kept
with_job kept job = record {
  table = after_steps kept.table (submission kept.table (job_without_script job));
  journal = kept.journal;
  old_form = kept.old_form;
}

-- the script is in the file of the job's name in the new form
pub record HasNewFormFile (directory : Directory) (queue minute : ℕ) (script : List ℕ) (number : ℕ) : Type 0 where
  pub name : List ℕ
  pub spelled : SpellsJobName name queue number minute true
  pub held : finite.get (reading_of directory) name ≡ Some script

-- what is kept with one more job, where the call that files it succeeded
abbrev pub with_job_if : {E : Type 0} → Kept → Job → Result (Unit {0}) E → Result Kept E
with_job_if kept job (Ok done) = Ok (with_job kept job)
with_job_if kept job (Err fault) = Err fault

-- what a store keeps after a submission, by its answer
abbrev pub kept_after_submission : Result (Kept × ℕ) StoreFault → Result Kept StoreFault
kept_after_submission (Ok stored) = Ok stored.0
kept_after_submission (Err fault) = Err fault

-- The answer of a submission on a table: the queue is full exactly where it has no room, and the numbers are
-- used up exactly where it has room and no number. No damage is answered.
abbrev pub IsAnswerOn : JobTable → Result (Kept × ℕ) StoreFault → Type 0
IsAnswerOn table (Ok stored) = HasRoom table × (stored.1 ≡ table.last + 1)
IsAnswerOn table (Err QueueFull) = IsFull table
IsAnswerOn table (Err NumbersUsedUp) = IsUsedUp table
IsAnswerOn table (Err FileFault) = HasRoom table
IsAnswerOn table (Err Memory) = HasRoom table
IsAnswerOn table (Err (Damaged damage)) = ⊥
