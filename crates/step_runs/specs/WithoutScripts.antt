-- The job table without the scripts, as a store keeps it (own).
use Rattle.std.specs.Prelude.{[], ℕ, List, map}
use Rattle.std.specs.FinMap.{entries, from_entries}
use Rattle.spool_model.specs.declared.entry.Entry.TheVariants.{Live, Done}
use Rattle.spool_model.specs.declared.job.Job.{Job}
use Rattle.spool_model.specs.declared.step.Step.{Step}
use Rattle.spool_model.specs.declared.step.Step.TheVariants.{Draw, Accept, Remove, Start, End, Interrupt, Forget}
use Rattle.spool_model.specs.JobTable.{JobEntry, JobTable, table_of}

-- the job without its script
abbrev pub job_without_script : Job → Job
job_without_script job = record { queue = job.queue; minute = job.minute; user = job.user; script = [] }

-- the entry without a script
abbrev pub entry_without_script : JobEntry → JobEntry
entry_without_script (Live job state) = Live (job_without_script job) state
entry_without_script (Done fate) = Done fate

-- entries without scripts
abbrev pub entries_without_scripts : List (ℕ × JobEntry) → List (ℕ × JobEntry)
entries_without_scripts list = map (λ entry. (entry.0, entry_without_script entry.1)) list

-- the table without scripts
unfoldable pub without_scripts : JobTable → JobTable
without_scripts table = table_of table.last (from_entries (entries_without_scripts (entries table.entries))) table.last_batch

-- the step without a script
abbrev pub step_without_script : Step → Step
step_without_script Draw = Draw
step_without_script (Accept number job) = Accept number (job_without_script job)
step_without_script (Remove number) = Remove number
step_without_script (Start number second) = Start number second
step_without_script (End number ending) = End number ending
step_without_script (Interrupt number) = Interrupt number
step_without_script (Forget number) = Forget number
