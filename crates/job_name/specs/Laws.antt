-- What holds of every name of a job's file.
use Rattle.std.specs.Prelude.{◌≡◌, ◌↔◌, ℕ, Bool, List, Some}
use Rattle.job_name.specs.JobName.{NamedJob, SpellsJobName, job_named}

-- the job of a name, as it computes, is the one whose name is spelled so
abbrev pub JobsAreNamed : Type 0
JobsAreNamed = (name : List ℕ) (job : NamedJob) →
    (job_named name ≡ Some job) ↔ SpellsJobName name job.queue job.number job.minute job.new_form

-- a job has one name in each form
abbrev pub JobsHaveOneName : Type 0
JobsHaveOneName = (first second : List ℕ) (queue number minute : ℕ) (new_form : Bool)
    → SpellsJobName first queue number minute new_form → SpellsJobName second queue number minute new_form → first ≡ second

-- a name is that of one job, in one form
abbrev pub NamesHaveOneJob : Type 0
NamesHaveOneJob = (name : List ℕ) (queue number minute other_queue other_number other_minute : ℕ) (new_form other_new_form : Bool)
    → SpellsJobName name queue number minute new_form → SpellsJobName name other_queue other_number other_minute other_new_form
    → (other_queue ≡ queue) × (other_number ≡ number) × (other_minute ≡ minute) × (other_new_form ≡ new_form)
