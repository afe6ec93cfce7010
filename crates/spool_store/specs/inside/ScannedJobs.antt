-- A job's file as it was seen (own): by its name and its first bytes.
use Rattle.std.specs.Prelude.{◌≡◌, ℕ, List, Some, None, Result, Ok, Err, map, not}
use Rattle.std.specs.List.{filter}
use Rattle.job_name.specs.declared.job.JobName.{JobName}
use Rattle.job_script.specs.HeaderIn.{header_in}
use Rattle.spool_shows.specs.JobFiles.{JobFile, header_fault_in}
use Rattle.job_name.specs.JobName.{NamedJob}
use Rattle.spool_shows.specs.Shown.{user_of}
use Rattle.spool_store.specs.declared.scanned_job.ScannedJob.{ScannedJob}

-- the job of a name
abbrev pub job_of_name : JobName → NamedJob
job_of_name job = record { queue = job.queue; number = job.number; minute = job.minute; new_form = job.new_form }

-- the file that was seen, its first bytes for the whole of it
abbrev pub file_scanned : ScannedJob → JobFile
file_scanned scanned = record { name = scanned.name; job = job_of_name scanned.job; bytes = scanned.prefix }

-- the files that were seen
abbrev pub files_scanned : List ScannedJob → List JobFile
files_scanned scanned = map file_scanned scanned

-- the numbers of those that have names in the old form
abbrev pub old_form_numbers : List JobFile → List ℕ
old_form_numbers files = map (λ file. file.job.number) (filter (λ file. not file.job.new_form) files)

-- the user of the header that the bytes begin with, or the place where they leave the form of one
abbrev pub IsUserOrPlace : List ℕ → Result (List ℕ) ℕ → Type 0
IsUserOrPlace bytes (Ok user) = (header_fault_in bytes (header_in bytes) ≡ None) × (user_of (header_in bytes) ≡ user)
IsUserOrPlace bytes (Err place) = header_fault_in bytes (header_in bytes) ≡ Some place
