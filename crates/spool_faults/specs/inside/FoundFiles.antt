-- What is kept of the files of jobs while their faults are looked for (own).
use Rattle.std.specs.Prelude.{◌≡◌, ◌==◌, [], ◌∷◌, ℕ, true, false, List, Option, Some, None, map, option_map, take}
use Rattle.std.specs.BTreeMap.{BTreeMap, get}
use Rattle.std.specs.BTreeSet.{BTreeSet, contains}
use Rattle.std.specs.List.{list_any}
use Rattle.std.specs.Ordering.{nat_cmp}
use Rattle.job_name.specs.declared.job.JobName.{JobName}
use Rattle.job_name.specs.JobName.{NamedJob, job_named}
use Rattle.job_script.specs.declared.headers.TheConstants.{MAX_HEADER}
use Rattle.spool_faults.specs.declared.first_files.FirstFile.{FirstFile}
use Rattle.spool_faults.specs.declared.first_files.FirstFiles.{FirstFiles}
use Rattle.spool_faults.specs.declared.found_file.FoundFile.{FoundFile}
use Rattle.spool_faults.specs.Faults.{first_files}
use Rattle.spool_shows.specs.JobFiles.{JobFile, counts, file_of}
use Rattle.start_journal.specs.declared.mark.Mark.{Mark}
use Rattle.start_journal.specs.Marks.{is_decided}

-- the set has the numbers that the marks decide
abbrev pub AreDecidedNumbers : List Mark → BTreeSet ℕ → Type 0
AreDecidedNumbers marks decided = (number : ℕ) → contains nat_cmp decided number ≡ is_decided number marks

-- the set has these numbers
abbrev pub HasNumbers : List ℕ → BTreeSet ℕ → Type 0
HasNumbers numbers before = (number : ℕ) → contains nat_cmp before number ≡ list_any (λ one. one == number) numbers

-- the map has the queue of the first file of each number
abbrev pub AreQueues : List JobFile → BTreeMap ℕ ℕ → Type 0
AreQueues files queues = (number : ℕ) → get nat_cmp queues number ≡ option_map (λ (file : JobFile). file.job.queue) (file_of number files)

-- the job of a name
abbrev pub job_of_name : JobName → NamedJob
job_of_name job = record { queue = job.queue; number = job.number; minute = job.minute; new_form = job.new_form }

-- the file that was found, its first bytes for the whole of it
abbrev pub file_found : FoundFile → JobFile
file_found found = record { name = found.name; job = job_of_name found.job; bytes = found.prefix }

-- the files that were found
abbrev pub files_found : List FoundFile → List JobFile
files_found found = map file_found found

-- a name and the first bytes of its file, as many as a header can have
abbrev pub prefix_of : List ℕ × List ℕ → List ℕ × List ℕ
prefix_of file = (file.0, take MAX_HEADER file.1)

-- the job of a name that counts, where these are the marks
abbrev pub IsCountedName : List Mark → List ℕ → Option JobName → Type 0
IsCountedName marks name (Some job) = (counts marks name ≡ true) × (job_named name ≡ Some (job_of_name job))
IsCountedName marks name None = counts marks name ≡ false

-- the numbers of files, the last one first, before some
abbrev pub numbers_from : List ℕ → List JobFile → List ℕ
numbers_from before [] = before
numbers_from before (file ∷ later) = numbers_from (file.job.number ∷ before) later

-- a file without its bytes
abbrev pub bare : JobFile → JobFile
bare file = record { name = file.name; job = file.job; bytes = [] }

-- the same of a file that is taken
abbrev pub file_first : FirstFile → JobFile
file_first first = record { name = first.name; job = job_of_name first.job; bytes = [] }

-- they are, of each number, the first of these files, and the map has the queues
pub record AreFirstFiles (files : List JobFile) (firsts : FirstFiles) : Type 0 where
  pub queues : AreQueues files firsts.queues
  pub files_are : map file_first firsts.files.items ≡ map bare (first_files [] files)
