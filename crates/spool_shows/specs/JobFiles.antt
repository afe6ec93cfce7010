-- The files of jobs in a spool directory (own): which count, and where they are damaged.
use Rattle.std.specs.Prelude.{◌==◌, ◌||◌, [], ◌∷◌, ℕ, Bool, false, not, List, Option, Some, None, nat_lt, if◌then◌else◌}
use Rattle.std.specs.List.{filter, filter_map, find, list_any}
use Rattle.std.specs.Option.{option_or}
use Rattle.host_calls.specs.declared.damage.Damage.{Damage}
use Rattle.job_script.specs.HeaderIn.{header_in, header_place}
use Rattle.start_journal.specs.declared.mark.Mark.{Mark}
use Rattle.start_journal.specs.Marks.{is_decided}
use Rattle.host_calls.specs.Damages.{damage_at}
use Rattle.job_name.specs.JobName.{NamedJob, job_named}

-- a job's file counts as long as its number is not finished
abbrev pub counts_as : List Mark → Option NamedJob → Bool
counts_as marks (Some job) = not (is_decided job.number marks)
counts_as marks None = false

-- the file of this name counts
abbrev pub counts : List Mark → List ℕ → Bool
counts marks name = counts_as marks (job_named name)

-- a file that counts
pub record JobFile : Type 0 where
  pub name : List ℕ
  pub job : NamedJob
  pub bytes : List ℕ

-- the file of a name and its bytes, if it is that of a job
abbrev pub file_named : List ℕ → List ℕ → Option NamedJob → Option JobFile
file_named name bytes (Some job) = Some (record { name = name; job = job; bytes = bytes })
file_named name bytes None = None

-- that of an entry of the directory
abbrev pub job_file : List ℕ × List ℕ → Option JobFile
job_file file = file_named file.0 file.1 (job_named file.0)

-- the files that count, in byte order of their names
abbrev pub job_files : List Mark → List (List ℕ × List ℕ) → List JobFile
job_files marks files = filter_map job_file (filter (λ file. counts marks file.0) files)

-- the first file of the number
abbrev pub file_of : ℕ → List JobFile → Option JobFile
file_of number files = find (λ file. file.job.number == number) files

-- the place where the bytes leave the form of a header, if they begin with none
abbrev pub header_fault_in : List ℕ → Option (List ℕ × Bool) → Option ℕ
header_fault_in bytes (Some header) = None
header_fault_in bytes None = Some (header_place bytes)

-- The place of a file's fault: its number was not drawn yet, a file before it has that number, or it
-- begins with no header.
abbrev pub file_place : ℕ → List ℕ → JobFile → Option ℕ
file_place last before file =
    if nat_lt last file.job.number || list_any (λ number. number == file.job.number) before
    then Some 0
    else header_fault_in file.bytes (header_in file.bytes)

-- the damage at the place, if there is one
abbrev pub damage_of : JobFile → Option ℕ → Option Damage
damage_of file (Some place) = Some (damage_at file.name file.bytes place)
damage_of file None = None

-- the first damage of the files, after files of these numbers
abbrev pub files_damage : ℕ → List ℕ → List JobFile → Option Damage
files_damage last before [] = None
files_damage last before (file ∷ later) =
    option_or (damage_of file (file_place last before file)) (files_damage last (file.job.number ∷ before) later)
