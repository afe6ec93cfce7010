-- A directory that is being filled (own).
use Rattle.std.specs.Prelude.{◌≡◌, ◌⊎◌, ℕ, false, List, Option, Some, None, All, IsSome, if◌then◌else◌}
use Rattle.std.specs.FinMap as map
use Rattle.std.specs.List.{list_any}
use Rattle.std.specs.Str.{bytes_eq}
use Rattle.host_calls.specs.Directory.{Files, Directory, IsImage, reading_of}
use Rattle.job_name.specs.JobName.{NamedJob, job_named}
use Rattle.spool_check.specs.SalvageOutcome.{is_spool}
use Rattle.whole_file.specs.Others.{IsEither}
use Rattle.whole_file.specs.Temporary.{temporary_file}

-- the reading is the only image
abbrev pub HasOneImage : Directory → Type 0
HasOneImage directory = (image : Files) → IsImage directory image → image ≡ reading_of directory

-- so it is, and it has no file of a spool
pub record IsBare (directory : Directory) : Type 0 where
  pub durable : HasOneImage directory
  pub bare : is_spool (reading_of directory) ≡ false

-- each of the names is that of a job's file
abbrev pub AreJobNames : List (List ℕ) → Type 0
AreJobNames names = All (λ name. IsSome (job_named name)) names

-- each of the names is that of a file
abbrev pub AreHeld : List (List ℕ) → Files → Type 0
AreHeld names files = All (λ name. IsSome (map.get files name)) names

-- the name is that of a job's file, or of one that is being made
abbrev pub IsCopyName : List ℕ → Type 0
IsCopyName name = (name ≡ temporary_file) ⊎ IsSome (job_named name)

-- the name is this one, which is a job's, or that of the file that is being made for it
abbrev pub IsCopied : List ℕ → List ℕ → Type 0
IsCopied name other = IsSome (job_named name) × IsEither temporary_file name other

-- each image has this at the name
abbrev pub EachHasFile : List ℕ → Option (List ℕ) → Directory → Type 0
EachHasFile name held directory = (image : Files) → IsImage directory image → map.get image name ≡ held

-- of files with these names, the bytes that the files have
abbrev pub copied : List (List ℕ) → Files → List ℕ → Option (List ℕ)
copied names files name = if list_any (λ other. bytes_eq other name) names then map.get files name else None

-- of files of jobs, the image has copies of those with these names, and no other
abbrev pub HasCopies : Files → List (List ℕ) → Files → Type 0
HasCopies files names image = (name : List ℕ) (job : NamedJob) → job_named name ≡ Some job →
    map.get image name ≡ copied names files name

-- so has each image
abbrev pub EachHasCopies : Files → List (List ℕ) → Directory → Type 0
EachHasCopies files names directory = (image : Files) → IsImage directory image → HasCopies files names image
