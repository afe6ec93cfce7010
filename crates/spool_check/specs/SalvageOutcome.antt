-- What a salvage leaves in the new directory (own).
use Rattle.std.specs.Prelude.{◌≡◌, ◌⊎◌, ◌||◌, ℕ, Bool, true, false, List, None, is_some}
use Rattle.std.specs.FinMap as map
use Rattle.std.specs.List.{list_any}
use Rattle.std.specs.Str.{bytes_eq}
use Rattle.host_calls.specs.Directory.{Files, Directory, IsImage, IsInNoImage, reading_of}
use Rattle.host_calls.specs.World.{World, reading}
use Rattle.job_name.specs.JobName.{job_named}
use Rattle.sequence_file.specs.Sequence.{sequence_file}
use Rattle.spool_faults.specs.Listed.{LeavesDirectory}
use Rattle.spool_faults.specs.Salvaged.{salvaged}
use Rattle.spool_shows.specs.Laws.{ShowsNoEntry}
use Rattle.spool_shows.specs.Shown.{Shows}
use Rattle.start_journal.specs.Journals.{journal_file}
use Rattle.whole_file.specs.Others.{LeavesOthers}
use Rattle.whole_file.specs.Temporary.{temporary_file}

-- the name is that of a file of the spool: the sequence file, the journal, a file that is being made, or a job's file
abbrev pub is_of_spool : List ℕ → Bool
is_of_spool name =
    bytes_eq name sequence_file || (bytes_eq name journal_file || (bytes_eq name temporary_file || is_some (job_named name)))

-- one of the files is a file of a spool
abbrev pub is_spool : Files → Bool
is_spool files = list_any is_of_spool (map.keys files)

-- The directory is a spool, and it was left as it is.
pub record IsTargetRefused (old new : World) : Type 0 where
  pub spool : is_spool (reading old) ≡ true
  pub leaves : LeavesDirectory old new

-- The image is one of a salvage that has yet to place the sequence file, which is placed last: it has none, and shows no job.
pub record IsUnfinished (image : Files) : Type 0 where
  pub no_sequence : map.get image sequence_file ≡ None
  pub shows : ShowsNoEntry image

-- The image is one of the start, or has no sequence file yet and shows no job, or shows the table that is saved of the
-- files; and files that are not the spool's are left alone.
pub record IsSalvaging (files : Files) (start : Directory) (image : Files) : Type 0 where
  pub alone : LeavesOthers (λ name. is_of_spool name ≡ true) start image
  pub shows : IsImage start image ⊎ (IsUnfinished image ⊎ Shows image (salvaged files))

-- each image of the directory shows the table that is saved of the files
abbrev pub EachShowsSalvaged : Files → Directory → Type 0
EachShowsSalvaged files directory = (image : Files) → IsImage directory image → Shows image (salvaged files)

-- Each image shows the table that is saved of the files, the file that is made on the way is gone, and files that are not
-- the spool's read as before.
pub record HasSalvage (files : Files) (old new : Directory) : Type 0 where
  pub shows : EachShowsSalvaged files new
  pub no_temp : IsInNoImage new temporary_file
  pub others : (name : List ℕ) → is_of_spool name ≡ false → map.get (reading_of new) name ≡ map.get (reading_of old) name
