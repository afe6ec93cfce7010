-- What a scan of a directory finds (own): the names, the files that count by their first bytes, and the files
-- that no longer count.
use Rattle.std.specs.Prelude.{◌≡◌, ◌||◌, ℕ, Bool, true, false, List, Some, None, Option, Ok, nat_eq, take, map}
use Rattle.std.specs.Cmp.Lexicographic.{pointwise}
use Rattle.std.specs.FinMap as finite
use Rattle.std.specs.List.{filter}
use Rattle.host_calls.specs.Directory.{Files}
use Rattle.spool_model.specs.JobTable.{JobTable}
use Rattle.whole_file.specs.Temporary.{temporary_file}
use Rattle.start_journal.specs.declared.mark.Mark.{Mark}
use Rattle.start_journal.specs.Journals.{journal_file, journal_in}
use Rattle.start_journal.specs.Marks.{is_decided}
use Rattle.job_script.specs.declared.headers.TheConstants.{MAX_HEADER}
use Rattle.step_runs.specs.WithoutScripts.{without_scripts}
use Rattle.spool_shows.specs.JobFiles.{counts, job_files}
use Rattle.job_name.specs.JobName.{NamedJob, job_named}
use Rattle.spool_shows.specs.Shown.{Shows}
use Rattle.spool_store.specs.declared.scanned_files.ScannedFiles.{ScannedFiles}
use Rattle.spool_store.specs.declared.scanned_files.Kind.{Kind}
use Rattle.spool_store.specs.declared.scanned_files.Kind.TheVariants.{Counts, LeftOver, Other}
use Rattle.spool_store.specs.declared.directory_scan.RecoveryScan.{RecoveryScan}
use Rattle.spool_store.specs.inside.ScannedJobs.{files_scanned, job_of_name, old_form_numbers}

-- a mark decides the number of the job, if there is one
abbrev pub is_decided_job : List Mark → Option NamedJob → Bool
is_decided_job marks (Some job) = is_decided job.number marks
is_decided_job marks None = false

-- A file of this name no longer counts: it is a file that was being made, or that of a job whose number is
-- decided.
abbrev pub is_left_over : List Mark → List ℕ → Bool
is_left_over marks name = pointwise nat_eq name temporary_file || is_decided_job marks (job_named name)

-- what a name is, where these are the marks
abbrev pub IsKind : List Mark → List ℕ → Kind → Type 0
IsKind marks name (Counts job) =
    (counts marks name ≡ true) × (is_left_over marks name ≡ false) × (job_named name ≡ Some (job_of_name job))
IsKind marks name LeftOver = (counts marks name ≡ false) × (is_left_over marks name ≡ true)
IsKind marks name Other = (counts marks name ≡ false) × (is_left_over marks name ≡ false)

-- a name and the first bytes of its file, as many as a header can have
abbrev pub prefix_of : List ℕ × List ℕ → List ℕ × List ℕ
prefix_of file = (file.0, take MAX_HEADER file.1)

-- These were found among the files: those that count, and the names of those that no longer count.
pub record AreScannedFiles (marks : List Mark) (files : List (List ℕ × List ℕ)) (scanned_files : ScannedFiles) : Type 0 where
  pub scanned : files_scanned scanned_files.scanned.items ≡ job_files marks (map prefix_of files)
  pub leftover : scanned_files.leftover.items ≡ filter (is_left_over marks) (map (λ file. file.0) files)

-- The directory shows a table. These are its jobs without scripts, its journal, the numbers of the files with narrow
-- names, and the names of the files that no longer count, each once.
pub record IsScan (files : Files) (scan : RecoveryScan) : Type 0 where
  pub table : JobTable
  pub shows : Shows files table
  pub jobs : scan.jobs ≡ without_scripts table
  pub journal : journal_in table.last (finite.get files journal_file) ≡ Ok scan.journal
  pub old_form : scan.old_form.items ≡ old_form_numbers (job_files scan.journal.marks (finite.entries files))
  pub leftover : scan.leftover.items ≡ filter (is_left_over scan.journal.marks) (finite.keys files)
