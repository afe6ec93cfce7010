-- What one look at a settled directory finds (own).
use Rattle.std.specs.Prelude.{◌≡◌}
use Rattle.std.specs.FinMap as finite
use Rattle.std.specs.List.{filter}
use Rattle.host_calls.specs.Directory.{Files}
use Rattle.sequence_file.specs.LastNumber.{last_in}
use Rattle.sequence_file.specs.Sequence.{sequence_file}
use Rattle.spool_faults.specs.declared.scan.SpoolScan.{SpoolScan}
use Rattle.spool_faults.specs.Faults.{has_header}
use Rattle.spool_faults.specs.inside.FoundFiles.{AreDecidedNumbers, AreFirstFiles}
use Rattle.spool_shows.specs.JobFiles.{job_files}
use Rattle.start_journal.specs.Journals.{journal_file}
use Rattle.start_journal.specs.Taken.{marks_taken}

-- the last number, the journal and its marks, all names, and the files that are taken
pub record IsSpoolScan (files : Files) (scan : SpoolScan) : Type 0 where
  pub number : scan.number ≡ last_in (finite.get files sequence_file)
  pub journal : scan.journal ≡ finite.get files journal_file
  pub names : scan.names.items ≡ finite.keys files
  pub marks : scan.marks.items ≡ marks_taken scan.journal
  pub decided : AreDecidedNumbers scan.marks.items scan.decided
  pub firsts : AreFirstFiles (filter has_header (job_files scan.marks.items (finite.entries files))) scan.firsts
