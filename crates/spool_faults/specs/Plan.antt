-- What is to be written for what is saved of a directory (own).
use Rattle.std.specs.Prelude.{◌≡◌, ℕ, true, List, map}
use Rattle.host_calls.specs.Directory.{Files}
use Rattle.sequence_file.specs.Sequence.{SpellsIn}
use Rattle.spool_faults.specs.Salvaged.{files_of_salvage, last_of_salvage, marks_of_salvage}
use Rattle.spool_shows.specs.JobFiles.{JobFile}
use Rattle.start_journal.specs.Journals.{SpellsJournal}

-- the name of a job's file
abbrev pub name_of_file : JobFile → List ℕ
name_of_file file = file.name

-- how many free slots a journal has that is written whole
abbrev pub spare_slots : ℕ
spare_slots = 256

-- The names are those of the files that are saved, in their order; the journal is that of the marks that are saved, with
-- free slots, and the sequence file that of the number, in the new form.
pub record IsPlanOf (files : Files) (names : List (List ℕ)) (journal sequence : List ℕ) : Type 0 where
  pub names_are : names ≡ map name_of_file (files_of_salvage files)
  pub journal_is : SpellsJournal journal (marks_of_salvage files) spare_slots
  pub sequence_is : SpellsIn true sequence (last_of_salvage files)
