-- One more mark in the journal (own): when the store may add it, and what is then.
use Rattle.std.specs.Prelude.{◌≡◌, ◌⊎◌, ◌++◌, [], ◌∷◌, ℕ, List, Result, Ok, Err, true}
use Rattle.std.specs.FinMap as finite
use Rattle.host_calls.specs.Directory.{Files, Directory, IsImage, reading_of}
use Rattle.sequence_file.specs.Sequence.{sequence_file}
use Rattle.whole_file.specs.Temporary.{temporary_file}
use Rattle.spool_model.specs.declared.step.Step.{Step}
use Rattle.spool_model.specs.JobTable.{JobTable}
use Rattle.spool_model.specs.Steps.{IsLegal}
use Rattle.spool_shows.specs.Laws.{AddsMark}
use Rattle.start_journal.specs.declared.mark.Mark.{Mark}
use Rattle.start_journal.specs.JournalChange.{HoldsJournal}
use Rattle.start_journal.specs.Journals.{JournalRead, journal_file}
use Rattle.start_journal.specs.Marks.{decides, kept_marks}
use Rattle.whole_file.specs.Others.{IsEither}
use Rattle.step_runs.specs.WithoutScripts.{without_scripts}
use Rattle.step_runs.specs.Current.{EachShows, HasNoDecidedFile, IsCurrent, Kept}
use Rattle.spool_store.specs.Scripts.{IsLiveFileName}

-- what is kept of a table: the table without scripts, the journal, and the numbers of names in the old form
abbrev pub kept_with : List ℕ → JournalRead → JobTable → Kept
kept_with old_form journal table = record { table = without_scripts table; journal = journal; old_form = old_form }

-- what is kept of the table by the answer of a call that hands its journal back
abbrev pub kept_by : {E : Type 0} → List ℕ → JobTable → Result JournalRead E → Result Kept E
kept_by old_form table (Ok journal) = Ok (kept_with old_form journal table)
kept_by old_form table (Err fault) = Err fault

-- the mark is that of a legal step on the table that the directory shows
pub record IsMarkOf (old_form : List ℕ) (journal : JournalRead) (directory : Directory) (table : JobTable) (step : Step)
    (mark : Mark) : Type 0 where
  pub current : IsCurrent (kept_with old_form journal table) directory table
  pub legal : IsLegal table step
  pub adds : AddsMark table step mark

-- The mark decides a job, whose file has this name.
pub record IsDecisionOf (old_form : List ℕ) (journal : JournalRead) (directory : Directory) (table : JobTable) (step : Step)
    (mark : Mark) (name : List ℕ) : Type 0 where
  pub is_mark : IsMarkOf old_form journal directory table step mark
  pub number : ℕ
  pub decided : decides number mark ≡ true
  pub file : IsLiveFileName table old_form number name

-- the marks with one more, or what a compaction keeps of them with one more
abbrev pub HaveOneMore : List Mark → Mark → List Mark → Type 0
HaveOneMore before mark after = (after ≡ before ++ mark ∷ []) ⊎ (after ≡ kept_marks before ++ mark ∷ [])

-- all files but the journal read as before
abbrev pub KeepsFiles : Directory → Directory → Type 0
KeepsFiles old new =
    (name : List ℕ) → ¬ (IsEither temporary_file journal_file name) →
    finite.get (reading_of new) name ≡ finite.get (reading_of old) name

-- The mark is written: each image shows the table, and what is kept is current with it, but for files of numbers
-- that the last mark decides.
pub record IsMarkDurable (before : List Mark) (journal : JournalRead) (directory : Directory) (table : JobTable) : Type 0 where
  pub shows : EachShows directory table
  pub holds : HoldsJournal journal directory
  pub sequence : (image : Files) → IsImage directory image → finite.get image sequence_file ≡ finite.get (reading_of directory)
      sequence_file
  pub decided : HasNoDecidedFile before (reading_of directory)
