-- What a crash leaves of the journal while it changes, and what occurs once it has.
use Rattle.std.specs.Prelude.{◌≡◌, ◌⊎◌, ◌-◌, ◌++◌, List, [], ◌∷◌, ℕ, Option}
use Rattle.std.specs.FinMap as map
use Rattle.host_calls.specs.Directory.{Files, Directory, IsImage, IsInNoImage, reading_of}
use Rattle.whole_file.specs.Others.{IsEither, LeavesOthers}
use Rattle.start_journal.specs.declared.mark.Mark.{Mark}
use Rattle.start_journal.specs.Journals.{GivesMarks, JournalRead, journal_file}
use Rattle.whole_file.specs.Temporary.{temporary_file}
use Rattle.start_journal.specs.Marks.{kept_marks}

-- the content of a journal file gives this journal
abbrev pub GivesReadJournal : Option (List ℕ) → JournalRead → Type 0
GivesReadJournal content journal = GivesMarks content journal.marks journal.free

-- the journal with one more mark, and so one free slot fewer
abbrev pub added : JournalRead → Mark → JournalRead
added journal mark = record { marks = journal.marks ++ mark ∷ []; free = journal.free - 1 }

-- the journal that a compaction leaves
abbrev pub compacted : JournalRead → JournalRead
compacted journal = record { marks = kept_marks journal.marks; free = 256 }

-- The directory holds this journal: no change of names is pending, its file has the same bytes in every image, and no
-- image has a file that is being made.
pub record HoldsJournal (journal : JournalRead) (directory : Directory) : Type 0 where
  pub durable : directory.pending ≡ []
  pub same : (image : Files) → IsImage directory image → map.get image journal_file ≡ map.get (reading_of directory) journal_file
  pub gives : GivesReadJournal (map.get (reading_of directory) journal_file) journal
  pub no_temp : IsInNoImage directory temporary_file

-- the image has the journal file that one image of the start has, or one that gives this journal
pub record IsReplacing (journal : JournalRead) (start : Directory) (image : Files) : Type 0 where
  pub alone : LeavesOthers (IsEither temporary_file journal_file) start image
  pub gives : (map.get image journal_file ≡ map.get alone.from journal_file) ⊎ GivesReadJournal (map.get image journal_file) journal

-- the image gives the one journal or the other, and other files are left alone
pub record IsChanging (before after : JournalRead) (start : Directory) (image : Files) : Type 0 where
  pub alone : LeavesOthers (IsEither temporary_file journal_file) start image
  pub gives : GivesReadJournal (map.get image journal_file) before ⊎ GivesReadJournal (map.get image journal_file) after

-- the directory holds the journal now, and all else reads as before
pub record IsChanged (journal : JournalRead) (old new : Directory) : Type 0 where
  pub holds : HoldsJournal journal new
  pub others : (name : List ℕ) → ¬ (IsEither temporary_file journal_file name) → map.get (reading_of new) name
      ≡ map.get (reading_of old) name
