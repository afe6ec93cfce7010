-- A session of mail (own): what a crash leaves at each of its moments, of what the directory shows and of the notes.
use Rattle.std.specs.Prelude.{◌≡◌, ◌⊎◌, ◌++◌, ℕ, List}
use Rattle.std.specs.FinMap as map
use Rattle.host_calls.specs.declared.child.Handed.{Handed}
use Rattle.host_calls.specs.Directory.{Files, Directory, IsImage}
use Rattle.host_calls.specs.World.{HasEachImage, LeavesOnly, Moment, World, reading}
use Rattle.spool_model.specs.JobTable.{JobTable}
use Rattle.spool_shows.specs.Shown.{shown_by}
use Rattle.step_runs.specs.Current.{EachShows, IsSpoolName}
use Rattle.mail_notes.specs.declared.note.Note.{Note}
use Rattle.mail_notes.specs.Hands.{SendsNoticesByNow, Mailing}
use Rattle.mail_notes.specs.Lines.{HoldsNotes}
use Rattle.mail_notes.specs.Names.{IsMailName, mail_file}
use Rattle.mail_notes.specs.Notes.{IsNotesPrefix}
use Rattle.mail_notes.specs.Runs.{HoldsNotesAlone}

-- the image shows what an image of the start shows, and has its files that are neither the store's nor the mail's
pub record ShowsBeside (start : Directory) (image : Files) : Type 0 where
  pub from : Files
  pub was : IsImage start from
  pub shown : shown_by image ≡ shown_by from
  pub others : (name : List ℕ) → ¬ (IsSpoolName name) → ¬ (IsMailName name) → map.get image name ≡ map.get from name

-- and its notes too, and nothing was sent since
pub record IsMailUntouched (start : Moment) (image : Files) (handed : List Handed) : Type 0 where
  pub beside : ShowsBeside start.directory image
  pub same : map.get image mail_file ≡ map.get beside.from mail_file
  pub as_many : handed ≡ start.handed

-- The image holds the notes and a prefix of the new ones after them, and since the start this was sent by them. A
-- notice whose note is the last, and that was not sent yet, is under its name.
pub record HoldsPrefix (of : Mailing) (notes new_ones : List Note) (start : Moment) (image : Files)
    (handed : List Handed) : Type 0 where
  pub prefix : List Note
  pub is_prefix : IsNotesPrefix prefix new_ones
  pub holds : HoldsNotes (map.get image mail_file) (notes ++ prefix)
  pub given : List Handed
  pub grown : handed ≡ start.handed ++ given
  pub hands : SendsNoticesByNow of prefix image given

-- The image shows what an image of the start shows. It has the notes of that image, and nothing was sent since; or
-- it holds the notes and a prefix of the new ones, and what these send was sent.
pub record IsPosted (of : Mailing) (notes new_ones : List Note) (start : Moment) (image : Files)
    (handed : List Handed) : Type 0 where
  pub beside : ShowsBeside start.directory image
  pub mail : ((map.get image mail_file ≡ map.get beside.from mail_file) × (handed ≡ start.handed))
      ⊎ HoldsPrefix of notes new_ones start image handed

-- After the recovery: the table is shown, and each image holds the notes that are read.
pub record AreNotesOpened (notes : List Note) (table : JobTable) (start opened : World) : Type 0 where
  pub leaves : LeavesOnly (IsMailUntouched start.now) start opened
  pub now : HasEachImage (IsMailUntouched start.now) opened.now
  pub handed : opened.now.handed ≡ start.now.handed
  pub shows : EachShows opened.now.directory table
  pub holds : HoldsNotes (map.get (reading opened) mail_file) notes
  pub durable : (image : Files) → IsImage opened.now.directory image → (name : List ℕ) → IsMailName name
      → map.get image name ≡ map.get (reading opened) name

-- After the removals: the table is shown, and the notes may be made.
pub record IsCleared (notes : List Note) (table : JobTable) (start cleared : World) : Type 0 where
  pub leaves : LeavesOnly (IsMailUntouched start.now) start cleared
  pub now : HasEachImage (IsMailUntouched start.now) cleared.now
  pub handed : cleared.now.handed ≡ start.now.handed
  pub shows : EachShows cleared.now.directory table
  pub ready : HoldsNotesAlone notes cleared.now.directory

-- The session came to an end: each image of each moment, and each that the end leaves, is posted, and the table is shown.
pub record HasPosted (of : Mailing) (notes new_ones : List Note) (table : JobTable) (start end : World) : Type 0 where
  pub leaves : LeavesOnly (IsPosted of notes new_ones start.now) start end
  pub now : HasEachImage (IsPosted of notes new_ones start.now) end.now
  pub shows : EachShows end.now.directory table
