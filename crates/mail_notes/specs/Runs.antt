-- A run of notes (own): what a crash leaves at each of its moments, and what was sent by then.
use Rattle.std.specs.Prelude.{◌≡◌, ◌++◌, List}
use Rattle.std.specs.FinMap as map
use Rattle.host_calls.specs.declared.child.Asked.{Asked}
use Rattle.host_calls.specs.declared.child.Handed.{Handed}
use Rattle.host_calls.specs.Directory.{Files, Directory, IsImage, IsInNoImage}
use Rattle.host_calls.specs.World.{HasEachImage, LeavesOnly, Moment, World}
use Rattle.whole_file.specs.Others.{LeavesOthers}
use Rattle.mail_notes.specs.declared.note.Note.{Note}
use Rattle.mail_notes.specs.Hands.{SendsNotices, SendsNoticesByNow, Mailing}
use Rattle.mail_notes.specs.Lines.{HoldsNotes}
use Rattle.mail_notes.specs.Names.{IsMailName, mail_file, mail_temp}
use Rattle.mail_notes.specs.Notes.{IsNotesPrefix}

-- The image holds the notes and a prefix of the new ones after them, other files are left alone, and since the start no
-- more was sent than that prefix sends.
pub record IsAlongNotes (of : Mailing) (notes new_ones : List Note) (start : Moment) (image : Files)
    (handed : List Handed) : Type 0 where
  pub prefix : List Note
  pub is_prefix : IsNotesPrefix prefix new_ones
  pub alone : LeavesOthers IsMailName start.directory image
  pub holds : HoldsNotes (map.get image mail_file) (notes ++ prefix)
  pub given : List Handed
  pub grown : handed ≡ start.handed ++ given
  pub hands : SendsNoticesByNow of prefix image given

-- each image of the directory holds the notes, and no file of mail is being made in it
pub record HoldsNotesAlone (notes : List Note) (directory : Directory) : Type 0 where
  pub holds : (image : Files) → IsImage directory image → HoldsNotes (map.get image mail_file) notes
  pub no_temp : IsInNoImage directory mail_temp

-- The new notes were made: each image holds them after the others, these scripts were sent and these questions
-- asked, and other files are left alone.
pub record AreNotesMade (of : Mailing) (notes new_ones : List Note) (given : List Handed) (questions : List Asked)
    (old new : World)
    : Type 0 where
  pub leaves : LeavesOnly (IsAlongNotes of notes new_ones old.now) old new
  pub ready : HoldsNotesAlone (notes ++ new_ones) new.now.directory
  pub alone : (image : Files) → IsImage new.now.directory image → LeavesOthers IsMailName old.now.directory image
  pub handed : new.now.handed ≡ old.now.handed ++ given
  pub hands : SendsNotices of new_ones given
  pub asked : new.asked ≡ old.asked ++ questions

-- The new notes were made, and what stopped then may have made some of the next ones. What was sent and asked is
-- that of the notes before them.
pub record AreNotesStopped (of : Mailing) (notes new_ones next : List Note) (given : List Handed) (questions : List Asked)
    (old new : World) : Type 0 where
  pub leaves : LeavesOnly (IsAlongNotes of notes (new_ones ++ next) old.now) old new
  pub now : HasEachImage (IsAlongNotes of notes (new_ones ++ next) old.now) new.now
  pub handed : new.now.handed ≡ old.now.handed ++ given
  pub hands : SendsNotices of new_ones given
  pub asked : new.asked ≡ old.asked ++ questions
