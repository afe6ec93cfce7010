-- The notes are written anew, in a session of its own (own): what each image of each moment has, and what is left, by its end.
use Rattle.std.specs.Prelude.{◌≡◌, ◌⊎◌, ℕ, Bool, true, List}
use Rattle.std.specs.FinMap as finite
use Rattle.host_calls.specs.declared.child.Handed.{Handed}
use Rattle.host_calls.specs.Causes.{Rose}
use Rattle.host_calls.specs.Directory.{Files, IsImage}
use Rattle.host_calls.specs.Session.{IsLeft, Session}
use Rattle.host_calls.specs.World.{HasEachImage, LeavesOnly, Moment, World, reading}
use Rattle.host_calls.specs.declared.turn_end.TurnEnd.{TurnEnd}
use Rattle.host_calls.specs.declared.turn_end.TurnEnd.TheVariants.{Done, Busy, FileFault, Damaged, Memory}
use Rattle.spool_model.specs.JobTable.{JobTable}
use Rattle.spool_shows.specs.Shown.{Shows}
use Rattle.spool_store.specs.Recovery.{ShowsTheSame}
use Rattle.step_runs.specs.Current.{IsSpoolName}
use Rattle.whole_file.specs.Others.{IsEither, LeavesOthers}
use Rattle.mail_notes.specs.declared.note.Note.{Note}
use Rattle.mail_notes.specs.Lines.{HoldsNotes}
use Rattle.mail_notes.specs.Names.{mail_file, mail_temp}
use Rattle.mail_session.specs.SessionOutcome.{GivesNotes, IsSpoolOrNotesDamage}
use Rattle.mail_session.specs.Sessions.{AreNotesOpened, IsMailUntouched}

-- The image shows the table, and holds the notes or the next ones. Other files are left alone, and nothing was sent.
pub record HoldsEither (table : JobTable) (notes next : List Note) (start : Moment) (image : Files)
    (handed : List Handed) : Type 0 where
  pub alone : LeavesOthers (IsEither mail_temp mail_file) start.directory image
  pub shows : Shows image table
  pub holds : HoldsNotes (finite.get image mail_file) notes ⊎ HoldsNotes (finite.get image mail_file) next
  pub as_many : handed ≡ start.handed

-- The reading shows the table and has the notes. The recovery leaves the notes in each image, and then each image of each
-- moment, and each that the end leaves, holds them or the next ones.
pub record IsRewriting (table : JobTable) (notes next : List Note) (old new : World) : Type 0 where
  pub shown : Shows (reading old) table
  pub gives : GivesNotes (finite.get (reading old) mail_file) notes
  pub opened : World
  pub is_opened : AreNotesOpened notes table old opened
  pub leaves : LeavesOnly (HoldsEither table notes next opened.now) opened new
  pub now : HasEachImage (HoldsEither table notes next opened.now) new.now
  pub asked : new.asked ≡ old.asked

-- The next notes are in each image, and other files read as before.
pub record IsRewritten (table : JobTable) (notes next : List Note) (old new : World) : Type 0 where
  pub writing : IsRewriting table notes next old new
  pub stand : (image : Files) → IsImage new.now.directory image → HoldsNotes (finite.get image mail_file) next
  pub others : (name : List ℕ) → ¬ (IsSpoolName name) → ¬ (IsEither mail_temp mail_file name)
      → finite.get (reading new) name ≡ finite.get (reading old) name

-- Nothing was written: the reading shows what it showed, each image has the notes of one of the start, and nothing was sent
-- or asked.
pub record AreNotesKept (old new : World) : Type 0 where
  pub leaves : LeavesOnly (IsMailUntouched old.now) old new
  pub now : HasEachImage (IsMailUntouched old.now) new.now
  pub shown : ShowsTheSame old.now.directory new.now.directory
  pub asked : new.asked ≡ old.asked

-- what is left by the end: where it is done it was written whole, and where it was stopped, in part or not at all
abbrev pub RewriteLeaves : (World → World → Type 0) → (World → World → Type 0) → World → World → TurnEnd → Type 0
RewriteLeaves Whole Part old new Done = Whole old new
RewriteLeaves Whole Part old new Busy = new ≡ old
RewriteLeaves Whole Part old new FileFault = AreNotesKept old new ⊎ Part old new
RewriteLeaves Whole Part old new (Damaged damage) = AreNotesKept old new × IsSpoolOrNotesDamage (reading old) damage
RewriteLeaves Whole Part old new Memory = AreNotesKept old new ⊎ Part old new

-- Of every host: the session is over, it started no child, and why it ended so. Of a host that exposes its files and is
-- alone: what is left.
pub record RewritesTo (Whole Part : World → World → Type 0) (tells alone : Bool) (before after : Session) (old new : World)
    (end : TurnEnd) : Type 0 where
  pub left : IsLeft before after
  pub busy : end ≡ Busy → Rose before.taken after.taken
  pub fault : end ≡ FileFault → Rose before.file_faults after.file_faults
  pub leaves : tells ≡ true → alone ≡ true → RewriteLeaves Whole Part old new end
