-- A journal that is given room: the names are synced, then it is compacted. The same table is shown all along.
use Rattle.std.proofs.Common.{◌≡◌, ℕ, List, [], sym, ap, subst, ◌∙◌, refl, inl, inr, Result, Ok, Err}
use Rattle.std.specs.Prelude.{IfOk, IsSome, OnOk, None}
use Rattle.std.specs.FinMap as map
use Rattle.host_calls.specs.declared.fault.HostFault.{HostFault}
use Rattle.host_calls.specs.Directory.{Files, Directory, HasNamesSynced, IsImage, IsSyncedInPart, MayHoldAt, Names, names_of, reading_of, with_names_durable}
use Rattle.host_calls.specs.World.{FileCall, IsWithin, World}
use Rattle.host_calls.proofs.DirectoryLemmas.{reading_is_image}
use Rattle.sequence_file.specs.Sequence.{sequence_file}
use Rattle.whole_file.specs.Temporary.{temporary_file}
use Rattle.spool_model.specs.JobTable.{JobTable}
use Rattle.start_journal.specs.declared.mark.Mark.{Mark}
use Rattle.start_journal.specs.JournalChange.{GivesReadJournal, HoldsJournal, IsChanged, IsChanging, compacted}
use Rattle.start_journal.specs.Journals.{JournalRead, journal_file}
use Rattle.start_journal.specs.Marks.{AreLegalMarks, kept_marks}
use Rattle.start_journal.proofs.MarkLemmas.{forgotten_was_decided}
use Rattle.start_journal.proofs.OverwriteLemmas.{durable_names}
use Rattle.whole_file.specs.Others.{ChangesFiles, IsEither, LeavesOthers}
use Rattle.whole_file.proofs.OthersLemmas.{changes_none, changes_then, names_durable, none_holds, nothing_holds, reading_holds}
use Rattle.step_runs.specs.Calls.{IsSteppingOn}
use Rattle.step_runs.specs.Current.{EachShows, HasNoDecidedFile, HaveForms, IsCurrent, IsSpoolName, Kept}
use Rattle.spool_shows.specs.Laws.{HasNoForgotten}
use Rattle.spool_shows.specs.Shown.{Shows}
use Rattle.spool_shows.proofs.NameLemmas.{job_name_apart, journal_no_job, sequence_apart, temporary_no_job}
use Rattle.spool_store.specs.inside.JournalMark.{KeepsFiles, kept_with}
use Rattle.spool_store.proofs.KeptMarks.{kept_decided}
use Rattle.whole_file.proofs.ChangesJoined.{changes_end, changes_join, left_alone}
use Rattle.spool_store.proofs.MarkingCalls.{journal_is_spool, leaves_through, stepping_none, stepping_start}
use Rattle.spool_store.proofs.MarkingLemmas.{IsShownWith, compacted_shown, legal_there, same_shown}

-- The names are synced.

-- what the images of before have, those of each moment of a sync have
synced_within : (P : Files → Type 0) (directory : Directory) → ((image : Files) → IsImage directory image → P image) → (image : Files)
    → IsWithin HasNamesSynced directory image → P image
synced_within P directory each image (inl is) = each image is
synced_within P directory each image (inr (new, synced, is)) =
    each image (names_durable directory image (subst (λ (at : Directory). IsImage at image) synced is))

-- so no step is made by it
pub sync_stepping : {T : Type 0} (table : JobTable) (old new : World) (result : Result T HostFault) → EachShows old.now.directory table
    → FileCall HasNamesSynced IsSyncedInPart old new result → ChangesFiles (IsSteppingOn table [] old.now.directory) old new
sync_stepping table old new result shows call =
    changes_then _ HasNamesSynced IsSyncedInPart old old new result (changes_none _ old) call
    (synced_within _ old.now.directory (stepping_start table [] old.now.directory shows))

-- a directory whose names are durable has images of before alone, and reads as before
synced_current : (kept : Kept) (directory : Directory) (table : JobTable) → IsCurrent kept directory table
    → IsCurrent kept (with_names_durable directory) table
synced_current kept directory table current = record {
  shows = λ image is. current.shows image (names_durable directory image is);
  without_scripts_is = current.without_scripts_is;
  journal = record {
    durable = refl;
    same = λ image is. current.journal.same image (names_durable directory image is);
    gives = current.journal.gives;
    no_temp = λ image is. current.journal.no_temp image (names_durable directory image is);
  };
  sequence = λ image is. current.sequence image (names_durable directory image is);
  decided = current.decided;
  forms = current.forms;
}

-- so what is kept is current still
pub sync_current : (kept : Kept) (old new : Directory) (table : JobTable) → IsCurrent kept old table → HasNamesSynced old new
    → IsCurrent kept new table
sync_current kept old new table current synced =
    subst (λ (directory : Directory). IsCurrent kept directory table) (sym synced) (synced_current kept old table current)

-- where no change of names is pending, what the reading lacks each image lacks
pub absent_there : (directory : Directory) (image : Files) (name : List ℕ) → directory.pending ≡ [] → IsImage directory image
    → map.get (reading_of directory) name ≡ None → map.get image name ≡ None
absent_there directory image name durable is absent =
    let held : map.get (names_of directory) name ≡ None =
    nothing_holds directory.body (map.get (names_of directory) name) (subst (MayHoldAt directory.body (map.get (names_of directory) name))
    absent (reading_holds directory.body (names_of directory) name)) in
    let names : is.names ≡ names_of directory = durable_names directory.pending directory.durable is.names durable is.chosen in
    none_holds directory.body (map.get image name)
    (subst (λ found. MayHoldAt directory.body found (map.get image name))
    (ap (λ (list : Names). map.get list name) names ∙ held) (is.each name))

-- an image of a current directory shows the table with the journal
pub shown_with : (old_form : List ℕ) (journal : JournalRead) (directory : Directory) (table : JobTable) → IsCurrent
    (kept_with old_form journal table) directory table → (image : Files) → IsImage directory image → IsShownWith journal table image
shown_with old_form journal directory table current image is = record {
  shows = current.shows image is;
  gives = subst (λ content. GivesReadJournal content journal) (sym (current.journal.same image is)) current.journal.gives;
}

-- While the journal changes.

-- at the start each image has what the directory holds
pub changing_start : (before after : JournalRead) (middle : Directory) → HoldsJournal before middle → (image : Files) → IsImage middle image
    → IsChanging before after middle image
changing_start before after middle holds image is = record {
  alone = record { from = image; was = is; others = λ name other. refl };
  gives = inl (subst (λ content. GivesReadJournal content before) (sym (holds.same image is)) holds.gives);
}

-- the sequence file is that of the directory before it
pub sequence_still : (before after : JournalRead) (kept : Kept) (table : JobTable) (middle new : Directory) (image : Files)
    → IsCurrent kept middle table → KeepsFiles middle new → IsChanging before after middle image
    → map.get image sequence_file ≡ map.get (reading_of new) sequence_file
sequence_still before after kept table middle new image current keeps changing =
    changing.alone.others sequence_file sequence_apart
    ∙ current.sequence changing.alone.from changing.alone.was
    ∙ sym (keeps sequence_file sequence_apart)

-- and no file of a finished number comes back
pub decided_still : (marks : List Mark) (old new : Directory) → KeepsFiles old new → HasNoDecidedFile marks (reading_of old)
    → HasNoDecidedFile marks (reading_of new)
decided_still marks old new keeps none name job named decided =
    keeps name (job_name_apart temporary_file journal_file name job temporary_no_job journal_no_job named) ∙ none name job named decided

-- and the names of files have the forms that are kept
pub forms_still : (old_form : List ℕ) (last : ℕ) (old new : Directory) → KeepsFiles old new → HaveForms old_form last (reading_of old)
    → HaveForms old_form last (reading_of new)
forms_still old_form last old new keeps forms = record {
  each = λ name job named there. forms.each name job named
      (subst IsSome (keeps name (job_name_apart temporary_file journal_file name job temporary_no_job journal_no_job named)) there);
  drawn = forms.drawn;
}

-- The journal is compacted.

-- The names were synced in a first run, and in a second one the journal is compacted.
pub record IsCompacting (old_form : List ℕ) (journal : JournalRead) (table : JobTable) (first second third : World) : Type 0 where
  pub current : IsCurrent (kept_with old_form journal table) first.now.directory table
  pub synced : HasNamesSynced first.now.directory second.now.directory
  pub syncs : ChangesFiles (IsSteppingOn table [] first.now.directory) first second
  pub compacts : ChangesFiles (IsChanging journal (compacted journal) second.now.directory) second third

module _ (old_form : List ℕ) (journal : JournalRead) (table : JobTable) (first second third : World)
    (compacting : IsCompacting old_form journal table first second third) where
  abbrev start : Directory
  start = first.now.directory

  abbrev middle : Directory
  middle = second.now.directory

  -- what is kept is current in the middle
  now_current : IsCurrent (kept_with old_form journal table) middle table
  now_current = sync_current (kept_with old_form journal table) start middle table compacting.current compacting.synced

  -- where each image shows the table with the journal
  shown_in : (image : Files) → IsImage middle image → IsShownWith journal table image
  shown_in = shown_with old_form journal middle table now_current

  -- whose marks are legal
  legal : AreLegalMarks journal.marks
  legal = legal_there journal table (reading_of middle) (shown_in (reading_of middle) (reading_is_image middle))

  -- no image has a file of a forgotten number, since no change of names is pending
  none_forgotten : (image : Files) → IsImage middle image → HasNoForgotten journal.marks image
  none_forgotten image is name job named forgotten =
      absent_there middle image name (ap (λ (directory : Directory). directory.pending) compacting.synced) is
      (now_current.decided name job named (forgotten_was_decided job.number [] journal.marks legal forgotten))

  -- each image shows the table
  shows_still : (image : Files) → IsChanging journal (compacted journal) middle image → Shows image table
  shows_still image changing =
      let from : Files = changing.alone.from in
      let is : IsShownWith journal table from = shown_in from changing.alone.was in
      elim changing.gives [
        | inl before ↦ same_shown journal table from image is before changing.alone.others
        | inr after ↦ compacted_shown journal table from image is (none_forgotten from changing.alone.was) after changing.alone.others
      ]

  -- images of the middle are images of the start
  through : (from : Files) → IsImage middle from → LeavesOthers IsSpoolName start from
  through from is = left_alone IsSpoolName start from
      (names_durable start from (subst (λ (directory : Directory). IsImage directory from) compacting.synced is))

  -- through both runs no step is made
  pub compact_stepping : ChangesFiles (IsSteppingOn table [] start) first third
  compact_stepping =
      changes_join _ _ first second third compacting.syncs compacting.compacts
      (λ image changing. stepping_none table [] start image (shows_still image changing)
      (leaves_through (IsEither temporary_file journal_file) start middle image journal_is_spool through changing.alone))

  -- once it is compacted, what is kept is current
  current_after : IsChanged (compacted journal) middle third.now.directory
      → IsCurrent (kept_with old_form (compacted journal) table) third.now.directory table
  current_after changed =
      let each : (image : Files) → IsImage third.now.directory image → IsChanging journal (compacted journal) middle image =
      changes_end _ second third compacting.compacts (changing_start journal (compacted journal) middle now_current.journal) in
      record {
        shows = λ image is. shows_still image (each image is);
        without_scripts_is = refl;
        journal = changed.holds;
        sequence = λ image is. sequence_still journal (compacted journal) (kept_with old_form journal table) table middle
            third.now.directory image now_current changed.others (each image is);
        decided = decided_still (kept_marks journal.marks) middle third.now.directory changed.others
            (λ name job named decided. now_current.decided name job named (kept_decided journal.marks job.number legal decided));
        forms = forms_still old_form table.last middle third.now.directory changed.others now_current.forms;
      }

  -- by the answer of the call
  pub compact_current : (result : Result JournalRead HostFault) → IfOk result (λ new. new ≡ compacted journal)
      → OnOk result (IsChanged (compacted journal) middle third.now.directory)
      → IfOk result (λ new. IsCurrent (kept_with old_form new table) third.now.directory table)
  compact_current (Err fault) made changed = tt
  compact_current (Ok new) made changed =
      subst (λ (read : JournalRead). IsCurrent (kept_with old_form read table) third.now.directory table) (sym made) (current_after changed)
