-- One more mark in the journal: each image shows the table before the step of that mark or after it.
use Rattle.std.proofs.Common.{◌≡◌, ℕ, Bool, true, false, List, [], ◌∷◌, sym, subst, ◌∙◌, inl, inr, Result, Ok, Err}
use Rattle.std.specs.Prelude.{IfOk, OnOk, if◌then◌else◌}
use Rattle.std.specs.FinMap as finite
use Rattle.host_calls.specs.declared.fault.HostFault.{HostFault}
use Rattle.host_calls.specs.Directory.{Files, Directory, IsImage}
use Rattle.host_calls.specs.World.{World}
use Rattle.whole_file.specs.Temporary.{temporary_file}
use Rattle.spool_model.specs.declared.step.Step.{Step}
use Rattle.spool_model.specs.JobTable.{JobTable}
use Rattle.spool_model.specs.Steps.{after_step}
use Rattle.start_journal.specs.declared.mark.Mark.{Mark}
use Rattle.start_journal.specs.JournalChange.{GivesReadJournal, IsChanged, IsChanging, added, compacted}
use Rattle.start_journal.specs.Journals.{JournalRead, journal_file}
use Rattle.start_journal.specs.Marks.{AreLegalMarks, IsLegalAfter}
use Rattle.whole_file.specs.Others.{ChangesFiles, IsEither, LeavesOthers}
use Rattle.step_runs.specs.Calls.{IsSteppingOn}
use Rattle.step_runs.specs.Current.{IsCurrent, IsSpoolName}
use Rattle.spool_shows.specs.Shown.{Shows}
use Rattle.spool_store.specs.inside.JournalMark.{IsMarkOf, IsMarkDurable, KeepsFiles, kept_with}
use Rattle.spool_store.specs.OneStep.{needs_room, with_room}
use Rattle.spool_store.proofs.KeptMarks.{legal_when_kept}
use Rattle.whole_file.proofs.ChangesJoined.{changes_end, changes_join, changes_weaker}
use Rattle.spool_store.proofs.MarkingCalls.{journal_is_spool, leaves_through, stepping_more, stepping_none, stepping_one, stepping_start}
use Rattle.spool_store.proofs.MarkingLemmas.{IsShownWith, added_shown, same_shown}
use Rattle.spool_store.proofs.RoomLemmas.{changing_start, decided_still, sequence_still, shown_with}

-- a mark that is legal after marks is so with room made, where a compaction may have kept what counts of them
pub legal_still : (journal room : JournalRead) (mark : Mark) → AreLegalMarks journal.marks → IsLegalAfter journal.marks mark
    → room ≡ with_room journal → IsLegalAfter room.marks mark
legal_still journal room mark legal is room_is =
    subst (λ (read : JournalRead). IsLegalAfter read.marks mark) (sym room_is) (by_room (needs_room journal))
  where
    by_room : (needs : Bool) → IsLegalAfter (if needs then compacted journal else journal).marks mark
    by_room true = legal_when_kept journal.marks mark legal is
    by_room false = is

-- what both runs keep
pub keeps_through : (start middle third : Directory) (after : JournalRead) (result : Result JournalRead HostFault) → KeepsFiles start middle
    → OnOk result (IsChanged after middle third) → OnOk result (KeepsFiles start third)
keeps_through start middle third after (Err fault) keeps changed = tt
keeps_through start middle third after (Ok new) keeps changed = λ name other. changed.others name other ∙ keeps name other

-- The journal was given room in a first run, and in a second one the mark of the step is added.
pub record IsAdding (old_form : List ℕ) (journal room : JournalRead) (table : JobTable) (step : Step) (mark : Mark)
    (first second third : World) : Type 0 where
  pub is_mark : IsMarkOf old_form journal first.now.directory table step mark
  pub current : IsCurrent (kept_with old_form room table) second.now.directory table
  pub keeps : KeepsFiles first.now.directory second.now.directory
  pub makes_room : ChangesFiles (IsSteppingOn table [] first.now.directory) first second
  pub adds : ChangesFiles (IsChanging room (added room mark) second.now.directory) second third

module _ (old_form : List ℕ) (journal room : JournalRead) (table : JobTable) (step : Step) (mark : Mark) (first second third : World)
    (adding : IsAdding old_form journal room table step mark first second third) where
  abbrev start : Directory
  start = first.now.directory

  abbrev middle : Directory
  middle = second.now.directory

  -- what an image is of which this one differs at the journal
  shown_before : (image : Files) (changing : IsChanging room (added room mark) middle image) → IsShownWith room table changing.alone.from
  shown_before image changing = shown_with old_form room middle table adding.current changing.alone.from changing.alone.was

  -- with the mark in its journal it shows the table after the step
  shows_after : (image : Files) → IsChanging room (added room mark) middle image
      → GivesReadJournal (finite.get image journal_file) (added room mark) → Shows image (after_step table step)
  shows_after image changing gives =
      added_shown room table step mark changing.alone.from image (shown_before image changing) adding.is_mark.legal adding.is_mark.adds
      gives changing.alone.others

  -- while the mark is added, the step was made or not
  stepping : (image : Files) → LeavesOthers IsSpoolName start image → IsChanging room (added room mark) middle image
      → IsSteppingOn table (step ∷ []) start image
  stepping image others changing = elim changing.gives [
    | inl before ↦ stepping_none table (step ∷ []) start image
        (same_shown room table changing.alone.from image (shown_before image changing) before changing.alone.others) others
    | inr after ↦ stepping_one table step start image (shows_after image changing after) others
  ]

  -- images of the middle leave other files alone
  through : (from : Files) → IsImage middle from → LeavesOthers IsSpoolName start from
  through from is =
      (changes_end _ first second adding.makes_room (stepping_start table [] start adding.is_mark.current.shows) from is).others

  -- through both runs, the one step is made at most
  pub add_stepping : ChangesFiles (IsSteppingOn table (step ∷ []) start) first third
  add_stepping =
      changes_join _ _ first second third
      (changes_weaker _ _ first second (stepping_more table (step ∷ []) start) adding.makes_room)
      adding.adds
      (λ image changing. stepping image
      (leaves_through (IsEither temporary_file journal_file) start middle image journal_is_spool through changing.alone) changing)

  -- once the mark is added it counts
  is_kept : IsChanged (added room mark) middle third.now.directory
      → IsMarkDurable journal.marks (added room mark) third.now.directory (after_step table step)
  is_kept changed =
      let each : (image : Files) → IsImage third.now.directory image → IsChanging room (added room mark) middle image =
      changes_end _ second third adding.adds (changing_start room (added room mark) middle adding.current.journal) in
      record {
        shows = λ image is. shows_after image (each image is)
            (subst (λ content. GivesReadJournal content (added room mark)) (sym (changed.holds.same image is)) changed.holds.gives);
        holds = changed.holds;
        sequence = λ image is. sequence_still room (added room mark) (kept_with old_form room table) table middle third.now.directory image
            adding.current changed.others (each image is);
        decided = decided_still journal.marks middle third.now.directory changed.others
            (decided_still journal.marks start middle adding.keeps adding.is_mark.current.decided);
      }

  -- by the answer of the call
  pub add_marked : (result : Result JournalRead HostFault) → IfOk result (λ new. new ≡ added room mark)
      → OnOk result (IsChanged (added room mark) middle third.now.directory)
      → IfOk result (λ new. IsMarkDurable journal.marks new third.now.directory (after_step table step))
  add_marked (Err fault) made changed = tt
  add_marked (Ok new) made changed = subst (λ (read : JournalRead).
      IsMarkDurable journal.marks read third.now.directory (after_step table step)) (sym made) (is_kept changed)
