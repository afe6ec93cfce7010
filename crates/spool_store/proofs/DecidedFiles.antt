-- The file of a job that is finished: without it each image shows the same table, and then none of a finished number is
-- left.
use Rattle.std.proofs.Common.{◌≡◌, ℕ, true, false, not, List, [], ◌∷◌, Contains, sym, ap, subst, ◌∙◌, refl, inl, inr, Result, Ok, Err}
use Rattle.std.specs.Prelude.{Option, Some, None, IsErr, IsSome, is_some}
use Rattle.std.specs.FinMap as finite
use Rattle.host_calls.specs.declared.fault.HostFault.{HostFault}
use Rattle.host_calls.specs.Directory.{Files, Directory, IsImage, reading_of}
use Rattle.host_calls.specs.World.{World}
use Rattle.host_calls.proofs.DirectoryLemmas.{reading_is_image}
use Rattle.sequence_file.specs.Sequence.{sequence_file}
use Rattle.whole_file.specs.Temporary.{temporary_file}
use Rattle.spool_model.specs.declared.step.Step.{Step}
use Rattle.spool_model.specs.JobTable.{JobTable}
use Rattle.spool_model.specs.Steps.{after_step}
use Rattle.start_journal.specs.declared.mark.Mark.{Mark}
use Rattle.start_journal.specs.JournalChange.{GivesReadJournal}
use Rattle.start_journal.specs.Journals.{JournalRead, journal_file}
use Rattle.start_journal.specs.Marks.{AreLegalMarks, is_decided}
use Rattle.whole_file.specs.Removal.{AreCleared}
use Rattle.whole_file.specs.Others.{ChangesFiles, LeavesOthers}
use Rattle.whole_file.proofs.OthersLemmas.{one_or_other}
use Rattle.step_runs.specs.Calls.{IsSteppingOn, KeepsOthers, StoreCall}
use Rattle.step_runs.specs.Current.{HasNoDecidedFile, HaveForms, IsCurrent, IsSpoolName}
use Rattle.spool_shows.specs.JobFiles.{counts, counts_as}
use Rattle.job_name.specs.JobName.{NamedJob, job_named}
use Rattle.spool_shows.specs.Laws.{HasMarks}
use Rattle.spool_shows.specs.Shown.{Shows}
use Rattle.spool_shows.proofs.NameLemmas.{job_name_apart, job_name_differs, journal_no_job, sequence_no_job, temporary_no_job}
use Rattle.spool_shows.proofs.OneMark.{had_same}
use Rattle.spool_shows.proofs.OtherLemmas.{other_files_count_for_nothing}
use Rattle.spool_shows.proofs.StepLaws.{by_name}
use Rattle.spool_store.specs.inside.JournalMark.{HaveOneMore, IsDecisionOf, IsMarkDurable, KeepsFiles, kept_by, kept_with}
use Rattle.spool_store.proofs.DecideLemmas.{IsItsFile, apart_from, decided_before_or_by_it, decided_by_it, decided_file, is_the_one, one_decided, only_one, still_drawn}
use Rattle.spool_store.proofs.MarkingLemmas.{IsShownWith, reads_as}
use Rattle.whole_file.proofs.ChangesJoined.{changes_end, changes_join}
use Rattle.spool_store.proofs.MarkingCalls.{journal_is_spool, leaves_through, stepping_one, stepping_start}

-- The mark of a decision was added in a first run, and in a second one the job's file is removed.
pub record IsDeciding (old_form : List ℕ) (journal new : JournalRead) (table : JobTable) (step : Step) (mark : Mark) (name : List ℕ)
    (first second third : World) : Type 0 where
  pub decision : IsDecisionOf old_form journal first.now.directory table step mark name
  pub legal : AreLegalMarks journal.marks
  pub more : HaveOneMore journal.marks mark new.marks
  pub marked : IsMarkDurable journal.marks new second.now.directory (after_step table step)
  pub keeps : KeepsFiles first.now.directory second.now.directory
  pub adds : ChangesFiles (IsSteppingOn table (step ∷ []) first.now.directory) first second
  pub clears : ChangesFiles (LeavesOthers (Contains (name ∷ [])) second.now.directory) second third

-- a call that failed
pub unmarked_call : (old_form : List ℕ) (table : JobTable) (step : Step) (first third : World)
    → ChangesFiles (IsSteppingOn table (step ∷ []) first.now.directory) first third → (result : Result JournalRead HostFault) → IsErr result
    → StoreCall table (step ∷ []) first third (kept_by old_form (after_step table step) result)
unmarked_call old_form table step first third files (Ok new) failed = cc
unmarked_call old_form table step first third files (Err fault) failed = record { files = files; current = tt; others = tt }

module _ (old_form : List ℕ) (journal new : JournalRead) (table : JobTable) (step : Step) (mark : Mark) (name : List ℕ)
    (first second third : World) (deciding : IsDeciding old_form journal new table step mark name first second third) where
  abbrev start : Directory
  start = first.now.directory

  abbrev middle : Directory
  middle = second.now.directory

  -- the mark is in the middle
  marked : IsMarkDurable journal.marks new middle (after_step table step)
  marked = deciding.marked

  -- and the job's file was there at the start
  file : IsItsFile journal.marks (reading_of start) deciding.decision.number name
  file = decided_file old_form journal start table step mark name deciding.decision

  -- names that are not those of jobs are other ones
  elsewhere : (other : List ℕ) → job_named other ≡ None → ¬ (Contains (name ∷ []) other)
  elsewhere other none = apart_from name other (λ same. job_name_differs name other file.job file.named none (sym same))

  -- the removed name is one of the spool
  is_spool : (other : List ℕ) → Contains (name ∷ []) other → IsSpoolName other
  is_spool other is = inr (inr (inr (rw (only_one name other is) (rw file.named refl))))

  -- what an image shows of which this one lacks the file
  shown_before : (image : Files) (alone : LeavesOthers (Contains (name ∷ [])) middle image)
      → IsShownWith new (after_step table step) alone.from
  shown_before image alone = record {
    shows = marked.shows alone.from alone.was;
    gives = subst (λ content. GivesReadJournal content new) (sym (marked.holds.same alone.from alone.was)) marked.holds.gives;
  }

  -- a file that counts there is not that of the finished job
  counted_elsewhere : (image : Files) (alone : LeavesOthers (Contains (name ∷ [])) middle image) (marks : List Mark) (other : List ℕ)
      → HasMarks alone.from marks → counts marks other ≡ true → ¬ (Contains (name ∷ []) other)
  counted_elsewhere image alone marks other had counted is =
      let shown : IsShownWith new (after_step table step) alone.from = shown_before image alone in
      let same : new.marks ≡ marks =
      sym (ap (λ (read : JournalRead). read.marks) (reads_as new (after_step table step) alone.from shown))
      ∙ had_same alone.from (after_step table step) marks (by_name alone.from (after_step table step) shown.shows) had in
      let decided : is_decided file.job.number marks ≡ true =
      ap (is_decided file.job.number) (sym same) ∙ ap (λ n. is_decided n new.marks) file.number_is
      ∙ decided_by_it journal.marks new.marks mark deciding.decision.number deciding.more deciding.decision.decided in
      let impossible : false ≡ true = sym (ap not decided) ∙ sym (ap (counts_as marks) file.named)
      ∙ sym (ap (counts marks) (only_one name other is)) ∙ counted in
      cc

  -- an image without the file shows the same table
  without_file : (image : Files) → LeavesOthers (Contains (name ∷ [])) middle image → Shows image (after_step table step)
  without_file image alone = other_files_count_for_nothing alone.from image (record {
    sequence = alone.others sequence_file (elsewhere sequence_file sequence_no_job);
    journal = alone.others journal_file (elsewhere journal_file journal_no_job);
    jobs = λ marks had other counted. alone.others other (counted_elsewhere image alone marks other had counted);
  }) ∙ (shown_before image alone).shows

  -- images of the middle leave other files alone
  through : (from : Files) → IsImage middle from → LeavesOthers IsSpoolName start from
  through from is = (changes_end _ first second deciding.adds
      (stepping_start table (step ∷ []) start deciding.decision.is_mark.current.shows) from is).others

  -- through both runs, the one step is made at most
  decide_stepping : ChangesFiles (IsSteppingOn table (step ∷ []) start) first third
  decide_stepping =
      changes_join _ _ first second third deciding.adds deciding.clears
      (λ image alone. stepping_one table step start image (without_file image alone)
      (leaves_through (Contains (name ∷ [])) start middle image is_spool through alone))

  -- no other file has the number of the job
  no_other_file : (other : List ℕ) (job : NamedJob) → job_named other ≡ Some job → job.number ≡ deciding.decision.number → ¬ (other ≡ name)
      → finite.get (reading_of start) other ≡ None
  no_other_file other job named number_is differ = by_held (finite.get (reading_of start) other) refl where
    by_held : (found : Option (List ℕ)) → finite.get (reading_of start) other ≡ found → finite.get (reading_of start) other ≡ None
    by_held None is = is
    by_held (Some bytes) held = absurd (differ (file.alone (record { name = other; job = job; bytes = bytes }) (record {
      held = held;
      named = named;
      undecided = ap (λ n. is_decided n journal.marks) number_is ∙ file.undecided;
    }) number_is))

  -- before the removal, that is the only file of a finished number
  only_file : (other : List ℕ) (job : NamedJob) → job_named other ≡ Some job → is_decided job.number new.marks ≡ true → ¬ (other ≡ name)
      → finite.get (reading_of middle) other ≡ None
  only_file other job named decided differ =
      elim (decided_before_or_by_it journal.marks new.marks mark job.number deciding.legal deciding.more decided) [
        | inl old ↦ marked.decided other job named old
        | inr now ↦ deciding.keeps other (job_name_apart temporary_file journal_file other job temporary_no_job journal_no_job named)
            ∙ no_other_file other job named (one_decided mark job.number deciding.decision.number now deciding.decision.decided) differ
      ]

  -- so none is left
  none_left : AreCleared (name ∷ []) middle third.now.directory → HasNoDecidedFile new.marks (reading_of third.now.directory)
  none_left cleared other job named decided = elim (one_or_other other name) [
    | inl same ↦ cleared.gone other (subst (Contains (name ∷ [])) (sym same) (is_the_one name)) (reading_of third.now.directory)
        (reading_is_image third.now.directory)
    | inr differ ↦ cleared.others other (apart_from name other differ) ∙ only_file other job named decided differ
  ]

  -- each file that exists was there at the start, so its name has the form that is kept
  forms_left : AreCleared (name ∷ []) middle third.now.directory
      → HaveForms old_form (after_step table step).last (reading_of third.now.directory)
  forms_left cleared = record {
    each = λ other job named there. elim (one_or_other other name) [
      | inl same ↦
          let gone : finite.get (reading_of third.now.directory) other ≡ None =
          cleared.gone other (subst (Contains (name ∷ [])) (sym same) (is_the_one name)) (reading_of third.now.directory)
          (reading_is_image third.now.directory) in
          let impossible : false ≡ true = sym (ap is_some gone) ∙ there in
          cc
      | inr differ ↦ deciding.decision.is_mark.current.forms.each other job named (subst IsSome
          (cleared.others other (apart_from name other differ)
          ∙ deciding.keeps other (job_name_apart temporary_file journal_file other job temporary_no_job journal_no_job named)) there)
    ];
    drawn = λ number is. still_drawn table step number (deciding.decision.is_mark.current.forms.drawn number is);
  }

  -- and what is kept is current
  decided_current : AreCleared (name ∷ []) middle third.now.directory
      → IsCurrent (kept_with old_form new (after_step table step)) third.now.directory (after_step table step)
  decided_current cleared =
      let each : (image : Files) → IsImage third.now.directory image → LeavesOthers (Contains (name ∷ [])) middle image =
      changes_end _ second third deciding.clears (λ image is. record { from = image; was = is; others = λ other apart. refl }) in
      let no_journal : ¬ (Contains (name ∷ []) journal_file) = elsewhere journal_file journal_no_job in
      let no_sequence : ¬ (Contains (name ∷ []) sequence_file) = elsewhere sequence_file sequence_no_job in
      record {
        shows = λ image is. without_file image (each image is);
        without_scripts_is = refl;
        journal = record {
          durable = cleared.durable;
          same = λ image is. (each image is).others journal_file no_journal
              ∙ marked.holds.same (each image is).from (each image is).was ∙ sym (cleared.others journal_file no_journal);
          gives = subst (λ content. GivesReadJournal content new) (sym (cleared.others journal_file no_journal)) marked.holds.gives;
          no_temp = λ image is. (each image is).others temporary_file (elsewhere temporary_file temporary_no_job)
              ∙ marked.holds.no_temp (each image is).from (each image is).was;
        };
        sequence = λ image is. (each image is).others sequence_file no_sequence
            ∙ marked.sequence (each image is).from (each image is).was ∙ sym (cleared.others sequence_file no_sequence);
        decided = none_left cleared;
        forms = forms_left cleared;
      }

  -- other files than those of the spool read as before
  decide_others : AreCleared (name ∷ []) middle third.now.directory → KeepsOthers start third.now.directory
  decide_others cleared other apart =
      cleared.others other (λ is. apart (is_spool other is)) ∙ deciding.keeps other (λ either. apart (journal_is_spool other either))

  -- whatever the removal answers
  pub uncleared_call : (result : Result JournalRead HostFault) → IsErr result
      → StoreCall table (step ∷ []) first third (kept_by old_form (after_step table step) result)
  uncleared_call = unmarked_call old_form table step first third decide_stepping

  pub cleared_call : AreCleared (name ∷ []) middle third.now.directory
      → StoreCall {E = HostFault} table (step ∷ []) first third (Ok (kept_with old_form new (after_step table step)))
  cleared_call cleared = record { files = decide_stepping; current = decided_current cleared; others = decide_others cleared }
