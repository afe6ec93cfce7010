-- What a call of the store leaves that makes one step by its mark.
use Rattle.std.proofs.Common.{◌≡◌, ℕ, Bool, true, false, List, [], ◌∷◌, sym, ap, subst, ◌∙◌, refl, inl, inr, Result, Ok, Err}
use Rattle.std.specs.Prelude.{Option, Some, None, IfErr, IfSome, IsErr, option_map}
use Rattle.host_calls.specs.declared.fault.HostFault.{HostFault}
use Rattle.host_calls.specs.Directory.{Directory, reading_of}
use Rattle.host_calls.specs.Session.{CallsInside, Session}
use Rattle.host_calls.specs.World.{World}
use Rattle.job_name.specs.JobName.{SpellsJobName}
use Rattle.spool_model.specs.declared.entry.Entry.TheVariants.{Live, Done}
use Rattle.spool_model.specs.declared.job.Job.{Job}
use Rattle.spool_model.specs.declared.state.State.TheVariants.{Pending}
use Rattle.spool_model.specs.declared.step.Step.{Step}
use Rattle.spool_model.specs.declared.step.Step.TheVariants.{Start}
use Rattle.spool_model.specs.JobTable.{JobEntry, JobState, JobTable, entry_at}
use Rattle.spool_model.specs.Steps.{IsLegal, after_step}
use Rattle.start_journal.specs.declared.mark.Mark.{Mark}
use Rattle.start_journal.specs.declared.mark.Mark.TheVariants.{Started}
use Rattle.start_journal.specs.JournalChange.{added}
use Rattle.start_journal.specs.Journals.{JournalRead}
use Rattle.start_journal.specs.Marks.{AreLegalMarks, decides}
use Rattle.whole_file.specs.Others.{ChangesFiles}
use Rattle.step_runs.specs.WithoutScripts.{without_scripts, entry_without_script, job_without_script, step_without_script}
use Rattle.step_runs.specs.Calls.{IsSteppingOn, StoreCall}
use Rattle.step_runs.specs.Current.{HaveForms, IsCurrent, Kept, is_new_form}
use Rattle.step_runs.proofs.WithoutScriptsLemmas.{entries_are_without_scripts, legal_as_on_the_table, steps_as_on_the_table}
use Rattle.spool_shows.specs.Laws.{AddsMark}
use Rattle.host_calls.specs.declared.store_fault.StoreFault.{StoreFault}
use Rattle.host_calls.specs.declared.store_fault.StoreFault.TheVariants.{FileFault}
use Rattle.host_calls.specs.StoreFaults.{IsOfStep}
use Rattle.spool_store.specs.inside.JournalMark.{HaveOneMore, IsDecisionOf, IsMarkOf, IsMarkDurable, KeepsFiles, kept_with}
use Rattle.spool_store.specs.Scripts.{IsLiveFileName}
use Rattle.spool_store.specs.OneStep.{HasItsMark, MakesStep, with_room}
use Rattle.spool_store.specs.Stored.{IsStored}
use Rattle.spool_store.proofs.DecideLemmas.{decided_before_or_by_it, one_more, still_drawn}
use Rattle.spool_store.proofs.MarkingCalls.{journal_is_spool}
use Rattle.spool_store.proofs.RoomLemmas.{forms_still}
use Rattle.spool_store.proofs.StoredSteps.{IsStartInRange, stored_with}

-- From the table without scripts to the table.

-- a live job without its script is one of the table
record IsLiveOn (table : JobTable) (number : ℕ) (job : Job) (state : JobState) : Type 0 where
  whole : Job
  held : entry_at table number ≡ Some (Live whole state)
  same : job_without_script whole ≡ job

-- each of them is
live_on : (table : JobTable) (number : ℕ) (job : Job) (state : JobState) → entry_at (without_scripts table) number ≡ Some (Live job state)
    → IsLiveOn table number job state
live_on table number job state is = by_entry (entry_at table number) refl where
  by_entry : (found : Option JobEntry) → entry_at table number ≡ found → IsLiveOn table number job state
  by_entry None held =
      let impossible : ◌≡◌ {A = Option JobEntry} None (Some (Live job state)) =
      sym (entries_are_without_scripts table number ∙ ap (option_map entry_without_script) held) ∙ is in
      cc
  by_entry (Some (Done of)) held =
      let impossible : ◌≡◌ {A = Option JobEntry} (Some (Done of)) (Some (Live job state)) =
      sym (entries_are_without_scripts table number ∙ ap (option_map entry_without_script) held) ∙ is in
      cc
  by_entry (Some (Live whole other)) held =
      let same : ◌≡◌ {A = Option JobEntry} (Some (Live (job_without_script whole) other)) (Some (Live job state)) =
      sym (entries_are_without_scripts table number ∙ ap (option_map entry_without_script) held) ∙ is in
      let same_state : other ≡ state = cc in
      let same_job : job_without_script whole ≡ job = cc in
      record { whole = whole; held = held ∙ ap (λ s. Some (Live whole s)) same_state; same = same_job }

-- the file of a job of the table without scripts is that of the table's job
file_on : (table : JobTable) (old_form : List ℕ) (number : ℕ) (name : List ℕ) → IsLiveFileName (without_scripts table) old_form number name
    → IsLiveFileName table old_form number name
file_on table old_form number name of =
    let live : IsLiveOn table number of.job of.state = live_on table number of.job of.state of.lives in
    record {
      job = live.whole;
      state = of.state;
      lives = live.held;
      spelled =
          subst (λ (job : Job). SpellsJobName name job.queue number job.minute (is_new_form old_form number)) (sym live.same) of.spelled;
    }

-- the mark of a step there is its mark on the table
adds_on : (table : JobTable) (step : Step) (mark : Mark) → AddsMark (without_scripts table) step mark → AddsMark table step mark
adds_on table (Start number second) mark (job, held, adds) =
    let live : IsLiveOn table number job Pending = live_on table number job Pending held in
    (live.whole, live.held, adds ∙ ap (λ (of : Job). Started number of.queue second) (sym live.same))
adds_on table _ mark adds = adds

-- A step of a store.

-- The store is seen so, and the step, which has no script, is legal on it and adds the mark.
pub record IsStepOf (inside scanned : Kept) (step : Step) (mark : Mark) : Type 0 where
  pub view : inside ≡ scanned
  pub legal : IsLegal scanned.table step
  pub adds : AddsMark inside.table step mark
  pub without_scripts : step_without_script step ≡ step

-- what is known of what is seen is known of what is kept
pub legal_inside : (inside scanned : Kept) (step : Step) → inside ≡ scanned → IsLegal scanned.table step → IsLegal inside.table step
legal_inside inside scanned step view legal = subst (λ (kept : Kept). IsLegal kept.table step) (sym view) legal

-- and so it is current
current_inside : (inside scanned : Kept) (directory : Directory) (table : JobTable) → inside ≡ scanned → IsCurrent scanned directory table
    → IsCurrent inside directory table
current_inside inside scanned directory table view current = subst (λ (kept : Kept). IsCurrent kept directory table) (sym view) current

-- it is a step on the table too
pub mark_of_step : (inside scanned : Kept) (directory : Directory) (table : JobTable) (step : Step) (mark : Mark) → IsStepOf inside scanned
    step mark → IsCurrent scanned directory table → IsMarkOf inside.old_form inside.journal directory table step mark
mark_of_step inside scanned directory table step mark of current =
    let now : IsCurrent inside directory table = current_inside inside scanned directory table of.view current in
    record {
      current = record {
        shows = now.shows;
        without_scripts_is = refl;
        journal = now.journal;
        sequence = now.sequence;
        decided = now.decided;
        forms = now.forms;
      };
      legal = (legal_as_on_the_table table step).0
          (subst (IsLegal (without_scripts table)) (sym of.without_scripts)
          (subst (λ t. IsLegal t step) now.without_scripts_is (legal_inside inside scanned step of.view of.legal)));
      adds = adds_on table step mark (subst (λ t. AddsMark t step mark) now.without_scripts_is of.adds);
    }

-- what holds of a value that may be missing holds of the one that exists
pub of_some : {X : Type 0} (P : X → Type 0) (found : Option X) (value : X) → found ≡ Some value → IfSome found P → P value
of_some P found value is holds = subst (λ some. IfSome some P) is holds

-- The step decides the live job whose file has the name.
pub record IsDecidingStep (inside scanned : Kept) (step : Step) (mark : Mark) (name : List ℕ) : Type 0 where
  pub step_of : IsStepOf inside scanned step mark
  pub number : ℕ
  pub decided : decides number mark ≡ true
  pub file : IsLiveFileName scanned.table scanned.old_form number name

-- it is a decision on the table too
pub decision_of_step : (inside scanned : Kept) (directory : Directory) (table : JobTable) (step : Step) (mark : Mark) (name : List ℕ)
    → IsDecidingStep inside scanned step mark name → IsCurrent scanned directory table
    → IsDecisionOf inside.old_form inside.journal directory table step mark name
decision_of_step inside scanned directory table step mark name of current = record {
  is_mark = mark_of_step inside scanned directory table step mark of.step_of current;
  number = of.number;
  decided = of.decided;
  file = file_on table inside.old_form of.number name
      (subst (λ (kept : Kept). IsLiveFileName (without_scripts table) kept.old_form of.number name) (sym of.step_of.view)
      (subst (λ t. IsLiveFileName t scanned.old_form of.number name) current.without_scripts_is of.file));
}

-- what is kept then is as it should be
pub stored_step : (inside scanned : Kept) (jobs : JobTable) (new : JournalRead) (step : Step) (mark : Mark) → IsStepOf inside scanned
    step mark → IsStored inside → AreLegalMarks inside.journal.marks → IsStartInRange step → new ≡ added (with_room inside.journal) mark
    → jobs ≡ after_step inside.table step → IsStored (record { table = jobs; journal = new; old_form = inside.old_form })
stored_step inside scanned jobs new step mark of is legal range made after =
    subst (λ table. IsStored (record { table = table; journal = new; old_form = inside.old_form })) (sym after)
    (stored_with inside new step mark is legal (legal_inside inside scanned step of.view of.legal) of.adds range
    (one_more inside.journal new mark made))

-- and the journal has the step's mark, compacted before where it needs room
pub has_its_mark : (inside scanned : Kept) (jobs : JobTable) (new : JournalRead) (step : Step) (mark : Mark)
    → IsStepOf inside scanned step mark → new ≡ added (with_room inside.journal) mark
    → HasItsMark scanned step (record { table = jobs; journal = new; old_form = inside.old_form })
has_its_mark inside scanned jobs new step mark of made =
    subst (λ (kept : Kept). HasItsMark kept step (record { table = jobs; journal = new; old_form = inside.old_form })) of.view
    (record { mark = mark; adds = of.adds; journal = made })

-- The call.

-- a call that failed
pub failed_step : (tells : Bool) (before after : Session) (old new : World) (kept : Kept) (step : Step) (result : Result Kept StoreFault)
    → IsErr result → CallsInside FileFault before after result → IfErr result IsOfStep →
    (tells ≡ true → (table : JobTable) → IsCurrent kept old.now.directory table
    → ChangesFiles (IsSteppingOn table (step ∷ []) old.now.directory) old new) → MakesStep tells before after old new kept step result
failed_step tells before after old new kept step (Ok stored) failed inside faults files = cc
failed_step tells before after old new kept step (Err fault) failed inside faults files =
    record {
      inside = inside;
      faults = faults;
      table_is = tt;
      marked = tt;
      files = λ is table current. record { files = files is table current; current = tt; others = tt };
    }

-- The step was made, also of what is kept, which was current.
pub record IsMade (inside scanned : Kept) (jobs : JobTable) (table : JobTable) (step : Step) (mark : Mark) (before : World) : Type 0 where
  pub step_of : IsStepOf inside scanned step mark
  pub kept : jobs ≡ after_step inside.table step
  pub current : IsCurrent scanned before.now.directory table

module _ (inside scanned : Kept) (jobs : JobTable) (new : JournalRead) (table : JobTable) (step : Step) (mark : Mark) (before after : World)
    (made : IsMade inside scanned jobs table step mark before) where
  -- the table that is kept is the one after the step, without scripts
  without_scripts_after : jobs ≡ without_scripts (after_step table step)
  without_scripts_after =
      made.kept ∙ ap (λ t. after_step t step)
      (current_inside inside scanned before.now.directory table made.step_of.view made.current).without_scripts_is
      ∙ ap (after_step (without_scripts table)) (sym made.step_of.without_scripts) ∙ sym (steps_as_on_the_table table step)

  -- a call whose journal is current after the step
  pub current_call : StoreCall {E = HostFault} table (step ∷ []) before after (Ok (kept_with inside.old_form new (after_step table step)))
      → StoreCall {E = StoreFault} table (step ∷ []) before after (Ok (record { table = jobs; journal = new; old_form = inside.old_form }))
  current_call call = record {
    files = call.files;
    current = record {
      shows = call.current.shows;
      without_scripts_is = without_scripts_after;
      journal = call.current.journal;
      sequence = call.current.sequence;
      decided = call.current.decided;
      forms = call.current.forms;
    };
    others = call.others;
  }

  -- names that have the forms that are kept have them after the step
  forms_on : HaveForms inside.old_form table.last (reading_of after.now.directory)
      → HaveForms inside.old_form (after_step table step).last (reading_of after.now.directory)
  forms_on forms = record { each = forms.each; drawn = λ number is. still_drawn table step number (forms.drawn number is) }

  -- a mark that decides nothing leaves no file of a finished number
  marked_current : AreLegalMarks inside.journal.marks → HaveOneMore inside.journal.marks mark new.marks
      → ((number : ℕ) → decides number mark ≡ false) → IsMarkDurable inside.journal.marks new after.now.directory (after_step table step)
      → KeepsFiles before.now.directory after.now.directory
      → IsCurrent (kept_with inside.old_form new (after_step table step)) after.now.directory (after_step table step)
  marked_current legal more unchecked marked keeps = record {
    shows = marked.shows;
    without_scripts_is = refl;
    journal = marked.holds;
    sequence = marked.sequence;
    decided = λ name job named decided. elim (decided_before_or_by_it inside.journal.marks new.marks mark job.number legal more decided) [
      | inl old ↦ marked.decided name job named old
      | inr now ↦ let impossible : true ≡ false = sym now ∙ unchecked job.number in cc
    ];
    forms = forms_on (forms_still inside.old_form table.last before.now.directory after.now.directory keeps
        (current_inside inside scanned before.now.directory table made.step_of.view made.current).forms);
  }

  -- so a call of such a mark is current after it too
  pub marked_call : AreLegalMarks inside.journal.marks → new ≡ added (with_room inside.journal) mark
      → ((number : ℕ) → decides number mark ≡ false) → ChangesFiles (IsSteppingOn table (step ∷ []) before.now.directory) before after
      → IsMarkDurable inside.journal.marks new after.now.directory (after_step table step)
      → KeepsFiles before.now.directory after.now.directory
      → StoreCall {E = StoreFault} table (step ∷ []) before after (Ok (record { table = jobs; journal = new; old_form = inside.old_form }))
  marked_call legal made unchecked files marked keeps = current_call (record {
    files = files;
    current = marked_current legal (one_more inside.journal new mark made) unchecked marked keeps;
    others = λ name other. keeps name (λ either. other (journal_is_spool name either));
  })
