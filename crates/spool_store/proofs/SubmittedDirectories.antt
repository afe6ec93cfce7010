-- The directory once a number is drawn and the file of its job is placed.
use Rattle.std.proofs.Common.{◌≡◌, ◌+◌, ◌≤◌, ℕ, Bool, true, false, List, sym, ap, subst, ◌∙◌, refl, inl, inr, arith}
use Rattle.std.specs.Prelude.{Some, None, IsSome}
use Rattle.std.specs.FinMap as finite
use Rattle.host_calls.specs.Directory.{Files, Directory, IsImage, reading_of}
use Rattle.host_calls.proofs.DirectoryLemmas.{reading_is_image}
use Rattle.sequence_file.specs.Draw.{IsNumberDrawn}
use Rattle.sequence_file.specs.Sequence.{sequence_file}
use Rattle.whole_file.specs.Temporary.{temporary_file}
use Rattle.spool_model.specs.declared.job.Job.{Job}
use Rattle.spool_model.specs.declared.step.Step.TheVariants.{Draw, Accept}
use Rattle.spool_model.specs.JobTable.{JobTable}
use Rattle.spool_model.specs.Steps.{after_step, after_steps, submission}
use Rattle.start_journal.specs.JournalChange.{GivesReadJournal}
use Rattle.start_journal.specs.Journals.{are_drawn, journal_file}
use Rattle.start_journal.specs.Marks.{is_decided}
use Rattle.whole_file.specs.Placement.{IsPlaced, IsPlacing}
use Rattle.whole_file.proofs.OthersLemmas.{neither, one_or_other}
use Rattle.job_name.specs.JobName.{NamedJob, job_named}
use Rattle.spool_shows.proofs.FreshNumbers.{fresh_undecided}
use Rattle.spool_shows.proofs.NameLemmas.{differ_by, job_name_apart, job_name_differs, journal_apart, journal_no_job, sequence_no_job, temporary_no_job}
use Rattle.spool_shows.proofs.StepLaws.{accepts_are_shown}
use Rattle.step_runs.specs.WithoutScripts.{without_scripts, job_without_script}
use Rattle.step_runs.specs.Calls.{KeepsOthers}
use Rattle.step_runs.specs.Current.{EachShows, HaveForms, IsCurrent, Kept, is_new_form}
use Rattle.step_runs.proofs.WithoutScriptsLemmas.{steps_as_on_the_table}
use Rattle.spool_store.specs.Submission.{IsNextOn, with_job}
use Rattle.spool_store.proofs.DrawnDirectories.{IsAfterDraw, IsFileOfNext, accepted, not_either, sequence_differs}

-- the table without scripts, after a submission
pub last_without_scripts : (table : JobTable) → (without_scripts table).last ≡ table.last
unfolding without_scripts
last_without_scripts table = refl

without_scripts_submission : (table : JobTable) (job : Job) → without_scripts (after_steps table (submission table job))
    ≡ after_steps (without_scripts table) (submission (without_scripts table) (job_without_script job))
without_scripts_submission table job =
    steps_as_on_the_table (after_step table Draw) (Accept (table.last + 1) job)
    ∙ ap (λ at. after_step at (Accept (table.last + 1) (job_without_script job))) (steps_as_on_the_table table Draw)
    ∙ ap (λ last. after_step (after_step (without_scripts table) Draw) (Accept (last + 1) (job_without_script job)))
    (sym (last_without_scripts table))

-- The directory once the number is drawn and the file placed.
pub record IsSubmitted (table : JobTable) (job : Job) (name : List ℕ) (old middle new : Directory) : Type 0 where
  pub drawn : IsNumberDrawn (table.last + 1) old middle
  pub placed : IsPlaced temporary_file name job.script middle new
  pub after : (image : Files) → IsImage middle image → IsAfterDraw table old image
  pub placing : (image : Files) → IsImage new image → IsPlacing temporary_file name job.script middle image

module _ (kept : Kept) (table : JobTable) (job : Job) (name : List ℕ) (file : IsFileOfNext table job name) (old middle new : Directory)
    (next : IsNextOn kept old table (table.last + 1)) (is : IsSubmitted table job name old middle new) where
  shows : EachShows new (after_steps table (submission table job))
  shows image of =
      let from : Files = (is.placing image of).alone.from in
      let draw : IsAfterDraw table old from = is.after from (is.placing image of).alone.was in
      accepts_are_shown draw.from image table job (next.current.shows draw.from draw.was)
      (accepted table job name file draw.from from image draw.drawn (is.placing image of).alone.others (is.placed.placed image of))

  -- the journal is the one of the start
  journal_same : (image : Files) → IsImage new image → finite.get image journal_file ≡ finite.get (reading_of old) journal_file
  journal_same image of =
      let from : Files = (is.placing image of).alone.from in
      let draw : IsAfterDraw table old from = is.after from (is.placing image of).alone.was in
      (is.placing image of).alone.others journal_file
      (neither temporary_file name journal_file (differ_by journal_file temporary_file refl)
      (λ same. job_name_differs name journal_file _ file.named journal_no_job (sym same)))
      ∙ draw.drawn.others journal_file journal_apart
      ∙ next.current.journal.same draw.from draw.was

  sequence_is : (image : Files) → IsImage new image → finite.get image sequence_file ≡ Some is.drawn.text
  sequence_is image of =
      (is.placing image of).alone.others sequence_file (sequence_differs table job name file)
      ∙ is.drawn.placed.placed (is.placing image of).alone.from (is.placing image of).alone.was

  -- no mark decides the new number
  undecided : is_decided (table.last + 1) kept.journal.marks ≡ false
  undecided =
      let last_is : kept.table.last ≡ table.last = ap (λ (at : JobTable). at.last) next.current.without_scripts_is
      ∙ last_without_scripts table in
      let drawn : are_drawn kept.table.last kept.journal.marks ≡ true = next.stored.drawn in
      fresh_undecided kept.table.last (table.last + 1) kept.journal.marks (omega arith) drawn

  none_decided : (other : List ℕ) (named : NamedJob) → job_named other ≡ Some named → is_decided named.number kept.journal.marks ≡ true
      → finite.get (reading_of new) other ≡ None
  none_decided other named of decided = elim (one_or_other other name) [
    | inl same ↦ absurd (not_new same)
    | inr differs ↦
        is.placed.others other (neither temporary_file name other (job_name_differs other temporary_file named of temporary_no_job) differs)
        ∙ is.drawn.placed.others other (job_name_apart temporary_file sequence_file other named temporary_no_job sequence_no_job of)
        ∙ next.current.decided other named of decided
  ] where
    not_new : ¬ (other ≡ name)
    not_new same =
        let both : Some named ≡ Some (record { queue = job.queue; number = table.last + 1; minute = job.minute; new_form = true }) = sym of
        ∙ ap job_named same ∙ file.named in
        let number_is : named.number ≡ table.last + 1 = cc in
        let impossible : true ≡ false = sym decided ∙ ap (λ n. is_decided n kept.journal.marks) number_is ∙ undecided in
        cc

  -- the new number has no name in the old form, since it was not drawn before
  new_is_new_form : is_new_form kept.old_form (table.last + 1) ≡ true
  new_is_new_form = by_form (is_new_form kept.old_form (table.last + 1)) refl where
    by_form : (new_form : Bool) → is_new_form kept.old_form (table.last + 1) ≡ new_form → is_new_form kept.old_form (table.last + 1) ≡ true
    by_form true form = form
    by_form false form = absurd (omega (arith, next.current.forms.drawn (table.last + 1) form))

  -- and no other name has come
  forms : HaveForms kept.old_form (after_steps table (submission table job)).last (reading_of new)
  forms = record {
    each = λ other named of there. elim (one_or_other other name) [
      | inl same ↦
          let both : Some named ≡ Some (record { queue = job.queue; number = table.last + 1; minute = job.minute; new_form = true }) =
          sym of ∙ ap job_named same ∙ file.named in
          let number_is : named.number ≡ table.last + 1 = cc in
          let new_form_is : named.new_form ≡ true = cc in
          new_form_is ∙ sym (ap (is_new_form kept.old_form) number_is ∙ new_is_new_form)
      | inr differs ↦ next.current.forms.each other named of (subst IsSome
          (is.placed.others other
          (neither temporary_file name other (job_name_differs other temporary_file named of temporary_no_job) differs)
          ∙ is.drawn.placed.others other (job_name_apart temporary_file sequence_file other named temporary_no_job sequence_no_job of))
          there)
    ];
    drawn = λ number form. let before : number ≤ table.last = next.current.forms.drawn number form in omega arith;
  }

  pub submitted_current : IsCurrent (with_job kept job) new (after_steps table (submission table job))
  submitted_current = record {
    shows = shows;
    without_scripts_is = ap (λ at. after_steps at (submission at (job_without_script job))) next.current.without_scripts_is
        ∙ sym (without_scripts_submission table job);
    journal = record {
      durable = is.placed.durable;
      same = λ image of. journal_same image of ∙ sym (journal_same (reading_of new) (reading_is_image new));
      gives = subst (λ content. GivesReadJournal content kept.journal) (sym (journal_same (reading_of new) (reading_is_image new)))
          next.current.journal.gives;
      no_temp = is.placed.no_temp;
    };
    sequence = λ image of. sequence_is image of ∙ sym (sequence_is (reading_of new) (reading_is_image new));
    decided = none_decided;
    forms = forms;
  }

  pub keeps_others : KeepsOthers old new
  keeps_others other differs =
      is.placed.others other (not_either name other (inr (inr (inr (subst IsSome (sym file.named) refl)))) differs)
      ∙ is.drawn.placed.others other (not_either sequence_file other (inl refl) differs)
